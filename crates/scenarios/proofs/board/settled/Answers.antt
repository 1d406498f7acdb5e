use Rattle.update_core.specs.BoardRefinement.{board_of}
use Rattle.scenarios.proofs.Kept.{on_settled}
use Rattle.scenarios.proofs.board.settled.Goals as goal

pub returns : goal.returns
returns c = on_settled (board_of c.args.board.now) (board_of c.settle.new.self) c.args.source c.settle.result c.settle.ensures.board
