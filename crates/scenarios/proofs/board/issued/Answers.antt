use Rattle.update_core.specs.BoardRefinement.{board_of}
use Rattle.scenarios.proofs.Kept.{on_issued}
use Rattle.scenarios.proofs.board.issued.Goals as goal

pub returns : goal.returns
returns c = on_issued (board_of c.args.board.now) (board_of c.issue.new.self) c.args.lane c.issue.result c.issue.ensures.board
