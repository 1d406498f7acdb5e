use Rattle.update_core.specs.BoardRefinement.{board_of}
use Rattle.scenarios.proofs.Kept.{on_absorbed}
use Rattle.scenarios.proofs.board.take_in.Goals as goal

pub returns : goal.returns
returns g c = on_absorbed _ _ (board_of c.args.board.now) (board_of c.absorb.new.self) c.args.lane c.args.number c.args.closed c.absorb.result c.absorb.ensures.takes
