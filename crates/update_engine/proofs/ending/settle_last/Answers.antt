use Rattle.std.proofs.Common.{refl}
use Rattle.update_core.specs.BoardRefinement.{board_of}
use Rattle.update_engine.proofs.Committing.{handed_on, on_err}
use Rattle.update_engine.proofs.Ended.{stops_first, stops_one_by_one}
use Rattle.update_engine.proofs.Known.{commits_known}
use Rattle.update_engine.proofs.LastCommit.{last_gathered, last_none}
use Rattle.update_engine.proofs.ending.settle_last.Goals as goal

pub returns-then-together-clause-leaves : goal.returns-then-together-clause-leaves
returns-then-together-clause-leaves g c = last_gathered _ _ (board_of c.gather.new.board) _ _ _ c.if-together.true refl c.in_ok-groups.ensures.goes

pub returns-clause-leaves : goal.returns-clause-leaves
returns-clause-leaves g c = last_none _ _ (board_of c.install_all.new.board) _ _ _ c.if-together.false c.new.ensures c.in_ok-install_all.ensures.goes

pub returns-in_err-groups-clause-stops : goal.returns-in_err-groups-clause-stops
returns-in_err-groups-clause-stops g c = λ cleanup. on_err _ _ (λ error. stops_first commits_known error _ cleanup _ _ _ refl)

pub returns-in_err-install_all-clause-stops : goal.returns-in_err-install_all-clause-stops
returns-in_err-install_all-clause-stops g c = λ cleanup. handed_on _ _ _ c.from_residual-in_err-install_all.ensures.1 (stops_one_by_one _ _ cleanup _ _ _ c.if-together.false c.in_err-install_all.ensures.stops)
