use Rattle.update_engine.proofs.OnBoards.{only_none}
use Rattle.update_engine.proofs.Stepping.{goes_nowhere}
use Rattle.update_engine.proofs.looping.install_between.Goals as goal

pub returns-then-together-clause-goes : goal.returns-then-together-clause-goes
returns-then-together-clause-goes g c = goes_nowhere _ _

pub returns-then-together-clause-only : goal.returns-then-together-clause-only
returns-then-together-clause-only g c = only_none _
