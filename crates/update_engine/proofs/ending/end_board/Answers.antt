use Rattle.update_engine.proofs.Finishing.{finished}
use Rattle.update_engine.proofs.Known.{ends_known}
use Rattle.update_engine.proofs.ending.end_board.Goals as goal

pub into_log-requires : goal.into_log-requires
into_log-requires g c = finished ends_known _ _ c.requires.stands c.requires.quiet c.requires.none

pub returns-clause-finished : goal.returns-clause-finished
returns-clause-finished g c = finished ends_known _ _ c.requires.stands c.requires.quiet c.requires.none
