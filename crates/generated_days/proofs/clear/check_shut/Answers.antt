use Rattle.std.proofs.Common.{refl}
use Rattle.std.proofs.lemmas.Bool.{ne_eqb}
use Rattle.acq_outside.specs.History.{files_of}
use Rattle.acq_memory.specs.MemDisk.{past_of}
use Rattle.journal_model.specs.Names.{journal}
use Rattle.generated_days.proofs.Clearing.{shut-by}
use Rattle.generated_days.proofs.clear.check_shut.Goals as goal

pub returns-clause-shut : goal.returns-clause-shut
returns-clause-shut c = shut-by (files_of (past_of c.args.disk.now) journal) _ _ (c.in-Ok.ensures.told refl) (ne_eqb _ _ c.if-gate-eq1.false)
