-- What holds of the definitions of this crate, for the proofs of the crates above.
use Rattle.acq_base.specs.Plan.{IsPlanned, names_of}
use Rattle.acq_base.specs.declared.plan.Source.{Source}
use Rattle.acq_outside.specs.Disk.{IsName}
use Rattle.lists_dir.proofs.DiskNames.{names_fit}
use Rattle.std.specs.Prelude.{All}

pub names_are_of_a_disk : (source : Source) → IsPlanned source → All IsName (names_of source)
names_are_of_a_disk = names_fit
