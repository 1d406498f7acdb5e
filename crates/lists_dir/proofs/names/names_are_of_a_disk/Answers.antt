use Rattle.lists_dir.proofs.Theorems.{names_are_of_a_disk}
use Rattle.lists_dir.proofs.names.names_are_of_a_disk.Goals as goal

pub returns : goal.returns
returns c = names_are_of_a_disk
