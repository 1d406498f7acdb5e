-- What the sums of installed lists stand for.
use Rattle.acq_base.specs.declared.installed.Old.{Old}
use Rattle.lists_dir.specs.declared.summed.Installed.{Installed}

-- what is installed, with the bytes of its lists
abbrev pub old_in : Installed → Old
old_in installed = record { release = installed.release; lists = installed.lists }
