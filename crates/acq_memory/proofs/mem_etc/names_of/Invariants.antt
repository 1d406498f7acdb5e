use Rattle.std.proofs.Common.{◌≡◌, ◌++◌, drop}
use Rattle.acq_outside.specs.Etc.{names_in}
use Rattle.acq_memory.proofs.mem_etc.names_of.Given as goal

-- the names so far and those of the rest are all
abbrev pub invariant-loop-file : goal.invariant-loop-file
invariant-loop-file l = l.names ++ names_in (drop l.file-index l.files) l.place ≡ names_in l.files l.place
