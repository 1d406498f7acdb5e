use Rattle.std.proofs.Common.{All, take}
use Rattle.acq_outside.specs.Disk.{IsName}
use Rattle.acq_memory.proofs.start.are_names.Given as goal

abbrev pub invariant-loop-file : goal.invariant-loop-file
invariant-loop-file l = All (λ file. IsName file.0) (take l.file-index l.files)
