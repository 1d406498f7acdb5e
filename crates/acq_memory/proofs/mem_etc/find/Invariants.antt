use Rattle.std.proofs.Common.{◌≡◌, drop}
use Rattle.acq_outside.specs.Etc.{bytes_at}
use Rattle.acq_memory.proofs.mem_etc.find.Given as goal

-- none of the files before is the one
abbrev pub invariant-loop-file : goal.invariant-loop-file
invariant-loop-file l = bytes_at (drop l.file-index l.files) l.place l.name ≡ bytes_at l.files l.place l.name
