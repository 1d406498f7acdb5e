use Rattle.std.proofs.Common.{◌≡◌, length}
use Rattle.acq_outside.specs.Etc.{places_differ}
use Rattle.acq_memory.proofs.mem_etc.places_differ.Given as goal

abbrev pub invariant-loop-file : goal.invariant-loop-file
invariant-loop-file l = places_differ l.rest ≡ places_differ l.files

abbrev pub decreases-loop-file : goal.decreases-loop-file
decreases-loop-file l = length l.rest
