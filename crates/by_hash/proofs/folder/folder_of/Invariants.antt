-- What was passed over holds no slash, so the folder stays the same.
use Rattle.std.proofs.Common.{◌≡◌, length}
use Rattle.by_hash.specs.Beside as spec
use Rattle.by_hash.proofs.folder.folder_of.Given as goal

abbrev pub invariant-loop-front : goal.invariant-loop-front
invariant-loop-front l = spec.folder l.path ≡ spec.folder l.front

abbrev pub decreases-loop-front : goal.decreases-loop-front
decreases-loop-front l = length l.front
