-- The segments so far are joined.
use Rattle.std.proofs.Common.{◌≡◌, map, take}
use Rattle.uri_names.specs.Folder as spec
use Rattle.uri_names.proofs.folder.joined.Given as goal

abbrev pub invariant-loop-segment : goal.invariant-loop-segment
invariant-loop-segment l = l.path ≡ spec.joined (map (λ segment. segment.now) (take l.segment-index l.segments))
