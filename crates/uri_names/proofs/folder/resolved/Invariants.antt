-- The segments so far are entered.
use Rattle.std.proofs.Common.{◌≡◌, map, fold, take, []}
use Rattle.uri_names.specs.Folder as spec
use Rattle.uri_names.proofs.folder.resolved.Given as goal

abbrev pub invariant-loop-segment : goal.invariant-loop-segment
invariant-loop-segment l =
    map (λ segment. segment.now) l.kept.items ≡ fold spec.enter [] (map (λ segment. segment.now) (take l.segment-index l.segments))
