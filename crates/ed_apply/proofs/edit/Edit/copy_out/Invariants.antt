use Rattle.std.proofs.Common.{◌≡◌, ◌++◌, take}
use Rattle.std.specs.List.{flat_map}
use Rattle.ed_apply.specs.Segments.{segment_bytes}
use Rattle.ed_apply.proofs.edit.Edit.copy_out.Given as goal

abbrev pub invariant-loop-segment : goal.invariant-loop-segment
invariant-loop-segment l = l.file ≡ flat_map (segment_bytes l.self.known.ends.items (l.old ++ l.self.known.texts.items)) (take l.segment-index l.self.layout.segments.items)
