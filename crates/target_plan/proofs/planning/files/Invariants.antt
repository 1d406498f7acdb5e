use Rattle.std.proofs.Common.{◌≡◌, take}
use Rattle.std.specs.List.{flat_map}
use Rattle.target_plan.specs.Drafts.{files_of}
use Rattle.target_plan.proofs.planning.files.Given as goal

abbrev pub invariant-loop-draft : goal.invariant-loop-draft
invariant-loop-draft l = l.files.items ≡ flat_map files_of (take l.draft-index l.drafts)
