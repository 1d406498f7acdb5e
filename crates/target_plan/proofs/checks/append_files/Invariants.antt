use Rattle.std.proofs.Common.{◌≡◌, ◌++◌, ◌∷◌, map, take}
use Rattle.target_plan.specs.Drafts.{file_of}
use Rattle.target_plan.proofs.checks.append_files.Given as goal

abbrev pub invariant-loop-planned : goal.invariant-loop-planned
invariant-loop-planned l = l.files.items ≡ l.fn.files.items ++ record { name = l.draft.source.release_name; origin = l.draft.origin } ∷ map file_of (take l.planned-index l.draft.lists)
