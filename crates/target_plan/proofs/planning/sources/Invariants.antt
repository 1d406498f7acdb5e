use Rattle.std.proofs.Common.{◌≡◌, map, take}
use Rattle.target_plan.specs.Drafts.{finished}
use Rattle.target_plan.proofs.planning.sources.Given as goal

abbrev pub invariant-loop-draft : goal.invariant-loop-draft
invariant-loop-draft l = l.sources ≡ map finished (take l.draft-index l.drafts)
