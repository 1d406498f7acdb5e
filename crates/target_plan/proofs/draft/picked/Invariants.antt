use Rattle.std.proofs.Common.{◌≡◌, map, take}
use Rattle.std.specs.List.{filter}
use Rattle.kept_hooks.specs.Picking.{is_picked}
use Rattle.target_plan.specs.Drafts.{planned_of}
use Rattle.target_plan.proofs.draft.picked.Given as goal

abbrev pub invariant-loop-offer : goal.invariant-loop-offer
invariant-loop-offer g l = l.lists.items ≡ filter (λ planned. is_picked l.picker.pick planned.target) (map (planned_of l.first) (take l.offer-index l.offers))
