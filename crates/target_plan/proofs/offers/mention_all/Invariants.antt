use Rattle.std.proofs.Common.{◌≡◌, ◌++◌, map, take}
use Rattle.target_plan.specs.Seen.{seen_mention}
use Rattle.target_plan.proofs.offers.mention_all.Given as goal

abbrev pub invariant-loop-component : goal.invariant-loop-component
invariant-loop-component l = map seen_mention l.mentions.items ≡ map seen_mention l.fn.mentions.items ++ map (λ component. (component, l.entry)) (take l.component-index l.entry.components)
