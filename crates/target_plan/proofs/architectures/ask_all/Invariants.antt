use Rattle.std.proofs.Common.{◌≡◌, ◌++◌, map, take}
use Rattle.target_plan.specs.Offers.{architectures}
use Rattle.target_plan.specs.Seen.{seen_asked}
use Rattle.target_plan.proofs.architectures.ask_all.Given as goal

abbrev pub invariant-loop-arch : goal.invariant-loop-arch
invariant-loop-arch l = map seen_asked l.asked.items ≡ map seen_asked l.fn.asked.items ++ map (λ arch. (arch, l.entry)) (take l.arch-index (architectures l.settings l.entry))
