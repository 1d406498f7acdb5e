use Rattle.std.proofs.Common.{ℕ, List, subst}
use Rattle.std.specs.List.Sorted.{IsStrictlyIncreasing}
use Rattle.target_plan.proofs.Distinct.{distinct_sorted}
use Rattle.target_plan.proofs.marks.are_distinct.Goals as goal

pub returns : goal.returns
returns c = λ e.
    distinct_sorted c.args.digests.items c.sort_unstable.new.self.items c.sort_unstable.ensures.permutation (subst (λ (xs : List ℕ). IsStrictlyIncreasing xs) c.as_slice.ensures.value (c.is_rising.ensures e))
