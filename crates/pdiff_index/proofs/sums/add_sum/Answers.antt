use Rattle.std.proofs.Common.{◌≡◌, sym, ap, ◌∙◌, None, rules}
use Rattle.std.specs.BTreeMap.{get}
use Rattle.std.specs.Cmp.Lexicographic.{slice_cmp}
use Rattle.std.specs.Ordering.{nat_cmp}
use Rattle.pdiff_index.proofs.SumLemmas.{sum_inserted}
use Rattle.pdiff_index.proofs.sums.add_sum.Goals as goal

pub returns-clause-sums : goal.returns-clause-sums
returns-clause-sums c = λ name.
    let sums = c.args.sums.now in
    let step = c.args.step.now in
    let absent : get (slice_cmp nat_cmp) sums step.name ≡ None = search rules in
    sum_inserted (get (slice_cmp nat_cmp) sums name) (get (slice_cmp nat_cmp) c.insert.new.self name) step name (search rules) (λ same. sym (ap (get (slice_cmp nat_cmp) sums) same) ∙ absent)
