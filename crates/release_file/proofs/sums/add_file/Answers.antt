use Rattle.std.proofs.Common.{◌≡◌, sym, ap, ◌∙◌, None, rules}
use Rattle.std.specs.BTreeMap.{get}
use Rattle.std.specs.Cmp.Lexicographic.{slice_cmp}
use Rattle.std.specs.Ordering.{nat_cmp}
use Rattle.release_file.proofs.SumLines.{sum_inserted}
use Rattle.release_file.proofs.sums.add_file.Goals as goal

pub returns-clause-sums : goal.returns-clause-sums
returns-clause-sums c = λ path.
    let sums = c.args.sums.now in
    let absent : get (slice_cmp nat_cmp) sums c.args.listed.path ≡ None = search rules in
    sum_inserted (get (slice_cmp nat_cmp) sums path) (get (slice_cmp nat_cmp) c.insert.new.self path) c.args.listed path (search rules) (λ same. sym (ap (get (slice_cmp nat_cmp) sums) same) ∙ absent)
