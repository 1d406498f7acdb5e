use Rattle.std.proofs.Common.{◌∙◌, ◌↔◌, ◌≤◌, ℕ, List, Contains, length, sym, subst}
use Rattle.std.proofs.IntoIterSteps.{All-taken}
use Rattle.list_commits.specs.Loose.{AreSorted}
use Rattle.list_commits.proofs.Sorting.{keys_few, keys_just, keys_sorted, made_of}
use Rattle.list_commits.proofs.loose.sorted.Goals as goal

pub returns-clause-sorted : goal.returns-clause-sorted
returns-clause-sorted c =
    let h = c.in_ok-set.ensures.ran in
    subst AreSorted (sym c.in_ok-row.ensures)
    (keys_sorted c.args.names c.in_ok-set.set (made_of h.1 c.args.names c.in_ok-set.set (All-taken h.0 h.1 ((h.3.2 tt).0, (h.3.0, h.3.1, (h.3.2 tt).1)) ∙ h.2.0 ∙ c.into_vec.ensures) h.4))

pub returns-clause-same : goal.returns-clause-same
returns-clause-same c = λ name.
    let h = c.in_ok-set.ensures.ran in
    subst (λ (l : List (List ℕ)). Contains l name ↔ Contains c.args.names name) (sym c.in_ok-row.ensures)
    (keys_just c.args.names c.in_ok-set.set (made_of h.1 c.args.names c.in_ok-set.set (All-taken h.0 h.1 ((h.3.2 tt).0, (h.3.0, h.3.1, (h.3.2 tt).1)) ∙ h.2.0 ∙ c.into_vec.ensures) h.4) name)

pub returns-clause-few : goal.returns-clause-few
returns-clause-few c =
    let h = c.in_ok-set.ensures.ran in
    subst (λ (l : List (List ℕ)). length l ≤ length c.args.names) (sym c.in_ok-row.ensures)
    (keys_few c.args.names c.in_ok-set.set (made_of h.1 c.args.names c.in_ok-set.set (All-taken h.0 h.1 ((h.3.2 tt).0, (h.3.0, h.3.1, (h.3.2 tt).1)) ∙ h.2.0 ∙ c.into_vec.ensures) h.4))
