use Rattle.std.proofs.Common.{◌∙◌}
use Rattle.std.proofs.IntoIterSteps.{All-taken}
use Rattle.list_commits.specs.Loose.{kept_names}
use Rattle.list_commits.proofs.Sorting.{has_just, made_of}
use Rattle.list_commits.proofs.loose.kept_set.Goals as goal

pub returns : goal.returns
returns c =
    let h = c.in_ok-set.ensures.ran in
    has_just (kept_names c.args.sources.now) c.in_ok-set.set
    (made_of h.1 (kept_names c.args.sources.now) c.in_ok-set.set (All-taken h.0 h.1 ((h.3.2 tt).0, (h.3.0, h.3.1, (h.3.2 tt).1)) ∙ h.2.0 ∙ c.into_vec.ensures ∙ c.in_ok-names.ensures) h.4)
