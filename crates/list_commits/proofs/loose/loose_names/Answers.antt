use Rattle.std.proofs.Common.{arith}
use Rattle.std.proofs.lemmas.List.Elements.{All-contains}
use Rattle.acq_outside.specs.Disk.{IsName}
use Rattle.list_commits.specs.Loose.{IsLoose}
use Rattle.list_commits.proofs.Sorting.{are_others, each_one, few_others, loose_in_files}
use Rattle.list_commits.proofs.loose.loose_names.Goals as goal

pub returns-clause-loose : goal.returns-clause-loose
returns-clause-loose g c =
    each_one (IsLoose c.args.sources.now) c.in_ok-loose.loose
    (are_others c.args.sources.now c.in_ok-kept.kept c.in_ok-names.names c.in_ok-others.others c.in_ok-loose.loose c.in_ok-kept.ensures c.in_ok-others.ensures c.in_ok-loose.ensures.same).loose

pub returns-clause-named : goal.returns-clause-named
returns-clause-named g c =
    let others = are_others c.args.sources.now c.in_ok-kept.kept c.in_ok-names.names c.in_ok-others.others c.in_ok-loose.loose c.in_ok-kept.ensures c.in_ok-others.ensures c.in_ok-loose.ensures.same in
    each_one IsName c.in_ok-loose.loose (λ name is. All-contains IsName c.in_ok-names.names name c.in_ok-names.ensures.named (others.within name is))

pub returns-clause-few : goal.returns-clause-few
returns-clause-few g c = omega (arith, c.in_ok-names.ensures.few, few_others c.in_ok-names.names c.in_ok-others.others c.in_ok-loose.loose _ c.in_ok-others.ensures c.in_ok-loose.ensures.few)

pub returns-clause-told : goal.returns-clause-told
returns-clause-told g c = λ tells.
    loose_in_files (g.D.Disk.files c.args.disk.now) c.args.sources.now c.in_ok-names.names c.in_ok-loose.loose c.in_ok-loose.ensures.sorted (c.in_ok-names.ensures.told tells)
    (are_others c.args.sources.now c.in_ok-kept.kept c.in_ok-names.names c.in_ok-others.others c.in_ok-loose.loose c.in_ok-kept.ensures c.in_ok-others.ensures c.in_ok-loose.ensures.same)
