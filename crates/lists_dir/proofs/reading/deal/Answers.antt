use Rattle.std.proofs.Common.{◌∙◌, ◌++◌, map, ap, subst, sym}
use Rattle.acq_base.specs.declared.plan.Target.{Target}
use Rattle.acq_outside.specs.Disk.{IsName}
use Rattle.lists_dir.specs.Installed.{lists_of}
use Rattle.lists_dir.proofs.Dealing.{files_of_targets}
use Rattle.lists_dir.proofs.DiskNames.{release_fits}
use Rattle.lists_dir.proofs.reading.deal.Goals as goal

pub read_whole-requires : goal.read_whole-requires
read_whole-requires g c = subst (λ n. IsName n) (sym c.as_bytes.ensures) (release_fits c.args.source.now c.requires)

pub returns-clause-told : goal.returns-clause-told
returns-clause-told g c = λ told rest is.
    let files = g.D.Disk.files c.args.disk.now in
    let source = c.args.source.now in
    let taken = c.in_ok-lists.ensures files rest (is ∙ ap (λ l. l ++ rest) (files_of_targets files source ∙ ap (map (λ (target : Target). files target.name.0)) (sym c.as_slice.ensures))) in
    let release = c.in_ok-release.ensures.told told ∙ ap files c.as_bytes.ensures in
    let lists = taken.0 ∙ ap (lists_of files) c.as_slice.ensures in
    ((λ i. record { release = release i; lists = lists i }), taken.1)
