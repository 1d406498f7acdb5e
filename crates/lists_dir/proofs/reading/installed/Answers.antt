use Rattle.std.proofs.Common.{◌≡◌, ◌∙◌, All, IfOk, IsTrue, ap, map, subst, sym}
use Rattle.std.specs.List.{flat_map}
use Rattle.acq_base.specs.declared.uri.ListName.{ListName}
use Rattle.acq_outside.specs.Disk.{IsName}
use Rattle.lists_dir.specs.Installed.{installed_of, target_names}
use Rattle.lists_dir.specs.Refinement.{old_in}
use Rattle.lists_dir.proofs.Dealing.{all_fit}
use Rattle.lists_dir.proofs.Rounds.{on_disk}
use Rattle.lists_dir.proofs.reading.installed.Goals as goal

pub sum_all-requires-clause-names : goal.sum_all-requires-clause-names
sum_all-requires-clause-names g c κs within =
    subst (All (λ (name : ListName). IsName name.0)) (sym (c.as_slice.ensures ∙ c.in_ok-names.ensures)) (all_fit c.args.sources.now c.requires)

pub returns-clause-told : goal.returns-clause-told
returns-clause-told g c = λ told.
    let summed = c.in_ok-sums.ensures in
    let sources = c.args.sources.now in
    let sums = c.in_ok-sums.sums.items in
    on_disk (λ tells files. IsTrue tells → sums ≡ map (λ (name : ListName). files name.0) (flat_map target_names sources) → IfOk c.deal_out.result (λ olds. map old_in olds ≡ map (installed_of files) sources))
    _ _ _ _ (sym summed.frame.telling) (sym summed.frame.same) c.deal_out.ensures.told told
    (summed.told told ∙ ap (map (λ (name : ListName). g.D.Disk.files c.args.disk.now name.0)) (c.as_slice.ensures ∙ c.in_ok-names.ensures))
