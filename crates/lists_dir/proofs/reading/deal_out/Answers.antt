use Rattle.std.proofs.Common.{◌≡◌, ◌∙◌, ◌+◌, ◌++◌, ◌∷◌, [], List, Option, ℕ, IsTrue, map, drop, ap, arith, length, length-append, sym}
use Rattle.std.specs.List.{flat_map}
use Rattle.std.proofs.lemmas.List.{map-append}
use Rattle.acq_base.specs.declared.uri.ListName.{ListName}
use Rattle.acq_outside.proofs.Framed.{read_on_counting}
use Rattle.lists_dir.specs.Installed.{installed_of, target_names}
use Rattle.lists_dir.specs.Refinement.{old_in}
use Rattle.lists_dir.proofs.Dealing.{map_more, files_rest}
use Rattle.lists_dir.proofs.Rounds.{on_disk}
use Rattle.lists_dir.proofs.reading.deal_out.Goals as goal

pub loop-source-preserved : goal.loop-source-preserved
loop-source-preserved g c =
    let inv = c.loop-source.invariant in
    let files = g.D.Disk.files c.args.disk.now in
    let source = c.source-item.result in
    let sources = c.args.sources.now in
    let i = c.loop-source.source-index in
    let below = c.loop-source-test.true in
    let olds = c.loop-source.olds in
    let old = c.in_ok-old.old in
    record {
      frame = read_on_counting inv.frame c.in_ok-old.ensures.frame;
      len = omega (arith, ap length c.in_ok-push.ensures, length-append olds (old ∷ []), inv.len);
      told = λ told is.
          let so_far = inv.told told is in
          let dealt = on_disk (λ tells f. IsTrue tells → (rest : List (Option (List ℕ))) → c.loop-source.sums.items ≡ map (λ (name : ListName). f name.0) (target_names source) ++ rest
          → (old_in old ≡ installed_of f source) × (c.deal.new.sums.items ≡ rest))
          _ _ _ _ (sym inv.frame.telling) (sym inv.frame.same) c.in_ok-old.ensures.told told
          (map (λ (name : ListName). files name.0) (flat_map target_names (drop (i + 1) sources)))
          (so_far.1 ∙ files_rest files sources i source below c.source-item.is) in (
            ap (map old_in) c.in_ok-push.ensures ∙ map-append old_in olds (old ∷ [])
                ∙ (λ j. so_far.0 j ++ dealt.0 j ∷ [])
                ∙ sym (map_more (installed_of files) sources i source below c.source-item.is),
            dealt.1,
          );
    }
