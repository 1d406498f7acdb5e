use Rattle.std.proofs.Common.{◌≡◌, ◌∙◌, ◌++◌, ◌∷◌, [], All, IsTrue, length, option_map, subst, sym}
use Rattle.std.specs.List.{filter}
use Rattle.acq_base.specs.declared.uri.ListName.{ListName}
use Rattle.acq_outside.specs.Disk.{IsName}
use Rattle.acq_outside.proofs.Framed.{read_on}
use Rattle.lists_dir.specs.Summing.{has_file}
use Rattle.lists_dir.proofs.Dealing.{map_more}
use Rattle.lists_dir.proofs.Spreading.{all_more, filter_more, sized}
use Rattle.lists_dir.proofs.present.find_present.Goals as goal

pub loop-name-preserved : goal.loop-name-preserved
loop-name-preserved g c =
    let inv = c.loop-name.invariant in
    let files = g.D.Disk.files c.args.disk.now in
    let names = c.args.names.now in
    let name = c.name-item.result in
    let there = c.is_some-there.result in
    let flagged : IsTrue (g.D.Disk.tells c.args.disk.now) → there ≡ has_file files name = λ told.
    c.is_some-there.ensures ∙ sized c.in_ok-size.field-0 (files name.0)
    (c.in_ok-size.ensures.told (subst (λ tells. IsTrue tells) (sym inv.frame.telling) told)
    ∙ (λ j. option_map length (inv.frame.same j (c.as_bytes.ensures j)))) in
    let more = map_more (has_file files) names c.loop-name.name-index name c.loop-name-test.true c.name-item.is in
    record {
      frame = read_on inv.frame c.in_ok-size.ensures.frame;
      named = subst (All (λ (n : ListName). IsName n.0)) (sym c.in_ok-add_if.ensures) (all_more (λ (n : ListName). IsName n.0) there c.loop-name.present name inv.named (subst (λ (n : ListName). IsName n.0) (sym c.name-item.is) (c.requires c.loop-name.name-index name c.loop-name-test.true)));
      flags = λ told. c.in_ok-push.ensures ∙ (λ j. inv.flags told j ++ flagged told j ∷ []) ∙ sym more;
      present = λ told. c.in_ok-add_if.ensures ∙ (λ j. inv.present told j ++ filter (λ _. flagged told j) (name ∷ []))
          ∙ sym (filter_more (has_file files) names c.loop-name.name-index name c.loop-name-test.true c.name-item.is);
    }
