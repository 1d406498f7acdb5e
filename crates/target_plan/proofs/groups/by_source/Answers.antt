use Rattle.std.proofs.Common.{◌∙◌, ◌++◌, ◌∷◌, [], take, sym, ap, map, subst, arith}
use Rattle.std.proofs.lemmas.List.{take_more}
use Rattle.target_plan.specs.Drafts.{is_same_source}
use Rattle.target_plan.specs.Seen.{key_of, key_cmp, seen_entry, seen_group}
use Rattle.target_plan.proofs.Grouping.{AreGrouped, no_groups}
use Rattle.target_plan.proofs.GroupLemmas.{key_total, same_key, grouped_within, grouped_more}
use Rattle.target_plan.proofs.groups.by_source.Goals as goal

pub loop-entry-init : goal.loop-entry-init
loop-entry-init c =
    no_groups is_same_source key_cmp key_total key_of same_key c.new-places.result (map (seen_group seen_entry) c.new-groups.result.items) c.new-places.ensures.empty (ap (map (seen_group seen_entry)) c.new-groups.ensures.items)

pub add-requires : goal.add-requires
add-requires c =
    grouped_within seen_entry is_same_source key_cmp key_total key_of same_key c.loop-entry.places c.loop-entry.groups.items (take c.loop-entry.entry-index c.args.entries.now) c.entry-item.result
    c.in_ok-source_key.field-0 c.in_ok-found.found c.in_ok-source_key.ensures c.loop-entry.invariant c.in_ok-found.ensures.found

pub loop-entry-preserved : goal.loop-entry-preserved
loop-entry-preserved c =
    let e = c.in_ok-found.ensures in
    let entries = c.args.entries.now in
    let at = c.loop-entry.entry-index in
    let x = c.entry-item.result in
    subst (λ xs. AreGrouped is_same_source key_cmp key_total key_of same_key c.enter.new.places (map (seen_group seen_entry) c.add.new.groups.items) xs)
    (ap (λ entry. take at entries ++ entry ∷ []) c.entry-item.is ∙ sym (take_more entries at x c.loop-entry-test.true))
    (grouped_more seen_entry is_same_source key_cmp key_total key_of same_key c.loop-entry.places c.enter.new.places c.loop-entry.groups.items c.add.new.groups.items (take at entries) _
    c.in_ok-source_key.field-0 c.in_ok-found.found c.len.result c.in_ok-source_key.ensures (omega (arith, c.len.ensures, c.loop-entry.groups.ok.0)) c.loop-entry.invariant e.found e.known e.entered c.in_ok-add.ensures)
