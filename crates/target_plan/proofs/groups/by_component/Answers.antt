use Rattle.std.proofs.Common.{◌∙◌, ◌++◌, ◌∷◌, [], take, sym, ap, map, subst, arith}
use Rattle.std.specs.Cmp.Lexicographic.{slice_cmp}
use Rattle.std.specs.Ordering.{nat_cmp}
use Rattle.std.proofs.lemmas.Cmp.{nat_list_cmp_total}
use Rattle.std.proofs.lemmas.List.{map_more}
use Rattle.target_plan.specs.Offers.{is_same_component}
use Rattle.target_plan.specs.Seen.{seen_mention, seen_group}
use Rattle.target_plan.proofs.Grouping.{AreGrouped, no_groups}
use Rattle.target_plan.proofs.GroupLemmas.{component_of, same_component, grouped_within, grouped_more}
use Rattle.target_plan.proofs.groups.by_component.Goals as goal

pub loop-mention-init : goal.loop-mention-init
loop-mention-init c =
    no_groups is_same_component (slice_cmp nat_cmp) nat_list_cmp_total component_of same_component c.new-places.result (map (seen_group seen_mention) c.new-groups.result.items) c.new-places.ensures.empty (ap (map (seen_group seen_mention)) c.new-groups.ensures.items)

pub add-requires : goal.add-requires
add-requires c =
    grouped_within seen_mention is_same_component (slice_cmp nat_cmp) nat_list_cmp_total component_of same_component c.loop-mention.places c.loop-mention.groups.items (map seen_mention (take c.loop-mention.mention-index c.args.mentions.now)) (seen_mention c.mention-item.result)
    c.in_ok-copy.field-0 c.in_ok-found.found c.in_ok-copy.ensures c.loop-mention.invariant c.in_ok-found.ensures.found

pub loop-mention-preserved : goal.loop-mention-preserved
loop-mention-preserved c =
    let e = c.in_ok-found.ensures in
    let before = map seen_mention (take c.loop-mention.mention-index c.args.mentions.now) in
    let x = c.mention-item.result in
    subst (λ xs. AreGrouped is_same_component (slice_cmp nat_cmp) nat_list_cmp_total component_of same_component c.enter.new.places (map (seen_group seen_mention) c.add.new.groups.items) xs)
    (ap (λ m. map seen_mention (take c.loop-mention.mention-index c.args.mentions.now) ++ seen_mention m ∷ []) c.mention-item.is ∙ sym (map_more seen_mention c.args.mentions.now c.loop-mention.mention-index x c.loop-mention-test.true))
    (grouped_more seen_mention is_same_component (slice_cmp nat_cmp) nat_list_cmp_total component_of same_component c.loop-mention.places c.enter.new.places c.loop-mention.groups.items c.add.new.groups.items before x
    c.in_ok-copy.field-0 c.in_ok-found.found c.len.result c.in_ok-copy.ensures (omega (arith, c.len.ensures, c.loop-mention.groups.ok.0)) c.loop-mention.invariant e.found e.known e.entered c.in_ok-add.ensures)
