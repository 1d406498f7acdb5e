use Rattle.std.proofs.Common.{◌∙◌, ◌++◌, ◌∷◌, [], map, take, sym, ap, subst, arith}
use Rattle.std.specs.Cmp.Lexicographic.{slice_cmp}
use Rattle.std.specs.Ordering.{nat_cmp}
use Rattle.std.proofs.lemmas.Cmp.{nat_list_cmp_total}
use Rattle.std.proofs.lemmas.List.{map_more, map-append, length-map}
use Rattle.target_plan.specs.Offers.{is_same_arch}
use Rattle.target_plan.specs.Seen.{seen_asked}
use Rattle.target_plan.proofs.Grouping.{AreFirst, none_first, first_stays, first_grows}
use Rattle.target_plan.proofs.GroupLemmas.{arch_of, same_arch}
use Rattle.target_plan.proofs.architectures.first_asked.Goals as goal
use Rattle.target_plan.proofs.architectures.first_asked.Goals.{then-is_none+in_ok-push, else-is_none}

pub loop-item-init : goal.loop-item-init
loop-item-init c =
    none_first is_same_arch (slice_cmp nat_cmp) nat_list_cmp_total arch_of same_arch c.new-places.result (map seen_asked c.new-firsts.result.items) c.new-places.ensures.empty (ap (map seen_asked) c.new-firsts.ensures.items)

pub loop-item-preserved : goal.loop-item-preserved
loop-item-preserved c =
    let x = c.item-item.result in
    let at = c.loop-item.item-index in
    let old = c.loop-item.firsts.items in
    let m = c.loop-item.places in
    let m' = c.enter.new.places in
    let before = map seen_asked (take at c.args.asked.now) in
    subst (λ xs. AreFirst is_same_arch (slice_cmp nat_cmp) nat_list_cmp_total arch_of same_arch m' (map seen_asked c.if-is_none.firsts.items) xs)
    (ap (λ a. map seen_asked (take at c.args.asked.now) ++ seen_asked a ∷ []) c.item-item.is ∙ sym (map_more seen_asked c.args.asked.now at x c.loop-item-test.true))
    (elim c.if-is_none.branch [
      | then-is_none+in_ok-push w ↦ subst (λ firsts. AreFirst is_same_arch (slice_cmp nat_cmp) nat_list_cmp_total arch_of same_arch m' firsts (before ++ seen_asked x ∷ []))
          (sym (ap (λ firsts. map seen_asked firsts.items) w.firsts-is ∙ ap (map seen_asked) w.in_ok-push.ensures.items ∙ map-append seen_asked old (x ∷ [])))
          (first_grows is_same_arch (slice_cmp nat_cmp) nat_list_cmp_total arch_of same_arch m m' (map seen_asked old) before (seen_asked x) c.in_ok-copy.field-0 c.in_ok-found.found c.len.result w.if-is_none.ensures c.in_ok-copy.ensures
          (omega (arith, c.len.ensures, c.loop-item.firsts.ok.0, length-map old seen_asked)) c.loop-item.invariant c.in_ok-found.ensures.found c.in_ok-found.ensures.entered)
      | else-is_none w ↦ subst (λ firsts. AreFirst is_same_arch (slice_cmp nat_cmp) nat_list_cmp_total arch_of same_arch m' (map seen_asked firsts.items) (before ++ seen_asked x ∷ []))
          (sym w.firsts-is)
          (first_stays is_same_arch (slice_cmp nat_cmp) nat_list_cmp_total arch_of same_arch m m' (map seen_asked old) before (seen_asked x) c.in_ok-copy.field-0 c.in_ok-found.found w.if-is_none.ensures c.in_ok-copy.ensures c.loop-item.invariant c.in_ok-found.ensures.found c.in_ok-found.ensures.known)
    ])
