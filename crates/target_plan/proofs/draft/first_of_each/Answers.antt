use Rattle.std.proofs.Common.{◌≡◌, ◌∙◌, ◌+◌, ◌++◌, ◌∷◌, [], take, sym, ap, subst}
use Rattle.std.specs.Cmp.Lexicographic.{slice_cmp}
use Rattle.std.specs.Ordering.{nat_cmp}
use Rattle.std.proofs.lemmas.Cmp.{nat_list_cmp_total}
use Rattle.std.proofs.lemmas.List.{take_more}
use Rattle.target_plan.specs.Drafts.{is_same_name, name_of}
use Rattle.target_plan.proofs.Grouping.{AreFirst, none_first, first_stays, first_grows}
use Rattle.target_plan.proofs.GroupLemmas.{same_name}
use Rattle.target_plan.proofs.draft.first_of_each.Goals as goal
use Rattle.target_plan.proofs.draft.first_of_each.Goals.{then-is_none+in_ok-copy+in_ok-push, else-is_none}

pub loop-planned-init : goal.loop-planned-init
loop-planned-init c = none_first is_same_name (slice_cmp nat_cmp) nat_list_cmp_total name_of same_name c.new-places.result c.new-firsts.result c.new-places.ensures.empty c.new-firsts.ensures

pub loop-planned-preserved : goal.loop-planned-preserved
loop-planned-preserved c =
    let x = c.planned-item.result in
    let lists = c.args.lists.now in
    let at = c.loop-planned.planned-index in
    let m = c.loop-planned.places in
    let m' = c.enter.new.places in
    let before = take at lists in
    let upto : before ++ x ∷ [] ≡ take (at + 1) lists = ap (λ p. take at lists ++ p ∷ []) c.planned-item.is ∙ sym (take_more lists at x c.loop-planned-test.true) in
    subst (λ xs. AreFirst is_same_name (slice_cmp nat_cmp) nat_list_cmp_total name_of same_name m' c.if-is_none.firsts xs) upto
    (elim c.if-is_none.branch [
      | then-is_none+in_ok-copy+in_ok-push w ↦ subst (λ firsts. AreFirst is_same_name (slice_cmp nat_cmp) nat_list_cmp_total name_of same_name m' firsts (before ++ x ∷ []))
          (sym (w.firsts-is ∙ w.in_ok-push.ensures ∙ ap (λ p. c.loop-planned.firsts ++ p ∷ []) w.in_ok-copy.ensures))
          (first_grows is_same_name (slice_cmp nat_cmp) nat_list_cmp_total name_of same_name m m' c.loop-planned.firsts before x c.in_ok-name.name c.in_ok-found.found c.len.result w.if-is_none.ensures c.in_ok-name.ensures c.len.ensures c.loop-planned.invariant c.in_ok-found.ensures.found c.in_ok-found.ensures.entered)
      | else-is_none w ↦ subst (λ firsts. AreFirst is_same_name (slice_cmp nat_cmp) nat_list_cmp_total name_of same_name m' firsts (before ++ x ∷ [])) (sym w.firsts-is)
          (first_stays is_same_name (slice_cmp nat_cmp) nat_list_cmp_total name_of same_name m m' c.loop-planned.firsts before x c.in_ok-name.name c.in_ok-found.found w.if-is_none.ensures c.in_ok-name.ensures c.loop-planned.invariant c.in_ok-found.ensures.found c.in_ok-found.ensures.known)
    ])
