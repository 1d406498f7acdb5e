use Rattle.std.proofs.Common.{◌≡◌, ◌∙◌, ℕ, ◌+◌, ◌<◌, Bool, true, false, List, [], ◌∷◌, ◌++◌, length, get_or, map, take, refl, sym, ap}
use Rattle.std.specs.List.{filter}
use Rattle.std.proofs.lemmas.List.{map_more, append-nil}
use Rattle.std.proofs.lemmas.List.Elements.{filter-append}
use Rattle.kept_hooks.specs.Picking.{is_picked}
use Rattle.target_plan.specs.declared.draft.Planned.{Planned}
use Rattle.target_plan.specs.Drafts.{planned_of}
use Rattle.target_plan.proofs.draft.picked.Goals as goal
use Rattle.target_plan.proofs.draft.picked.Goals.{then-pick+in_ok-push, else-pick}

one_more : {X Y : Type 0} (p : Y → Bool) (f : X → Y) (xs : List X) (i : ℕ) (x : X) (y : Y) → i < length xs → x ≡ get_or xs i x → y ≡ f x → filter p (map f (take (i + 1) xs)) ≡ filter p (map f (take i xs)) ++ filter p (y ∷ [])
one_more {X} {Y} p f xs i x y within is made =
    ap (filter p) (map_more f xs i x within ∙ ap (λ (z : Y). map f (take i xs) ++ z ∷ []) (ap f (sym is) ∙ sym made)) ∙ filter-append p (map f (take i xs)) (y ∷ [])

picked-yes : {Y : Type 0} (p : Y → Bool) (y : Y) → p y ≡ true → y ∷ [] ≡ filter p (y ∷ [])
picked-yes p y e = rw e refl

picked-no : {Y : Type 0} (p : Y → Bool) (y : Y) → p y ≡ false → [] ≡ filter p (y ∷ [])
picked-no p y e = rw e refl

pub loop-offer-preserved : goal.loop-offer-preserved
loop-offer-preserved g c =
    let p = λ (planned : Planned). is_picked c.args.picker.now.pick planned.target in
    let before = filter p (map (planned_of c.args.first.now) (take c.loop-offer.offer-index c.args.offers.now)) in
    let more = one_more p (planned_of c.args.first.now) c.args.offers.now c.loop-offer.offer-index c.offer-item.result c.in_ok-planned.planned c.loop-offer-test.true c.offer-item.is c.in_ok-planned.ensures in
    (elim c.if-pick.branch [
      | then-pick+in_ok-push w ↦ (ap (λ lists. lists.items) w.lists-is ∙ w.in_ok-push.ensures.items ∙ (λ i. c.loop-offer.invariant i ++ picked-yes p c.in_ok-planned.planned (sym c.pick.ensures ∙ w.if-pick.true) i))
      | else-pick w ↦ (ap (λ lists. lists.items) w.lists-is ∙ c.loop-offer.invariant ∙ sym (append-nil before) ∙ ap (λ more. before ++ more) (picked-no p c.in_ok-planned.planned (sym c.pick.ensures ∙ w.if-pick.false)))
    ]) ∙ sym more
