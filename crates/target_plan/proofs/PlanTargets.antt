-- What holds of each source of a plan and of each of its targets.
use Rattle.std.proofs.Common.{◌≡◌, Bool, true, false, List, [], ◌∷◌, map, refl, sym, subst, not}
use Rattle.std.specs.List.{All, filter}
use Rattle.std.proofs.lemmas.List.Elements.{All-nil, All-cons, All-head, All-tail}
use Rattle.acq_base.specs.declared.plan.Source.{Source}
use Rattle.acq_base.specs.declared.settings.Pick.{Pick}
use Rattle.acq_base.specs.declared.settings.Settings.{Settings}
use Rattle.kept_hooks.specs.Picking.{is_picked}
use Rattle.source_lists.specs.declared.entry.Entry.{Entry}
use Rattle.target_plan.specs.declared.offers.Offer.{Offer}
use Rattle.target_plan.specs.declared.draft.Planned.{Planned}
use Rattle.target_plan.specs.Groups.{first_of_each}
use Rattle.target_plan.specs.Offers.{offers_of}
use Rattle.target_plan.specs.Drafts.{planned_of, is_same_name, picked_of, lists_of, source_of, draft_of, target_in, finished}
use Rattle.target_plan.specs.Planned.{IsPickedTarget, IsNamedTarget, HasPicked, HasNames}

module _ {X : Type 0} (P : X → Type 0) where
  pub all-filter : (p : X → Bool) (xs : List X) → All P xs → All P (filter p xs)
  all-filter p [] a = All-nil P
  all-filter p (x ∷ xs) a = by (p x) refl (all-filter p xs (All-tail P x xs a)) where
    by : (b : Bool) → p x ≡ b → All P (filter p xs) → All P (filter p (x ∷ xs))
    by true e rest = rw e (All-cons P x (filter p xs) (All-head P x xs a) rest)
    by false e rest = rw e rest

  pub all-first : (same : X → X → Bool) (xs : List X) → All P xs → All P (first_of_each same xs)
  unfolding first_of_each
  all-first same [] a = All-nil P
  all-first same (x ∷ xs) a =
      All-cons P x (filter (λ (other : X). not (same x other)) (first_of_each same xs)) (All-head P x xs a) (all-filter (λ (other : X). not (same x other)) (first_of_each same xs) (all-first same xs (All-tail P x xs a)))

  all-map : {Y : Type 0} (f : Y → X) (ys : List Y) → ((y : Y) → P (f y)) → All P (map f ys)
  all-map f [] each = All-nil P
  all-map f (y ∷ ys) each = All-cons P (f y) (map f ys) (each y) (all-map f ys each)

  pub all-map-from : {Y : Type 0} (f : Y → X) (ys : List Y) → All (λ (y : Y). P (f y)) ys → All P (map f ys)
  all-map-from {Y} f [] a = All-nil P
  all-map-from {Y} f (y ∷ ys) a = All-cons P (f y) (map f ys) (All-head (λ (z : Y). P (f z)) y ys a) (all-map-from f ys (All-tail (λ (z : Y). P (f z)) y ys a))

pub all-kept : {X : Type 0} (p : X → Bool) (xs : List X) → All (λ (x : X). p x ≡ true) (filter p xs)
all-kept {X} p [] = All-nil (λ (x : X). p x ≡ true)
all-kept {X} p (x ∷ xs) = by (p x) refl (all-kept p xs) where
  by : (b : Bool) → p x ≡ b → All (λ (y : X). p y ≡ true) (filter p xs) → All (λ (y : X). p y ≡ true) (filter p (x ∷ xs))
  by true e rest = rw e (All-cons (λ (y : X). p y ≡ true) x (filter p xs) e rest)
  by false e rest = rw e rest

lists-picked : (pick : Pick) (entry : Entry) (offers : List Offer) → All (IsPickedTarget pick) (map target_in (lists_of pick entry offers))
unfolding lists_of
lists-picked pick entry offers =
    all-map-from (IsPickedTarget pick) target_in (first_of_each is_same_name (picked_of pick entry offers))
    (all-first (λ (planned : Planned). IsPickedTarget pick planned.target) is_same_name (picked_of pick entry offers) (all-kept (λ (planned : Planned). is_picked pick planned.target) (map (planned_of entry) offers)))

lists-named : (pick : Pick) (entry : Entry) (offers : List Offer) → All IsNamedTarget (map target_in (lists_of pick entry offers))
unfolding lists_of
lists-named pick entry offers =
    let P = λ (planned : Planned). IsNamedTarget planned.target in
    all-map-from IsNamedTarget target_in (first_of_each is_same_name (picked_of pick entry offers))
    (all-first P is_same_name (picked_of pick entry offers) (all-filter P (λ (planned : Planned). is_picked pick planned.target) (map (planned_of entry) offers) (all-map P (planned_of entry) offers (λ offer. refl))))

module _ (pick : Pick) (settings : Settings) (groups : List (Entry × List Entry)) (sources : List Source) (are : sources ≡ map finished (map (draft_of pick settings) groups)) where
  pub picked_sources : All (HasPicked pick) sources
  unfolding finished draft_of
  picked_sources =
      subst (All (HasPicked pick)) (sym are) (all-map-from (HasPicked pick) finished (map (draft_of pick settings) groups) (all-map (λ draft. HasPicked pick (finished draft)) (draft_of pick settings) groups
      (λ group. lists-picked pick group.0 (offers_of settings group.0.suite group.1))))

  pub named_sources : All HasNames sources
  unfolding finished draft_of source_of
  named_sources =
      subst (All HasNames) (sym are) (all-map-from HasNames finished (map (draft_of pick settings) groups) (all-map (λ draft. HasNames (finished draft)) (draft_of pick settings) groups
      (λ group. record { release = refl; targets = lists-named pick group.0 (offers_of settings group.0.suite group.1) })))
