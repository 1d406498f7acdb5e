-- A vector of groups into which an item comes.
use Rattle.std.proofs.Common.{◌≡◌, ℕ, ◌+◌, ◌<◌, ◌==◌, suc, length, map, take, drop, slice_index_or, slice_set, Bool, true, false, List, [], ◌∷◌, ◌++◌, Option, Some, None, refl, sym, ap, ◌∙◌, eq-eqb, ne_eqb, arith}
use Rattle.std.specs.Global.{Vec}
use Rattle.std.proofs.lemmas.List.{set_split, take-append-drop, drop_more, map-append, length-map, length-take-le}
use Rattle.target_plan.specs.Groups.{added_from, entered}
use Rattle.target_plan.specs.Seen.{seen, seen_group}

one_more : (n : ℕ) → suc n ≡ n + 1
one_more n = omega arith

zero_and : (n : ℕ) → 0 + n ≡ n
zero_and n = omega arith

unequal : (n m : ℕ) → (n == n + suc m) ≡ false
unequal n m = search (ne_eqb, arith)

added_behind : {T : Type 0} (front back : List (T × List T)) (g : T × List T) (x : T) (n : ℕ) → added_from n (n + length front) x (front ++ g ∷ back) ≡ front ++ (g.0, g.1 ++ x ∷ []) ∷ back
unfolding added_from
added_behind [] back g x n = rw (eq-eqb n (n + 0) (omega arith)) refl
added_behind (f ∷ front) back g x n =
    rw (unequal n (length front)) (ap (λ (gs : List _). f ∷ gs) (ap (λ (at : ℕ). added_from (n + 1) at x (front ++ g ∷ back)) (omega arith) ∙ added_behind front back g x (n + 1)))

pub group_set : {T : Type 0} (groups : List (T × Vec T)) (at : ℕ) (new d : T × Vec T) (x : T) → at < length groups → seen_group seen new ≡ (let g = seen_group seen (slice_index_or groups at d) in (g.0, g.1 ++ x ∷ []))
    → map (seen_group seen) (slice_set groups at new) ≡ entered (Some at) x (map (seen_group seen) groups)
unfolding entered
group_set groups at new d x within is_new =
    let sg = seen_group seen in
    let front = map sg (take at groups) in
    let back = map sg (drop (at + 1) groups) in
    let g = sg (slice_index_or groups at d) in
    let len : length front ≡ at = length-map (take at groups) sg ∙ length-take-le at groups (omega (arith, within)) in
    let split : map sg groups ≡ front ++ g ∷ back =
    ap (map sg) (sym (take-append-drop at groups) ∙ ap (λ (gs : List _). take at groups ++ gs) (drop_more groups at d within)) ∙ map-append sg (take at groups) (slice_index_or groups at d ∷ drop (at + 1) groups) in
    ap (map sg) (set_split groups at new within) ∙ map-append sg (take at groups) (new ∷ drop (suc at) groups)
    ∙ ap (λ (n : ℕ). front ++ sg new ∷ map sg (drop n groups)) (one_more at)
    ∙ ap (λ (h : _). front ++ h ∷ back) is_new
    ∙ sym (added_behind front back g x 0)
    ∙ ap (λ (n : ℕ). added_from 0 n x (front ++ g ∷ back)) (ap (λ (n : ℕ). 0 + n) len ∙ zero_and at)
    ∙ ap (added_from 0 at x) (sym split)

seen-seen : {T X : Type 0} (f : T → X) (items : List T) → map f (map seen items) ≡ map f items
seen-seen f [] = refl
seen-seen f (item ∷ items) = ap (λ (xs : List _). f item ∷ xs) (seen-seen f items)

abbrev pub group_map : {T X : Type 0} → (T → X) → T × List T → X × List X
group_map f group = (f group.0, map f group.1)

groups-seen : {T X : Type 0} (f : T → X) (groups : List (T × Vec T)) → map (seen_group f) groups ≡ map (group_map f) (map (seen_group seen) groups)
groups-seen f [] = refl
groups-seen f (g ∷ groups) = λ i. (f g.0, sym (seen-seen f g.1.items) i) ∷ groups-seen f groups i

added-map : {T X : Type 0} (f : T → X) (n at : ℕ) (x : T) (groups : List (T × List T)) → map (group_map f) (added_from n at x groups) ≡ added_from n at (f x) (map (group_map f) groups)
unfolding added_from
added-map f n at x [] = refl
added-map f n at x (g ∷ groups) = by (n == at) refl (added-map f (n + 1) at x groups) where
  by : (b : Bool) → (n == at) ≡ b → map (group_map f) (added_from (n + 1) at x groups) ≡ added_from (n + 1) at (f x) (map (group_map f) groups)
      → map (group_map f) (added_from n at x (g ∷ groups)) ≡ added_from n at (f x) (map (group_map f) (g ∷ groups))
  by true e rest = rw e (ap (λ (xs : List _). (f g.0, xs) ∷ map (group_map f) groups) (map-append f g.1 (x ∷ [])))
  by false e rest = rw e (ap (λ (gs : List _). group_map f g ∷ gs) rest)

pub seen_through : {T X : Type 0} (f : T → X) (found : Option ℕ) (x : T) (old new : List (T × Vec T)) → map (seen_group seen) new ≡ entered found x (map (seen_group seen) old) → map (seen_group f) new ≡ entered found (f x) (map (seen_group f) old)
unfolding entered
seen_through f None x old new e =
    groups-seen f new ∙ ap (map (group_map f)) e ∙ map-append (group_map f) (map (seen_group seen) old) ((x, x ∷ []) ∷ [])
    ∙ ap (λ (gs : List _). gs ++ (f x, f x ∷ []) ∷ []) (sym (groups-seen f old))
seen_through f (Some at) x old new e =
    groups-seen f new ∙ ap (map (group_map f)) e ∙ added-map f 0 at x (map (seen_group seen) old) ∙ ap (added_from 0 at (f x)) (sym (groups-seen f old))
