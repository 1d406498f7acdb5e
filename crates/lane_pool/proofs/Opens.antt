-- Opening the lanes one by one.
use Rattle.std.proofs.Common.{◌≡◌, ◌≢◌, ◌∙◌, ℕ, ◌+◌, ◌<◌, List, [], ◌∷◌, ◌++◌, map, Option, Some, None, IfSome, length, get_or, sym, ap, subst, arith}
use mathlib.Core.Logic.{dite}
use native.Mathlib.Decide.{ℕ_discrete}
use Rattle.std.proofs.lemmas.List.{length-append, map-append}
use Rattle.crossbeam_channel.specs.Claims.{view}
use Rattle.crossbeam_channel.specs.Ends.{sends_on}
use Rattle.acq_base.specs.Mirror.{MirrorMap}
use Rattle.lane_pool.specs.declared.rule.View.{View}
use Rattle.lane_pool.specs.declared.replies.Replies.{Replies}
use Rattle.lane_pool.specs.declared.lane.Lane.{Lane}
use Rattle.lane_pool.specs.Rule.{with_lane}
use Rattle.lane_pool.specs.Refinement.{IsLane, AreLanes}
use Rattle.lane_pool.proofs.Rows.{get_snoc_or, get_last_or}

module _ {M : Type 0} (world : M → Option MirrorMap) where
  -- one lane more
  pub opened : (replies replies' : Replies) (lanes : List (Lane M)) (p : Lane M) (w : Option MirrorMap) (count number : ℕ) → AreLanes world replies lanes → replies'.sends ≡ replies.sends
      → view replies'.pass ≡ with_lane w count (view replies.pass) → p.worker.promise.lane ≡ number → number ≡ length lanes + 1 → sends_on p.worker.promise.sends.value ≡ sends_on replies.sends
      → w ≡ world p.worker.promise.method.value → p.last ≡ count → AreLanes world replies' (lanes ++ p ∷ [])
  opened replies replies' lanes p w count number s e v lane is on mirror last =
      let u : View = view replies.pass in
      let grown : length (lanes ++ p ∷ []) ≡ length lanes + 1 = length-append lanes (p ∷ []) in
      let taken : (view replies'.pass).taken ≡ u.taken ++ count ∷ [] = ap (λ (y : View). y.taken) v in
      let worlds : (view replies'.pass).worlds ≡ u.worlds ++ w ∷ [] = ap (λ (y : View). y.worlds) v in
      record {
        taken = let a = length-append u.taken (count ∷ []) in let b = ap length taken in let c = s.taken in omega arith;
        worlds = let a = length-append u.worlds (w ∷ []) in let b = ap length worlds in let c = s.worlds in omega arith;
        notes = ap (λ (y : View). length y.notes) v ∙ s.notes;
        each = λ i d h. dite (ℕ_discrete i (length lanes))
            (λ (q : i ≡ length lanes). subst (λ (y : Lane M). IsLane world replies' (1 + i) y) (sym (get_last_or lanes p d i q)) record {
              number_is = lane ∙ is ∙ omega arith;
              on = on ∙ sym (ap sends_on e);
              mirror = ap (λ (l : List (Option MirrorMap)). get_or l (1 + i) None) worlds ∙ get_last_or u.worlds w None (1 + i) (let c = s.worlds in omega arith) ∙ mirror;
              below = let a = ap (λ (l : List ℕ). get_or l (1 + i) 0) taken in let b = get_last_or u.taken count 0 (1 + i) (let c = s.taken in omega arith) in omega arith;
            })
            (λ (q : i ≢ length lanes). let h' : i < length lanes = omega arith in
            let o : IsLane world replies (1 + i) (get_or lanes i d) = s.each i d h' in
            subst (λ (y : Lane M). IsLane world replies' (1 + i) y) (sym (get_snoc_or lanes p d i h')) record {
              number_is = o.number_is;
              on = o.on ∙ sym (ap sends_on e);
              mirror = ap (λ (l : List (Option MirrorMap)). get_or l (1 + i) None) worlds ∙ get_snoc_or u.worlds w None (1 + i) (let c = s.worlds in omega arith) ∙ o.mirror;
              below = let a = ap (λ (l : List ℕ). get_or l (1 + i) 0) taken in let b = get_snoc_or u.taken count 0 (1 + i) (let c = s.taken in omega arith) in let d = o.below in omega arith;
            });
      }

-- both rows grow alike
pub grow_alike : {A B C : Type 0} (f : A → C) (g : B → C) (xs : List A) (ys : List B) (x : A) (y : B) → map f xs ≡ map g ys → f x ≡ g y → map f (xs ++ x ∷ []) ≡ map g (ys ++ y ∷ [])
grow_alike f g xs ys x y same e = map-append f xs (x ∷ []) ∙ ap (λ l. l ++ f x ∷ []) same ∙ ap (λ z. map g ys ++ z ∷ []) e ∙ sym (map-append g ys (y ∷ []))

pub if_some_of : {A : Type 0} (o : Option A) (a : A) (P : A → Type 0) → o ≡ Some a → IfSome o P → P a
if_some_of o a P is h = subst (λ x. IfSome x P) is h
