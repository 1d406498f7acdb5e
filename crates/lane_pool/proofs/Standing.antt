-- What a word that came, and a job that went, do to the lanes.
use Rattle.std.proofs.Common.{◌≡◌, ◌≢◌, ◌∙◌, ℕ, ◌+◌, ◌-◌, ◌<◌, ◌≤◌, max, List, ◌∷◌, map, length, set, get_or, Option, Some, None, IfSome, IfNone, Result, Ok, Err, OnOk, OnErr, MatchResult, sym, ap, subst, arith}
use mathlib.Core.Logic.{dite}
use native.Mathlib.Decide.{ℕ_discrete}
use Rattle.std.specs.List.{slice_get}
use Rattle.std.proofs.Math.ListN.{length-set}
use Rattle.std.proofs.Math.Seq.{map-set_same}
use Rattle.std.proofs.lemmas.List.{get_or-set_same, get_or-set_other, set-get_or}
use Rattle.crossbeam_channel.specs.Claims.{view}
use Rattle.crossbeam_channel.specs.Ends.{sends_on}
use Rattle.acq_base.specs.Mirror.{MirrorMap}
use Rattle.acq_outside.specs.declared.word.Fetch.{Fetch}
use Rattle.lane_pool.specs.declared.told.Told.{Told}
use Rattle.lane_pool.specs.declared.rule.View.{View}
use Rattle.lane_pool.specs.declared.replies.Replies.{Replies}
use Rattle.lane_pool.specs.declared.lane.Lane.{Lane}
use Rattle.lane_pool.specs.Words.{count_after, IsHeard}
use Rattle.acq_outside.specs.Count.{NoneFell, one_more}
use Rattle.lane_pool.specs.Counting.{counted_on}
use Rattle.lane_pool.specs.Pool.{Pool, IsWordTaken}
use Rattle.lane_pool.specs.Rule.{world_at, IsReceived}
use Rattle.lane_pool.specs.Slot.{IsChecked}
use Rattle.lane_pool.specs.Refinement.{pool_of, IsLane, AreLanes, HasReplies}
use Rattle.lane_pool.proofs.Counted.{counted_next}
use Rattle.lane_pool.proofs.Counts.{after_within}
use Rattle.lane_pool.proofs.Heard.{is_heard}
use Rattle.lane_pool.proofs.Rows.{set_behind, slice_get_behind, get_or_behind, none_fell_refl, none_fell_set}

-- a lane's last count after a check is at or below what was taken, if it was before
pub last_below : (o : Option Told) (told : Told) (out out' : Option Fetch) (B : Type 0) (last last' n : ℕ) → IfSome o (λ t. (t ≡ told) × IsChecked out last told out' last') → IfNone o B
    → (B → last' ≡ last) → last ≤ n → last' ≤ max n (count_after 0 told.word)
last_below None told out out' B last last' n some none same low = let e = same none in omega arith
last_below (Some t) told out out' B last last' n some none same low = let e = some.1.counts in let h = after_within last n told.word low in omega arith

module _ {M : Type 0} (world : M → Option MirrorMap) where
  pub took : (replies replies' : Replies) (lanes : List (Lane M)) (x : Told) (p p' : Lane M) → AreLanes world replies lanes → replies'.sends ≡ replies.sends
      → IsReceived (view replies.pass) x (view replies'.pass) → p ≡ get_or lanes (x.lane - 1) p → p'.worker.promise ≡ p.worker.promise
      → ((n : ℕ) → p.last ≤ n → p'.last ≤ max n (count_after 0 x.word)) → AreLanes world replies' (set lanes (x.lane - 1) p')
  took replies replies' lanes x p p' s e t is same last =
      let k : ℕ = x.lane - 1 in
      let v : View = view replies.pass in
      let v' : View = view replies'.pass in
      let a_worker : 0 < x.lane = t.a_worker in
      let lane : 1 + k ≡ x.lane = omega arith in
      let there : k < length lanes = let a = t.a_lane in let b = s.taken in omega arith in
      let old : IsLane world replies (1 + k) p = subst (λ (y : Lane M). IsLane world replies (1 + k) y) (sym is) (s.each k p there) in
      let bump : ℕ = max (get_or v.taken x.lane 0) (count_after 0 x.word) in
      let taken' : v'.taken ≡ set v.taken x.lane bump = ap (λ (y : View). y.taken) t.then in
      let here : get_or v'.taken x.lane 0 ≡ bump = ap (λ (y : List ℕ). get_or y x.lane 0) taken' ∙ get_or-set_same v.taken x.lane bump 0 t.a_lane in
      let else : (l : ℕ) → l ≢ x.lane → get_or v'.taken l 0 ≡ get_or v.taken l 0 = λ l h. ap (λ (y : List ℕ). get_or y l 0) taken' ∙ get_or-set_other v.taken x.lane l bump 0 h in
      let worlds : (l : ℕ) → world_at v' l ≡ world_at v l = λ l. ap (λ (y : View). world_at y l) t.then in
      let new : IsLane world replies' (1 + k) p' = record {
        number_is = ap (λ y. y.lane) same ∙ old.number_is;
        on = ap (λ y. sends_on y.sends.value) same ∙ old.on ∙ sym (ap sends_on e);
        mirror = worlds (1 + k) ∙ old.mirror ∙ sym (ap (λ y. world y.method.value) same);
        below = let a = ap (λ (l : ℕ). get_or v'.taken l 0) lane in let b = ap (λ (l : ℕ). get_or v.taken l 0) lane in let d = old.below in let f = last (get_or v.taken x.lane 0) (omega arith) in omega arith;
      } in
      let grown : length (set lanes k p') ≡ length lanes = length-set lanes k p' in
      record {
        taken = ap length taken' ∙ length-set v.taken x.lane bump ∙ s.taken ∙ ap (λ n. n + 1) (sym grown);
        worlds = ap (λ (y : View). length y.worlds) t.then ∙ s.worlds ∙ ap (λ n. n + 1) (sym grown);
        notes = ap (λ (y : View). length y.notes) t.then ∙ s.notes;
        each = λ i d h. dite (ℕ_discrete i k)
            (λ (q : i ≡ k). subst (λ (y : ℕ × Lane M). IsLane world replies' (1 + y.0) y.1) (λ j. (sym q j, sym (ap (λ (z : ℕ). get_or (set lanes k p') z d) q ∙ get_or-set_same lanes k p' d there) j)) new)
            (λ (q : i ≢ k). let h' : i < length lanes = omega arith in
            let o = s.each i d h' in
            subst (λ (y : Lane M). IsLane world replies' (1 + i) y) (sym (get_or-set_other lanes k i p' d q)) record {
              number_is = o.number_is;
              on = o.on ∙ sym (ap sends_on e);
              mirror = worlds (1 + i) ∙ o.mirror;
              below = let a = else (1 + i) (λ z. q (omega arith)) in let b = o.below in omega arith;
            });
      }

module _ {M : Type 0} (world : M → Option MirrorMap) (faults : M → ℕ) (under : M → Option Fetch) (begins : M → ℕ) where
  pub same_worlds : (own : M) (lanes : List (Lane M)) (k : ℕ) (p p' : Lane M) → p ≡ get_or lanes k p → p'.worker.promise ≡ p.worker.promise
      → (pool_of world faults under begins own (set lanes k p')).worlds ≡ (pool_of world faults under begins own lanes).worlds
  same_worlds own lanes k p p' is same = ap (λ (y : List (Option MirrorMap)). world own ∷ y)
      (map-set_same (λ (y : Lane M). world y.worker.promise.method.value) lanes k p' p (ap (λ y. world y.method.value) same ∙ ap (λ (y : Lane M). world y.worker.promise.method.value) is))

  pub same_counts : (own : M) (lanes : List (Lane M)) (k : ℕ) (p p' : Lane M) → p ≡ get_or lanes k p → p'.last ≡ p.last
      → (pool_of world faults under begins own (set lanes k p')).counts ≡ (pool_of world faults under begins own lanes).counts
  same_counts own lanes k p p' is same = ap (λ (y : List ℕ). faults own ∷ y) (map-set_same (λ (y : Lane M). y.last) lanes k p' p (same ∙ ap (λ (y : Lane M). y.last) is))

  pub same_outs : (own : M) (lanes : List (Lane M)) (k : ℕ) (p p' : Lane M) → p ≡ get_or lanes k p → p'.slot ≡ p.slot
      → (pool_of world faults under begins own (set lanes k p')).outs ≡ (pool_of world faults under begins own lanes).outs
  same_outs own lanes k p p' is same = ap (λ (y : List (Option Fetch)). under own ∷ y) (map-set_same (λ (y : Lane M). y.slot) lanes k p' p (same ∙ ap (λ (y : Lane M). y.slot) is))

  -- what is told of a lane's begun fetches, where no job was handed to it, and where one was
  pub same_begins : (own : M) (lanes : List (Lane M)) (k : ℕ) (p p' : Lane M) → p ≡ get_or lanes k p → p'.worker.promise ≡ p.worker.promise → p'.worker.handed ≡ p.worker.handed
      → (pool_of world faults under begins own (set lanes k p')).begins ≡ (pool_of world faults under begins own lanes).begins
  same_begins own lanes k p p' is same handed =
      let told : Lane M → ℕ = λ y. counted_on (begins y.worker.promise.method.value) y.worker.handed in
      ap (λ (y : List ℕ). begins own ∷ y)
      (map-set_same told lanes k p' p (ap (λ y. counted_on (begins y.method.value) p'.worker.handed) same ∙ ap (λ n. counted_on (begins p.worker.promise.method.value) n) handed ∙ ap told is))

  pub one_handed : (own : M) (lanes : List (Lane M)) (lane : ℕ) (p p' : Lane M) → 0 < lane → lane - 1 < length lanes → p ≡ get_or lanes (lane - 1) p → p'.worker.promise ≡ p.worker.promise
      → p'.worker.handed ≡ p.worker.handed + 1
      → (pool_of world faults under begins own (set lanes (lane - 1) p')).begins
      ≡ set (pool_of world faults under begins own lanes).begins lane (one_more (get_or (pool_of world faults under begins own lanes).begins lane 0))
  one_handed own lanes lane p p' a_worker there is same handed =
      let told : Lane M → ℕ = λ y. counted_on (begins y.worker.promise.method.value) y.worker.handed in
      let before : get_or (begins own ∷ map told lanes) lane 0 ≡ told p = get_or_behind told (begins own) lanes p 0 lane a_worker there ∙ ap told (sym is) in
      let more : told p' ≡ one_more (told p) = ap (λ y. counted_on (begins y.method.value) p'.worker.handed) same ∙ counted_next (begins p.worker.promise.method.value) p.worker.handed p'.worker.handed handed in
      set_behind told (begins own) lanes p' lane a_worker ∙ ap (λ (n : ℕ). set (begins own ∷ map told lanes) lane n) (more ∙ ap (λ (n : ℕ). one_more n) (sym before))

  pub told : (own : M) (replies : Replies) (v' : View) (lanes : List (Lane M)) (x : Told) (p p' : Lane M) (o : Option Told) → AreLanes world replies lanes
      → IsReceived (view replies.pass) x v' → p ≡ get_or lanes (x.lane - 1) p → p'.worker ≡ p.worker
      → IfSome o (λ t. (t ≡ x) × IsChecked p.slot p.last x p'.slot p'.last)
      → IfSome o (λ t. IsWordTaken (pool_of world faults under begins own lanes) t (pool_of world faults under begins own (set lanes (x.lane - 1) p')))
  told own replies v' lanes x p p' None s t is same h = tt
  told own replies v' lanes x p p' (Some y) s t is same h =
      let k : ℕ = x.lane - 1 in
      let a_worker : 0 < x.lane = t.a_worker in
      let lane : 1 + k ≡ x.lane = omega arith in
      let there : k < length lanes = let a = t.a_lane in let b = s.taken in omega arith in
      let old : IsLane world replies (1 + k) p = subst (λ (z : Lane M). IsLane world replies (1 + k) z) (sym is) (s.each k p there) in
      let P : Pool = pool_of world faults under begins own lanes in
      let Q : Pool = pool_of world faults under begins own (set lanes k p') in
      let c = h.1 in
      let test = c.passes in
      let out : slice_get P.outs x.lane ≡ Some p.slot = slice_get_behind (λ (z : Lane M). z.slot) (under own) lanes p x.lane a_worker there ∙ ap (λ (z : Lane M). Some z.slot) (sym is) in
      let w : get_or P.worlds x.lane None ≡ world_at (view replies.pass) x.lane = get_or_behind (λ (z : Lane M). world z.worker.promise.method.value) (world own) lanes p None x.lane a_worker there
      ∙ ap (λ (z : Lane M). world z.worker.promise.method.value) (sym is) ∙ sym old.mirror ∙ ap (λ l. world_at (view replies.pass) l) lane in
      let before : get_or P.counts x.lane 0 ≡ p.last = get_or_behind (λ (z : Lane M). z.last) (faults own) lanes p 0 x.lane a_worker there ∙ ap (λ (z : Lane M). z.last) (sym is) in
      let heard : IsHeard p.last (world_at (view replies.pass) x.lane) test.fetch x.word = is_heard p.last (world_at (view replies.pass) x.lane) test.fetch x.job x.word t.word test.job test.stands test.in_order in
      subst (λ (z : Told). IsWordTaken P z Q) (sym h.0) record {
        fetch = test.fetch;
        worker = a_worker;
        out = out ∙ ap (λ (z : Option Fetch). Some z) test.out_is;
        job = test.job;
        heard = subst (λ (z : ℕ × Option MirrorMap). IsHeard z.0 z.1 test.fetch x.word) (λ j. (sym before j, sym w j)) heard;
        worlds = same_worlds own lanes k p p' is (ap (λ y. y.promise) same);
        counts = set_behind (λ (z : Lane M). z.last) (faults own) lanes p' x.lane a_worker ∙ ap (λ (n : ℕ). set P.counts x.lane n) (c.counts ∙ ap (λ (n : ℕ). count_after n x.word) (sym before));
        outs = set_behind (λ (z : Lane M). z.slot) (under own) lanes p' x.lane a_worker ∙ ap (λ (z : Option Fetch). set P.outs x.lane z) c.goes_on;
        begins = same_begins own lanes k p p' is (ap (λ y. y.promise) same) (ap (λ y. y.handed) same);
      }

-- nothing was taken, and the lanes are as they were
pub unchanged : {A : Type 0} (o : Option Told) (xs : List A) (k : ℕ) (p p' : A) → p ≡ get_or xs k p → IfNone o (p' ≡ p) → IfNone o (set xs k p' ≡ xs)
unchanged None xs k p p' is same = ap (λ y. set xs k y) (same ∙ is) ∙ set-get_or xs k p
unchanged (Some t) xs k p p' is same = tt

pub told_worlds : (o : Option Told) (P Q : Pool) → IfSome o (λ t. IsWordTaken P t Q) → IfNone o (Q ≡ P) → Q.worlds ≡ P.worlds
told_worlds None P Q some none = ap (λ (p : Pool). p.worlds) none
told_worlds (Some t) P Q some none = some.worlds

pub told_counts : (o : Option Told) (P Q : Pool) → IfSome o (λ t. IsWordTaken P t Q) → IfNone o (Q ≡ P) → NoneFell P.counts Q.counts
told_counts None P Q some none = subst (λ (p : Pool). NoneFell P.counts p.counts) (sym none) (none_fell_refl P.counts)
told_counts (Some t) P Q some none = subst (λ (l : List ℕ). NoneFell P.counts l) (sym some.counts) (none_fell_set P.counts t.lane _ (let h = some.heard in let a = h.in_order in let b = h.rises in omega arith))

pub told_begins : (o : Option Told) (P Q : Pool) → IfSome o (λ t. IsWordTaken P t Q) → IfNone o (Q ≡ P) → Q.begins ≡ P.begins
told_begins None P Q some none = ap (λ (p : Pool). p.begins) none
told_begins (Some t) P Q some none = some.begins

pub if_none : {A : Type 0} (o : Option A) (P Q : Type 0) → (P → Q) → IfNone o P → IfNone o Q
if_none None P Q f h = f h
if_none (Some x) P Q f h = tt

-- a job that went to a lane or came back
module _ {M : Type 0} (world : M → Option MirrorMap) where
  pub given : (replies : Option Replies) (lanes : List (Lane M)) (k : ℕ) (p p' : Lane M) → HasReplies world replies lanes → k < length lanes → p ≡ get_or lanes k p → p'.worker.promise ≡ p.worker.promise → p'.last ≡ p.last
      → HasReplies world replies (set lanes k p')
  given None lanes k p p' s there is same last = absurd (let e = ap length s in omega arith)
  given (Some replies) lanes k p p' s there is same last = record {
    taken = s.taken ∙ ap (λ n. n + 1) (sym (length-set lanes k p'));
    worlds = s.worlds ∙ ap (λ n. n + 1) (sym (length-set lanes k p'));
    notes = s.notes;
    each = λ i d h. dite (ℕ_discrete i k)
        (λ (q : i ≡ k). let o = subst (λ (y : Lane M). IsLane world replies (1 + k) y) (sym is) (s.each k p there) in
        let new : IsLane world replies (1 + k) p' = record {
          number_is = ap (λ y. y.lane) same ∙ o.number_is;
          on = ap (λ y. sends_on y.sends.value) same ∙ o.on;
          mirror = o.mirror ∙ sym (ap (λ y. world y.method.value) same);
          below = let a = o.below in omega arith;
        } in
        subst (λ (y : ℕ × Lane M). IsLane world replies (1 + y.0) y.1) (λ j. (sym q j, sym (ap (λ (z : ℕ). get_or (set lanes k p') z d) q ∙ get_or-set_same lanes k p' d there) j)) new)
        (λ (q : i ≢ k). subst (λ (y : Lane M). IsLane world replies (1 + i) y) (sym (get_or-set_other lanes k i p' d q)) (s.each i d (let a = length-set lanes k p' in omega arith)));
  }

pub either_result : {A B : Type 0} (r : Result A B) (P P' Q Q' : Type 0) → MatchResult r (λ _. P) (λ _. Q) → (P → P') → (Q → Q') → MatchResult r (λ _. P') (λ _. Q')
either_result (Ok a) P P' Q Q' h f g = f h
either_result (Err b) P P' Q Q' h f g = g h

pub on_ok : {A B : Type 0} (r : Result A B) (P Q : Type 0) (R : B → Type 0) → MatchResult r (λ _. P) R → (P → Q) → OnOk r Q
on_ok (Ok a) P Q R h f = f h
on_ok (Err b) P Q R h f = tt

pub on_err : {A B : Type 0} (r : Result A B) (P : A → Type 0) (C : B → Type 0) (R Q : Type 0) → MatchResult r P (λ b. C b × R) → (R → Q) → OnErr r Q
on_err (Ok a) P C R Q h f = tt
on_err (Err b) P C R Q h f = f h.1
