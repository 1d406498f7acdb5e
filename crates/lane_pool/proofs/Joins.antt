-- Joining the workers one by one.
use Rattle.std.proofs.Common.{◌≡◌, ◌≢◌, ◌∙◌, ℕ, zero, suc, ◌+◌, ◌<◌, ◌≤◌, List, [], ◌∷◌, ◌++◌, map, Option, None, length, get_or, slice_index, slice_index_or, sym, refl, ap, arith, append-nil, append_assoc}
use mathlib.Core.Logic.{dite}
use native.Mathlib.Decide.{ℕ_discrete}
use Rattle.std.proofs.lemmas.List.{length-append, get_or-map, ext_get_or, length-map}
use Rattle.crossbeam_channel.specs.Claims.{view}
use Rattle.acq_base.specs.Mirror.{MirrorMap}
use Rattle.acq_outside.specs.declared.word.Fetch.{Fetch}
use Rattle.lane_pool.specs.declared.rule.View.{View}
use Rattle.lane_pool.specs.declared.desk.Coordinator.{Coordinator}
use Rattle.lane_pool.specs.declared.replies.Replies.{Replies}
use Rattle.lane_pool.specs.declared.lane.Lane.{Lane}
use Rattle.acq_outside.specs.Count.{NoneFell}
use Rattle.lane_pool.specs.Rule.{with_note, AreBounded}
use Rattle.lane_pool.specs.Refinement.{IsLane, AreLanes, AreBack, pool_of}
use Rattle.lane_pool.specs.Counting.{counted_on, IsBegun, BegunAsHanded}
use Rattle.lane_pool.proofs.Counted.{begun_of, begun_as_handed_at}
use Rattle.lane_pool.proofs.Rows.{get_snoc_or, get_last_or, none_fell_at}

-- what is told of a lane's begun fetches
abbrev told_of : {M : Type 0} → (M → ℕ) → Lane M → ℕ
told_of begins p = counted_on (begins p.worker.promise.method.value) p.worker.handed

module _ {M : Type 0} (world : M → Option MirrorMap) (faults begins : M → ℕ) where
  -- where a loop that joins the workers stands: those of `lanes` were joined
  pub record AreJoined (before : Replies) (desk : Coordinator) (all : List M) (lanes : List (Lane M)) (back : List M) : Type 0 where
    pub sends : desk.sends ≡ before.sends
    pub taken : (view desk.pass).taken ≡ (view before.pass).taken
    pub notes : length (view desk.pass).notes ≡ 1 + length lanes
    pub len : length back ≡ length all + length lanes
    pub first : (i : ℕ) (d : M) → i < length all → slice_index_or back i d ≡ slice_index_or all i d
    pub worlds : (i : ℕ) (d : M) (e : Lane M) → i < length lanes → world (slice_index_or back (length all + i) d) ≡ world (slice_index_or lanes i e).worker.promise.method.value
    pub counts : (i : ℕ) (d : M) → i < length lanes → slice_index (view desk.pass).notes (1 + i) ≤ faults (slice_index_or back (length all + i) d)
    pub begun : (i : ℕ) (d : M) (e : Lane M) → i < length lanes → IsBegun (told_of begins (slice_index_or lanes i e)) (begins (slice_index_or back (length all + i) d))

module _ {M : Type 0} (world : M → Option MirrorMap) (faults begins : M → ℕ) where
  pub joins : (before : Replies) (desk desk' : Coordinator) (all : List M) (lanes : List (Lane M)) (back : List M) (p : Lane M) (w : View) (m : M) → AreJoined world faults begins before desk all lanes back
      → desk'.sends ≡ desk.sends → view desk'.pass ≡ with_note (view desk.pass) w → world m ≡ world p.worker.promise.method.value → w.last ≤ faults m → IsBegun (told_of begins p) (begins m)
      → AreJoined world faults begins before desk' all (lanes ++ p ∷ []) (back ++ m ∷ [])
  joins before desk desk' all lanes back p w m j e v same last begun =
      let grown : length (lanes ++ p ∷ []) ≡ length lanes + 1 = length-append lanes (p ∷ []) in
      let more : length (back ++ m ∷ []) ≡ length back + 1 = length-append back (m ∷ []) in
      let notes : (view desk'.pass).notes ≡ (view desk.pass).notes ++ w.last ∷ [] = ap (λ (y : View). y.notes) v in
      let longer : length ((view desk.pass).notes ++ w.last ∷ []) ≡ length (view desk.pass).notes + 1 = length-append (view desk.pass).notes (w.last ∷ []) in
      record {
        sends = e ∙ j.sends;
        taken = ap (λ (y : View). y.taken) v ∙ j.taken;
        notes = let a = ap length notes in let b = j.notes in omega arith;
        len = let a = j.len in omega arith;
        first = λ i d h. get_snoc_or back m d i (let a = j.len in omega arith) ∙ j.first i d h;
        worlds = λ i d q h. dite (ℕ_discrete i (length lanes))
            (λ (is : i ≡ length lanes). ap world (get_last_or back m d (length all + i) (let a = j.len in omega arith)) ∙ same ∙ sym (ap (λ (y : Lane M). world y.worker.promise.method.value) (get_last_or lanes p q i is)))
            (λ (other : i ≢ length lanes). let h' : i < length lanes = omega arith in
            ap world (get_snoc_or back m d (length all + i) (let a = j.len in omega arith)) ∙ j.worlds i d q h' ∙ sym (ap (λ (y : Lane M). world y.worker.promise.method.value) (get_snoc_or lanes p q i h')));
        counts = λ i d h. dite (ℕ_discrete i (length lanes))
            (λ (is : i ≡ length lanes).
            let a = ap faults (get_last_or back m d (length all + i) (let a = j.len in omega arith)) in
            let b = ap (λ (y : List ℕ). get_or y (1 + i) 0) notes in
            let f = get_last_or (view desk.pass).notes w.last 0 (1 + i) (let g = j.notes in omega arith) in omega arith)
            (λ (other : i ≢ length lanes). let h' : i < length lanes = omega arith in
            let a = ap faults (get_snoc_or back m d (length all + i) (let a = j.len in omega arith)) in
            let b = ap (λ (y : List ℕ). get_or y (1 + i) 0) notes in
            let f = get_snoc_or (view desk.pass).notes w.last 0 (1 + i) (let g = j.notes in omega arith) in let o = j.counts i d h' in omega arith);
        begun = λ i d q h. dite (ℕ_discrete i (length lanes))
            (λ (is : i ≡ length lanes). begun_of (told_of begins p) (begins m) _ _
            (ap (λ (y : Lane M). told_of begins y) (get_last_or lanes p q i is)) (ap begins (get_last_or back m d (length all + i) (let a = j.len in omega arith))) begun)
            (λ (other : i ≢ length lanes). let h' : i < length lanes = omega arith in
            begun_of (told_of begins (get_or lanes i q)) (begins (get_or back (length all + i) d)) _ _
            (ap (λ (y : Lane M). told_of begins y) (get_snoc_or lanes p q i h')) (ap begins (get_snoc_or back m d (length all + i) (let a = j.len in omega arith))) (j.begun i d q h'));
      }

  pub all_back : (before : Replies) (desk desk' : Coordinator) (all : List M) (lanes : List (Lane M)) (back : List M) → AreLanes world before lanes → AreJoined world faults begins before desk all lanes back
      → view desk'.pass ≡ view desk.pass → AreBounded (view desk'.pass) → AreBack world faults begins all lanes back
  all_back before desk desk' all lanes back s j v b = record {
    len = j.len;
    first = j.first;
    worlds = j.worlds;
    counts = λ i d e h.
        let p : IsLane world before (1 + i) (get_or lanes i e) = s.each i e h in
        let below = p.below in
        let t = ap (λ (y : List ℕ). get_or y (1 + i) 0) j.taken in
        let t' = ap (λ (y : View). get_or y.taken (1 + i) 0) v in
        let n' = ap (λ (y : View). get_or y.notes (1 + i) 0) v in
        let ln = ap (λ (y : View). length y.notes) v in
        let f = b (1 + i) (let a = j.notes in omega arith) in
        let o = j.counts i d h in
        omega arith;
    begun = j.begun;
  }

pub no_more : {A : Type 0} (lanes yielded rest : List A) (n : ℕ) → lanes ≡ yielded ++ rest → n ≡ length rest → n ≡ 0 → yielded ≡ lanes
no_more lanes yielded [] n e l z = sym (e ∙ append-nil yielded)
no_more lanes yielded (x ∷ xs) n e l z = absurd (omega arith)

pub one_more : {A : Type 0} (lanes yielded rest rest' : List A) (p : A) → lanes ≡ yielded ++ rest → rest ≡ p ∷ rest' → lanes ≡ (yielded ++ p ∷ []) ++ rest'
one_more lanes yielded rest rest' p e s = e ∙ ap (λ y. yielded ++ y) s ∙ sym (append_assoc yielded (p ∷ []) rest')

module _ {M : Type 0} (world : M → Option MirrorMap) (faults : M → ℕ) (under : M → Option Fetch) (begins : M → ℕ) where
  len_back : (own : M) (all : List M) (lanes : List (Lane M)) (back : List M) → all ≡ own ∷ [] → AreBack world faults begins all lanes back → length back ≡ suc (length lanes)
  len_back own all lanes back one b = let a = ap length one in let e = b.len in omega arith

  own_back : (own : M) (all : List M) (lanes : List (Lane M)) (back : List M) (d : M) → all ≡ own ∷ [] → AreBack world faults begins all lanes back → get_or back 0 d ≡ own
  own_back own all lanes back d one b = b.first 0 d (let a = ap length one in omega arith) ∙ ap (λ (y : List M). get_or y 0 d) one

  shifted : (own : M) (all : List M) (back : List M) (i : ℕ) (d : M) → all ≡ own ∷ [] → get_or back (length all + i) d ≡ get_or back (suc i) d
  shifted own all back i d one = ap (λ (k : ℕ). get_or back k d) (let a = ap length one in omega arith)

  -- the methods that are back tell the mirrors of the lanes
  pub worlds_back : (own : M) (all : List M) (lanes : List (Lane M)) (back : List M) → all ≡ own ∷ [] → AreBack world faults begins all lanes back → map world back ≡ (pool_of world faults under begins own lanes).worlds
  worlds_back own all lanes back one b =
      let f : Lane M → Option MirrorMap = λ z. world z.worker.promise.method.value in
      let len = len_back own all lanes back one b in
      ext_get_or None (map world back) (world own ∷ map f lanes) (length-map back world ∙ len ∙ ap suc (sym (length-map lanes f)))
      (λ i h. at i (let a = length-map back world in omega arith))
    where
      at : (i : ℕ) → i < length back → get_or (map world back) i None ≡ get_or (world own ∷ map (λ (z : Lane M). world z.worker.promise.method.value) lanes) i None
      at zero h = get_or-map world back 0 own None h ∙ ap world (own_back own all lanes back own one b)
      at (suc i) h = get_or-map world back (suc i) own None h ∙ ap world (sym (shifted own all back i own one)) ∙ behind lanes refl
        where
          behind : (l : List (Lane M)) → lanes ≡ l → world (get_or back (length all + i) own) ≡ get_or (map (λ (z : Lane M). world z.worker.promise.method.value) lanes) i None
          behind [] e = absurd (let a = ap length e in let c = len_back own all lanes back one b in omega arith)
          behind (p ∷ ps) e = let h' : i < length lanes = let c = len_back own all lanes back one b in omega arith in b.worlds i own p h' ∙ sym (get_or-map (λ (z : Lane M). world z.worker.promise.method.value) lanes i p None h')

  -- their counts are at or above the last that were taken
  pub counts_back : (own : M) (all : List M) (lanes : List (Lane M)) (back : List M) → all ≡ own ∷ [] → AreBack world faults begins all lanes back
      → NoneFell (pool_of world faults under begins own lanes).counts (map faults back)
  counts_back own all lanes back one b =
      let f : Lane M → ℕ = λ z. z.last in
      let len = len_back own all lanes back one b in
      none_fell_at (faults own ∷ map f lanes) (map faults back) (ap suc (length-map lanes f) ∙ sym len ∙ sym (length-map back faults))
      (λ i h. at i (let a = length-map lanes f in omega arith))
    where
      at : (i : ℕ) → i < length back → get_or (faults own ∷ map (λ (z : Lane M). z.last) lanes) i 0 ≤ get_or (map faults back) i 0
      at zero h = let a = get_or-map faults back 0 own 0 h in let c = ap faults (own_back own all lanes back own one b) in omega arith
      at (suc i) h = behind lanes refl
        where
          behind : (l : List (Lane M)) → lanes ≡ l → get_or (map (λ (z : Lane M). z.last) lanes) i 0 ≤ get_or (map faults back) (suc i) 0
          behind [] e = absurd (let a = ap length e in let c = len_back own all lanes back one b in omega arith)
          behind (p ∷ ps) e =
              let h' : i < length lanes = let c = len_back own all lanes back one b in omega arith in
              let a = get_or-map faults back (suc i) own 0 h in
              let c = ap faults (shifted own all back i own one) in
              let d = get_or-map (λ (z : Lane M). z.last) lanes i p 0 h' in
              let o = b.counts i own p h' in
              omega arith

  -- of each lane as many fetches were begun as is told, but for jobs that weren't begun
  pub begun_back : (own : M) (all : List M) (lanes : List (Lane M)) (back : List M) → all ≡ own ∷ [] → AreBack world faults begins all lanes back
      → BegunAsHanded (pool_of world faults under begins own lanes).begins (map begins back)
  begun_back own all lanes back one b =
      let f : Lane M → ℕ = told_of begins in
      let len = len_back own all lanes back one b in
      begun_as_handed_at (begins own) (map f lanes) (map begins back) (length-map back begins ∙ len ∙ ap suc (sym (length-map lanes f)))
      (get_or-map begins back 0 own 0 (omega arith) ∙ ap begins (own_back own all lanes back own one b))
      (λ i h. at i (let a = length-map lanes f in omega arith) lanes refl)
    where
      at : (i : ℕ) → i < length lanes → (l : List (Lane M)) → lanes ≡ l → IsBegun (get_or (map (told_of begins) lanes) i 0) (get_or (map begins back) (suc i) 0)
      at i h [] e = absurd (let a = ap length e in omega arith)
      at i h (p ∷ ps) e = begun_of (told_of begins (get_or lanes i p)) (begins (get_or back (length all + i) own)) _ _ (get_or-map (told_of begins) lanes i p 0 h)
          (get_or-map begins back (suc i) own 0 (let c = len_back own all lanes back one b in omega arith) ∙ ap begins (sym (shifted own all back i own one))) (b.begun i own p h)
