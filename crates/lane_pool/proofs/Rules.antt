-- Each step keeps the rule of the channel of replies.
use Rattle.std.proofs.Common.{◌≡◌, ◌≢◌, ℕ, zero, suc, ◌+◌, ◌<◌, ◌≤◌, max, true, false, true≢false, cond, eqb, eq-eqb, ne_eqb, List, [], ◌∷◌, ◌++◌, length, set, get_or, Option, None, sym, refl, ap, ◌∙◌, subst, ⊎_elim, arith}
use mathlib.Core.Option.{some, some-ne-none}
use mathlib.Core.Logic.{dite}
use native.Mathlib.Decide.{ℕ_discrete, dec_lt}
use lib.ListN.{get_elem?}
use Rattle.std.proofs.Math.ListN.{length-set}
use Rattle.std.proofs.lemmas.List.{get_or-set_same, get_or-set_other, length-append}
use Rattle.crossbeam_channel.specs.Fifo.{Pushes, Pops, Forks, Merges, Learns}
use Rattle.atomic_table.proofs.Lists.{at_set, at_snoc}
use Rattle.acq_base.specs.Mirror.{MirrorMap}
use Rattle.lane_pool.specs.declared.told.Told.{Told}
use Rattle.lane_pool.specs.declared.rule.View.{View}
use Rattle.lane_pool.specs.Words.{count_after, IsWordTo, IsInOrder}
use Rattle.lane_pool.specs.Rule.{worker, gone, fresh, with_lane, worker_of, with_note, after_receive, IsSent, IsReceived, AreBounded, FitsWaiting, FitsCoordinator, FitsWorker, FitsView, IsKept}
use Rattle.lane_pool.proofs.Counts.{rises_to, tells_within}
use Rattle.lane_pool.proofs.Rows.{get_snoc_or, get_last_or, all_set, all_snoc}

-- f, but b at a
abbrev put : {A : Type 0} → (ℕ → A) → ℕ → A → ℕ → A
put f a b l = cond (eqb l a) b (f l)

put_here : {A : Type 0} (f : ℕ → A) (a : ℕ) (b : A) (l : ℕ) → l ≡ a → put f a b l ≡ b
put_here f a b l e = ap (λ t. cond t b (f l)) (eq-eqb l a e)

put_else : {A : Type 0} (f : ℕ → A) (a : ℕ) (b : A) (l : ℕ) → l ≢ a → put f a b l ≡ f l
put_else f a b l e = ap (λ t. cond t b (f l)) (ne_eqb l a e)

get_snoc : (l : List ℕ) (a j : ℕ) → j < length l → get_or (l ++ a ∷ []) j 0 ≡ get_or l j 0
get_snoc l a j h = get_snoc_or l a 0 j h

get_last : (l : List ℕ) (a j : ℕ) → j ≡ length l → get_or (l ++ a ∷ []) j 0 ≡ a
get_last l a j h = get_last_or l a 0 j h

get_past : (l : List ℕ) (j : ℕ) → length l ≤ j → get_or l j 0 ≡ 0
get_past [] j h = refl
get_past (x ∷ xs) zero h = absurd (omega arith)
get_past (x ∷ xs) (suc j) h = get_past xs j (omega arith)

-- each live view, with its pass
abbrev Each : (ℕ → View → Type 0) → List View → Type 0
Each F views = (pass : ℕ) (v : View) → get_elem? views pass ≡ some v → v.live ≡ true → F pass v

each_set : (F : ℕ → View → Type 0) (views : List View) (pass : ℕ) (w : View) → (w.live ≡ true → F pass w)
    → ((j : ℕ) (u : View) → j ≢ pass → get_elem? views j ≡ some u → u.live ≡ true → F j u) → Each F (set views pass w)
each_set F views pass w mine others = all_set (λ j (u : View). u.live ≡ true → F j u) views pass w mine others

each_snoc : (F : ℕ → View → Type 0) (views : List View) (w : View) → (w.live ≡ true → F (length views) w) → Each F views → Each F (views ++ w ∷ [])
each_snoc F views w mine old = all_snoc (λ j (u : View). u.live ≡ true → F j u) views w mine old

none_dead : {P : Type 0} → false ≡ true → P
none_dead e = absurd (true≢false (sym e))

-- making the channel
pub begins : IsKept [] (fresh ∷ [])
begins = record {
  world = λ _. None;
  owner = λ _. 0;
  last = λ _. 0;
  lanes = 1;
  back = 1;
  some_back = omega arith;
  few_back = omega arith;
  waiting = λ i x e. absurd (some-ne-none x (sym e));
  known = each_set (FitsView (λ _. None) (λ _. 0) (λ _. 0) 1 1) (fresh ∷ []) 0 fresh (λ _. mine) (λ j u other e. absurd (other (only j u e)));
}
  where
    only : (j : ℕ) (u : View) → get_elem? (fresh ∷ []) j ≡ some u → j ≡ 0
    only zero u e = refl
    only (suc j) u e = absurd (some-ne-none u (sym e))

    zeros : (l : ℕ) → (let z : ℕ = 0 in get_or (z ∷ []) l z ≡ z)
    zeros zero = refl
    zeros (suc l) = refl

    nones : (l : ℕ) → (let z : Option MirrorMap = None in get_or (z ∷ []) l z ≡ z)
    nones zero = refl
    nones (suc l) = refl

    mine : FitsView (λ _. None) (λ _. 0) (λ _. 0) 1 1 0 fresh
    mine = record {
      owns = refl;
      a_lane = omega arith;
      coordinator = λ _. record { counted = refl; named = refl; noted = refl; worlds = λ l h. nones l; taken = λ l. omega (arith, zeros l); notes = λ l h. omega arith };
      worker = λ h. absurd (omega arith);
    }

-- a send
pub sends : (n pass : ℕ) (v : View) (x : Told) → v.live ≡ true → 0 < v.lane → x.lane ≡ v.lane → IsWordTo v.world x.job x.word → IsInOrder v.last x.word
    → Pushes IsKept n pass v x (IsSent v x)
sends n pass v x live away lane word order items views room k at =
    let mine = k.known pass v at live in
    let w : View = worker v.world v.lane (count_after v.last x.word) in
    let grows : v.last ≤ w.last = rises_to v.last v.world x.job x.word order word in
    let within : count_after 0 x.word ≤ w.last = tells_within v.last x.word in
    let last : ℕ → ℕ = put k.last v.lane w.last in
    let here : (l : ℕ) → l ≡ v.lane → last l ≡ w.last = put_here k.last v.lane w.last in
    let else : (l : ℕ) → l ≢ v.lane → last l ≡ k.last l = put_else k.last v.lane w.last in
    let out : FitsWorker k.world k.last k.back v = mine.worker away in
    let same : v.world ≡ k.world x.lane = out.mirror ∙ ap k.world (sym lane) in
    let more : (l : ℕ) → k.last l ≤ last l = λ l. dite (ℕ_discrete l v.lane)
    (λ (e : l ≡ v.lane). let a = here l e in let b = ap k.last e in let c = out.below in omega arith) (λ (e : l ≢ v.lane). let a = else l e in omega arith) in
    let F : ℕ → View → Type 0 = FitsView k.world k.owner last k.lanes k.back in (
      w,
      record {
        world = k.world;
        owner = k.owner;
        last = last;
        lanes = k.lanes;
        back = k.back;
        some_back = k.some_back;
        few_back = k.few_back;
        waiting = λ i y e. ⊎_elim
            (λ (there : get_elem? items i ≡ some y). let f = k.waiting i y there in record { a_worker = f.a_worker; a_lane = f.a_lane; word = f.word; below = let a = f.below in let b = more y.lane in omega arith })
            (λ (is : x ≡ y). subst (λ (z : Told). FitsWaiting k.world last k.lanes z) is record {
              a_worker = omega arith;
              a_lane = let a = mine.a_lane in omega arith;
              word = subst (λ (z : Option MirrorMap). IsWordTo z x.job x.word) same word;
              below = let a = here x.lane lane in omega arith;
            }) (at_snoc items x y i e);
        known = each_set F views pass w
            (λ _. record { owns = mine.owns; a_lane = mine.a_lane; coordinator = λ z. absurd (omega arith); worker = λ _. record { away = out.away; mirror = out.mirror; below = let a = here v.lane refl in omega arith } })
            (λ j u other e up. let f = k.known j u e up in record {
              owns = f.owns;
              a_lane = f.a_lane;
              coordinator = λ z. let c = f.coordinator z in record {
                counted = c.counted;
                named = c.named;
                noted = c.noted;
                worlds = c.worlds;
                taken = λ l. let a = c.taken l in let b = more l in omega arith;
                notes = λ l h. let a = c.notes l h in let d = out.away in let b = else l (λ is. omega arith) in omega arith;
              };
              worker = λ h. let a = f.worker h in let b = else u.lane (λ is. other (f.owns ∙ ap k.owner is ∙ sym mine.owns)) in record { away = a.away; mirror = a.mirror; below = let d = a.below in omega arith };
            });
      },
      record { lane = lane; word = word; in_order = order; then = refl },
    )

-- a receive
pub receives : (pass : ℕ) (v : View) → v.live ≡ true → v.lane ≡ 0 → Pops IsKept pass v (IsReceived v)
receives pass v live lane x items views k at =
    let fits : FitsWaiting k.world k.last k.lanes x = k.waiting 0 x refl in
    let mine = k.known pass v at live in
    let c : FitsCoordinator k.world k.last k.lanes k.back v = mine.coordinator lane in
    let w : View = after_receive v x in
    let told : ℕ = count_after 0 x.word in
    let a_lane : x.lane < length v.taken = let a = fits.a_lane in let b = c.counted in omega arith in
    let F : ℕ → View → Type 0 = FitsView k.world k.owner k.last k.lanes k.back in (
      w,
      record {
        world = k.world;
        owner = k.owner;
        last = k.last;
        lanes = k.lanes;
        back = k.back;
        some_back = k.some_back;
        few_back = k.few_back;
        waiting = λ i y e. k.waiting (suc i) y e;
        known = each_set F views pass w
            (λ _. record {
              owns = mine.owns ∙ ap k.owner lane;
              a_lane = let a = fits.a_lane in omega arith;
              coordinator = λ _. record {
                counted = length-set v.taken x.lane _ ∙ c.counted;
                named = c.named;
                noted = c.noted;
                worlds = c.worlds;
                taken = λ l. dite (ℕ_discrete l x.lane)
                    (λ (e : l ≡ x.lane).
                    let a : get_or (set v.taken x.lane (max (get_or v.taken x.lane 0) told)) x.lane 0 ≡ max (get_or v.taken x.lane 0) told = get_or-set_same v.taken x.lane _ 0 a_lane in
                    let b = ap (λ (z : ℕ). get_or (set v.taken x.lane (max (get_or v.taken x.lane 0) told)) z 0) e in
                    let d = c.taken x.lane in let f = fits.below in let g = ap k.last e in omega arith)
                    (λ (e : l ≢ x.lane). let a = get_or-set_other v.taken x.lane l (max (get_or v.taken x.lane 0) told) 0 e in let b = c.taken l in omega arith);
                notes = c.notes;
              };
              worker = λ h. absurd (omega arith);
            })
            (λ j u other e up. k.known j u e up);
      },
      record { a_worker = fits.a_worker; a_lane = a_lane; word = subst (λ (z : Option MirrorMap). IsWordTo z x.job x.word) (sym (c.worlds x.lane fits.a_lane)) fits.word; then = refl },
    )

-- splitting off a new worker's pass
pub splits : (world : Option MirrorMap) (count pass : ℕ) (v : View) → v.live ≡ true → v.lane ≡ 0 → Forks IsKept pass v (with_lane world count v) (worker_of world count v)
splits world count pass v live lane items views k at =
    let mine = k.known pass v at live in
    let c : FitsCoordinator k.world k.last k.lanes k.back v = mine.coordinator lane in
    let w : View = with_lane world count v in
    let new : View = worker_of world count v in
    let pass' : ℕ = length (set views pass w) in
    let owner : ℕ → ℕ = put k.owner k.lanes pass' in
    let last : ℕ → ℕ = put k.last k.lanes count in
    let worlds : ℕ → Option MirrorMap = put k.world k.lanes world in
    let same : (l : ℕ) → l < k.lanes → worlds l ≡ k.world l = λ l h. put_else k.world k.lanes world l (λ e. omega arith) in
    let owned : (l : ℕ) → l < k.lanes → owner l ≡ k.owner l = λ l h. put_else k.owner k.lanes pass' l (λ e. omega arith) in
    let lasts : (l : ℕ) → l < k.lanes → last l ≡ k.last l = λ l h. put_else k.last k.lanes count l (λ e. omega arith) in
    let new_last : last k.lanes ≡ count = put_here k.last k.lanes count k.lanes refl in
    let some_lane : 0 < k.lanes = let a = k.some_back in let b = k.few_back in omega arith in
    let F : ℕ → View → Type 0 = FitsView worlds owner last (k.lanes + 1) k.back in
    record {
      world = worlds;
      owner = owner;
      last = last;
      lanes = k.lanes + 1;
      back = k.back;
      some_back = k.some_back;
      few_back = let a = k.few_back in omega arith;
      waiting = λ i y e. let f = k.waiting i y e in record { a_worker = f.a_worker; a_lane = let a = f.a_lane in omega arith; word = subst (λ (z : Option MirrorMap). IsWordTo z y.job y.word) (sym (same y.lane f.a_lane)) f.word; below = let a = f.below in let b = lasts y.lane f.a_lane in omega arith };
      known = each_snoc F (set views pass w) new
          (λ _. record {
            owns = sym (ap owner c.counted ∙ put_here k.owner k.lanes pass' k.lanes refl);
            a_lane = let a = c.counted in omega arith;
            coordinator = λ z. absurd (let a = c.counted in omega arith);
            worker = λ h. record { away = let a = c.counted in let b = k.few_back in omega arith; mirror = sym (ap worlds c.counted ∙ put_here k.world k.lanes world k.lanes refl); below = let a = ap last c.counted in omega arith };
          }) (each_set F views pass w
          (λ _. record {
            owns = mine.owns ∙ ap k.owner lane ∙ sym (owned 0 some_lane);
            a_lane = omega arith;
            coordinator = λ _. record {
              counted = let a = length-append v.taken (count ∷ []) in let b = c.counted in omega arith;
              named = let a = length-append v.worlds (world ∷ []) in let b = c.named in omega arith;
              noted = c.noted;
              worlds = λ l h. dite (ℕ_discrete l k.lanes)
                  (λ (e : l ≡ k.lanes). get_last_or v.worlds world None l (e ∙ sym c.named) ∙ sym (put_here k.world k.lanes world l e))
                  (λ (e : l ≢ k.lanes). let h' : l < k.lanes = omega arith in get_snoc_or v.worlds world None l (let b = c.named in omega arith) ∙ c.worlds l h' ∙ sym (same l h'));
              taken = λ l. dite (dec_lt l k.lanes)
                  (λ (h : l < k.lanes). let a = get_snoc v.taken count l (let b = c.counted in omega arith) in let b = c.taken l in let d = lasts l h in omega arith)
                  (λ (h : ¬ (l < k.lanes)). dite (ℕ_discrete l k.lanes)
                  (λ (e : l ≡ k.lanes). let a = get_last v.taken count l (e ∙ sym c.counted) in let b = ap last e in omega arith)
                  (λ (e : l ≢ k.lanes). let a = get_past (v.taken ++ count ∷ []) l (let b = length-append v.taken (count ∷ []) in let d = c.counted in omega arith) in omega arith));
              notes = λ l h. let a = c.notes l h in let b = lasts l (let d = k.few_back in omega arith) in omega arith;
            };
            worker = λ h. absurd (omega arith);
          })
          (λ j u other e up. let f = k.known j u e up in record {
            owns = f.owns ∙ sym (owned u.lane f.a_lane);
            a_lane = let a = f.a_lane in omega arith;
            coordinator = λ z. absurd (other (f.owns ∙ ap k.owner (z ∙ sym lane) ∙ sym mine.owns));
            worker = λ h. let a = f.worker h in let b = lasts u.lane f.a_lane in record { away = a.away; mirror = a.mirror ∙ sym (same u.lane f.a_lane); below = let d = a.below in omega arith };
          }));
    }

-- taking the pass of the next worker back in
pub takes_back : (pass : ℕ) (v : View) (other : ℕ) (u : View) → v.live ≡ true → v.lane ≡ 0 → u.live ≡ true → u.lane ≡ length v.notes
    → Merges IsKept pass v other u (with_note v u) gone
takes_back pass v other u live lane live' next items views k at two at' =
    let mine = k.known pass v at live in
    let c : FitsCoordinator k.world k.last k.lanes k.back v = mine.coordinator lane in
    let w : View = with_note v u in
    let was : get_elem? views other ≡ some u = ⊎_elim (λ x. absurd (two x.0)) (λ x. x.1) (at_set views pass other w u at') in
    let theirs = k.known other u was live' in
    let is_next : u.lane ≡ k.back = next ∙ c.noted in
    let some_back : 0 < k.back = k.some_back in
    let out : FitsWorker k.world k.last k.back u = theirs.worker (omega arith) in
    let last_next : k.last k.back ≤ u.last = let a = ap k.last is_next in let b = out.below in omega arith in
    let F : ℕ → View → Type 0 = FitsView k.world k.owner k.last k.lanes (k.back + 1) in
    let G : ℕ → View → Type 0 = λ j y. j ≢ other → F j y in
    record {
      world = k.world;
      owner = k.owner;
      last = k.last;
      lanes = k.lanes;
      back = k.back + 1;
      some_back = omega arith;
      few_back = let a = theirs.a_lane in omega arith;
      waiting = k.waiting;
      known = each_set F (set views pass w) other gone (λ e. none_dead e) (λ j y apart e up. each_set G views pass w
          (λ _ _. record {
            owns = mine.owns ∙ ap k.owner lane;
            a_lane = let a = theirs.a_lane in omega arith;
            coordinator = λ _. record {
              counted = c.counted;
              named = c.named;
              noted = let a = length-append v.notes (u.last ∷ []) in let b = c.noted in omega arith;
              worlds = c.worlds;
              taken = c.taken;
              notes = λ l h. dite (ℕ_discrete l k.back)
                  (λ (is : l ≡ k.back). let a = get_last v.notes u.last l (is ∙ sym c.noted) in let b = ap k.last is in omega arith)
                  (λ (no : l ≢ k.back). let h' : l < k.back = omega arith in let a = get_snoc v.notes u.last l (let b = c.noted in omega arith) in let b = c.notes l h' in omega arith);
            };
            worker = λ h. absurd (omega arith);
          })
          (λ i z away is alive far. let f = k.known i z is alive in record {
            owns = f.owns;
            a_lane = f.a_lane;
            coordinator = λ zero_lane. absurd (away (f.owns ∙ ap k.owner (zero_lane ∙ sym lane) ∙ sym mine.owns));
            worker = λ h. let a = f.worker h in record { away = let b : z.lane ≢ k.back = λ same. far (f.owns ∙ ap k.owner (same ∙ sym is_next) ∙ sym theirs.owns) in let d = a.away in omega arith; mirror = a.mirror; below = a.below };
          }) j y e up apart);
    }

-- what was taken of the lanes that are back is at or below their notes
pub bounds : (pass : ℕ) (v : View) → v.live ≡ true → v.lane ≡ 0 → Learns IsKept pass v (λ items. AreBounded v)
bounds pass v live lane items views k at = let c = (k.known pass v at live).coordinator lane in λ l h. let a = c.taken l in let b = c.notes l (let d = c.noted in omega arith) in omega arith
