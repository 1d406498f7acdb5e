-- Faults as they are told of several methods, and the mirror that these tell.
use Rattle.std.proofs.Common.{◌≡◌, ◌∙◌, ◌⊎◌, inl, inr, ◌<◌, ◌≤◌, ℕ, zero, suc, Bool, true, false, List, [], ◌∷◌, ◌++◌, length, Option, Some, None, refl, sym, ap, subst, arith}
use Rattle.std.specs.Prelude.{◌==◌, if◌then◌else◌, slice_get}
use Rattle.std.specs.List.{AllByRecursion as Each}
use Rattle.std.proofs.lemmas.Bool.{cases_Bool}
use Rattle.std.proofs.lemmas.Bool.Decides.{nat_tests}
use Rattle.acq_base.specs.Mirror.{MirrorMap}
use Rattle.acq_outside.specs.Count.{NoneFell}
use Rattle.job_fetch.specs.Fetched.{IsCounted}
use Rattle.update_model.specs.Trails.{heard_of}
use Rattle.update_model.specs.declared.ask.Closed.{Closed}
use Rattle.update_model.specs.declared.log.Asked.{Asked}
use Rattle.run_jobs.specs.Counting.{CountsUp, FaultsRise, asks_of_lane}
use Rattle.run_jobs.specs.Mirrors.{ForMirror}
use Rattle.run_jobs.proofs.Telling.{counts_last, each_last, on_heard}

-- ---- counts that rise

-- a count that didn't fall
at_least : (counts more : List ℕ) (lane last : ℕ) → NoneFell counts more → slice_get more lane ≡ Some last → (n : ℕ) × (slice_get counts lane ≡ Some n) × (n ≤ last)
at_least [] [] lane last fell e = absurd (cc)
at_least [] (n ∷ ns) lane last fell e = absurd fell
at_least (m ∷ ms) [] lane last fell e = absurd fell
at_least (m ∷ ms) (n ∷ ns) zero last fell e = let same : n ≡ last = cc in let low = fell.0 in (m, refl, omega (arith, low, same))
at_least (m ∷ ms) (n ∷ ns) (suc lane) last fell e = at_least ms ns lane last fell.1 e

-- a later count allows more
counts_more : (entries : List Asked) (first last more : ℕ) → last ≤ more → CountsUp first last entries → CountsUp first more entries
counts_more [] first last more le up = omega (arith, le, up)
counts_more (entry ∷ entries) first last more le up = on_heard entry.heard first _ _ (λ n rest. counts_more entries n last more le rest) up

pub faults_more : (first counts more : List ℕ) (asks : List Asked) → NoneFell counts more → FaultsRise first counts asks → FaultsRise first more asks
faults_more first counts more asks fell up = record {
  lanes = up.lanes;
  counts = λ lane f l is last.
      let was = at_least counts more lane l fell last in
      counts_more (asks_of_lane lane asks) f was.0 l was.2 (up.counts lane f was.0 is was.1);
}

-- nothing is told so far
pub none_told : (counts : List ℕ) → FaultsRise counts counts []
none_told counts = record { lanes = tt; counts = λ lane first last is at. let same : first ≡ last = cc in omega (arith, same) }

-- ---- one more entry

lane_more : (lane : ℕ) (entries : List Asked) (entry : Asked) → (entry.lane == lane) ≡ true → asks_of_lane lane (entries ++ entry ∷ []) ≡ asks_of_lane lane entries ++ entry ∷ []
lane_more lane [] entry is = rw is refl
lane_more lane (other ∷ entries) entry is = one (other.lane == lane) (lane_more lane entries entry is)
  where
    one : (c : Bool) → asks_of_lane lane (entries ++ entry ∷ []) ≡ asks_of_lane lane entries ++ entry ∷ []
        → (if c then other ∷ asks_of_lane lane (entries ++ entry ∷ []) else asks_of_lane lane (entries ++ entry ∷ [])) ≡ (if c then other ∷ asks_of_lane lane entries else asks_of_lane lane entries) ++ entry ∷ []
    one true rest = ap (λ (es : List Asked). other ∷ es) rest
    one false rest = rest

lane_same : (lane : ℕ) (entries : List Asked) (entry : Asked) → (entry.lane == lane) ≡ false → asks_of_lane lane (entries ++ entry ∷ []) ≡ asks_of_lane lane entries
lane_same lane [] entry isnt = rw isnt refl
lane_same lane (other ∷ entries) entry isnt = one (other.lane == lane) (lane_same lane entries entry isnt)
  where
    one : (c : Bool) → asks_of_lane lane (entries ++ entry ∷ []) ≡ asks_of_lane lane entries
        → (if c then other ∷ asks_of_lane lane (entries ++ entry ∷ []) else asks_of_lane lane (entries ++ entry ∷ [])) ≡ (if c then other ∷ asks_of_lane lane entries else asks_of_lane lane entries)
    one true rest = ap (λ (es : List Asked). other ∷ es) rest
    one false rest = rest

-- an answer is counted by the method of its lane
pub record IsCountedOn (counts more : List ℕ) (lane before after : ℕ) (closed : Closed) : Type 0 where
  pub last : ℕ
  pub was : slice_get counts lane ≡ Some last
  pub low : last ≤ before
  pub now : slice_get more lane ≡ Some after
  pub rises : before ≤ after
  pub counted : IsCounted before after closed
  pub fell : NoneFell counts more

pub faults_last : (first counts more : List ℕ) (asks : List Asked) (entry : Asked) (lane before after : ℕ) (closed : Closed) → entry.lane ≡ lane → entry.heard ≡ heard_of closed → lane < length first
    → IsCountedOn counts more lane before after closed → FaultsRise first counts asks → FaultsRise first more (asks ++ entry ∷ [])
faults_last first counts more asks entry lane before after closed lane_is heard few on up = record {
  lanes = each_last _ asks entry up.lanes (subst (λ (n : ℕ). n < length first) (sym lane_is) few);
  counts = λ other f l is last. one other f l is last (cases_Bool (entry.lane == other));
}
  where
    rise : FaultsRise first more asks
    rise = faults_more first counts more asks on.fell up

    one : (other f l : ℕ) → slice_get first other ≡ Some f → slice_get more other ≡ Some l → ((entry.lane == other) ≡ true) ⊎ ((entry.lane == other) ≡ false) → CountsUp f l (asks_of_lane other (asks ++ entry ∷ []))
    one other f l is last (inl itself) =
        let same : lane ≡ other = let e : entry.lane ≡ other = grind (arith, nat_tests, itself) in sym lane_is ∙ e in
        let after_is : after ≡ l = let both : Some after ≡ Some l = sym (subst (λ (n : ℕ). slice_get more n ≡ Some after) same on.now) ∙ last in cc in
        let here : CountsUp f on.last (asks_of_lane other asks) = up.counts other f on.last is (subst (λ (n : ℕ). slice_get counts n ≡ Some on.last) same on.was) in
        subst (λ (es : List Asked). CountsUp f l es) (sym (lane_more other asks entry itself))
        (subst (λ (n : ℕ). CountsUp f n (asks_of_lane other asks ++ entry ∷ [])) after_is
        (counts_last (asks_of_lane other asks) entry closed f before after heard (counts_more (asks_of_lane other asks) f on.last before on.low here) on.counted on.rises))
    one other f l is last (inr differs) = subst (λ (es : List Asked). CountsUp f l es) (sym (lane_same other asks entry differs)) (rise.counts other f l is last)

-- ---- mirrors

pub for_mirror : (mirrors : List (Option MirrorMap)) (P Q : MirrorMap → Type 0) → ((mirror : MirrorMap) → P mirror → Q mirror) → ForMirror mirrors P → ForMirror mirrors Q
for_mirror [] P Q f is = tt
for_mirror (None ∷ others) P Q f is = tt
for_mirror (Some mirror ∷ others) P Q f is = λ same. f mirror (is same)

each_at : (mirrors : List (Option MirrorMap)) (lane : ℕ) (told : Option MirrorMap) (mirror : MirrorMap) → Each (λ other. other ≡ Some mirror) mirrors → slice_get mirrors lane ≡ Some told → told ≡ Some mirror
each_at [] lane told mirror each at = absurd (cc)
each_at (other ∷ others) zero told mirror each at = let same : other ≡ told = cc in sym same ∙ each.0
each_at (other ∷ others) (suc lane) told mirror each at = each_at others lane told mirror each.1 at

-- the mirror that all of them tell is that of each
pub for_mirror_at : (mirrors : List (Option MirrorMap)) (lane : ℕ) (told : Option MirrorMap) (P Q : MirrorMap → Type 0) → slice_get mirrors lane ≡ Some told → ((mirror : MirrorMap) → told ≡ Some mirror → P mirror → Q mirror)
    → ForMirror mirrors P → ForMirror mirrors Q
for_mirror_at [] lane told P Q at f is = tt
for_mirror_at (None ∷ others) lane told P Q at f is = tt
for_mirror_at (Some mirror ∷ others) lane told P Q at f is = λ same. f mirror (each_at (Some mirror ∷ others) lane told mirror (refl, same) at) (is same)

-- where nothing is asked of a mirror
pub for_any : (mirrors : List (Option MirrorMap)) (P : MirrorMap → Type 0) → ((mirror : MirrorMap) → P mirror) → ForMirror mirrors P
for_any [] P f = tt
for_any (None ∷ others) P f = tt
for_any (Some mirror ∷ others) P f = λ same. f mirror
