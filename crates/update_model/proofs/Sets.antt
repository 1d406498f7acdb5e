-- A new set comes exactly from an admissible Release all of whose lists have a file.
use Rattle.std.proofs.Common.{◌≡◌, ◌↔◌, ℕ, ℤ, List, [], ◌∷◌, Option, Some, None, IfSome, option_map, Result, Ok, Err, refl, ap, subst}
use Rattle.std.specs.List.{AllByRecursion as Each}
use Rattle.acq_base.specs.declared.settings.Dates.{Dates}
use Rattle.acq_base.specs.declared.settings.Settings.{Settings}
use Rattle.release_file.specs.Changes.{first_refused, IsAllowed}
use Rattle.release_file.specs.Dates.{judged, IsAdmissible as HasGoodDates}
use Rattle.release_file.specs.Release.{release_of}
use Rattle.release_file.specs.declared.changing.Change.{Change}
use Rattle.release_file.specs.declared.changing.HeadField.{HeadField}
use Rattle.release_file.specs.declared.error.ReleaseError.{ReleaseError}
use Rattle.release_file.specs.declared.judging.DateError.{DateError}
use Rattle.release_file.specs.declared.judging.DateError.TheVariants as dates
use Rattle.release_file.specs.declared.release.Release.{Release}
use Rattle.update_model.specs.Laws.{IsHad, SetsAreAdmissible}
use Rattle.update_model.specs.Outcomes.{AdmittedRelease, Staying, ◌>>=◌, bytes_of, read, dated, unless_refused, headed, admitted, all_had}
use Rattle.update_model.specs.Releases.{IsAdmissible, installed_release}
use Rattle.update_model.specs.declared.end.End.{End}
use Rattle.update_model.specs.declared.end.End.TheVariants.{Got, Stands, Ended}
use Rattle.update_model.proofs.Heads.{none-allowed, allowed-none}

-- what judging dates means, as the crate of Releases promises it
abbrev pub Judges : Type 0
Judges =
    (release : Release) (installed : Option ℤ) (dates : Dates) (now : ℤ)
    → (judged release installed dates now ≡ Ok tt) ↔ HasGoodDates release installed dates now

abbrev done : AdmittedRelease → Result AdmittedRelease Staying
done set = Ok set

pub done-same : (a b : AdmittedRelease) → done a ≡ done b → a ≡ b
done-same a b h = cc

-- a step that was passed
pub passed : {A B : Type 0} (x : Result A Staying) (f : A → Result B Staying) (y : B) → (x >>= f) ≡ Ok y → (a : A) × (x ≡ Ok a) × (f a ≡ Ok y)
passed (Ok a) f y h = (a, refl, h)
passed (Err why) f y h = cc

read-ok : (x : Result Release ReleaseError) (release : Release) → read x ≡ Ok release → x ≡ Ok release
read-ok (Ok r) release h = let e : r ≡ release = cc in ap (λ y. Ok y) e
read-ok (Err e) release h = cc

dated-ok : (x : Result (Unit {0}) DateError) (u : Unit {0}) → dated x ≡ Ok u → x ≡ Ok tt
dated-ok (Ok v) u h = refl
dated-ok (Err (dates.Expired end)) u h = cc
dated-ok (Err (dates.Future date)) u h = cc
dated-ok (Err (dates.Older date)) u h = cc

head-ok : (change : Change) (old : Option Release) (release : Release) (u : Unit {0}) → headed change old release ≡ Ok u → IfSome old (λ o. IsAllowed change o.head release.head)
head-ok change None release u h = tt
head-ok change (Some old) release u h = none-allowed change old.head release.head (one (first_refused change old.head release.head) h)
  where
    one : (field : Option HeadField) → unless_refused field old.head release.head ≡ Ok u → field ≡ None
    one None h = refl
    one (Some field) h = cc

pub all-ok : (ends : List End) (u : Unit {0}) → all_had ends ≡ Ok u → Each IsHad ends
all-ok [] u h = tt
all-ok (Ended cause ∷ ends) u h = cc
all-ok (Got body ∷ ends) u h = (tt, all-ok ends u h)
all-ok (Stands ∷ ends) u h = (tt, all-ok ends u h)

head-passes : (change : Change) (old : Option Release) (release : Release) → IfSome old (λ o. IsAllowed change o.head release.head) → headed change old release ≡ Ok tt
head-passes change None release h = refl
head-passes change (Some old) release h = ap (λ f. unless_refused f old.head release.head) (allowed-none change old.head release.head h)

all-pass : (ends : List End) → Each IsHad ends → all_had ends ≡ Ok tt
all-pass [] h = refl
all-pass (Ended cause ∷ ends) h = absurd h.0
all-pass (Got body ∷ ends) h = all-pass ends h.1
all-pass (Stands ∷ ends) h = all-pass ends h.1

abbrev IsAdmitted : End → Option (List ℕ) → Settings → Change → ℤ → AdmittedRelease → Type 0
IsAdmitted r old settings change now set =
    (bytes_of r ≡ Ok set.bytes) × (release_of set.bytes ≡ Ok set.release) × IsAdmissible set.release (installed_release old) settings.dates change now

admitted-is : Judges → (r : End) (old : Option (List ℕ)) (settings : Settings) (change : Change) (now : ℤ) (set : AdmittedRelease)
    → admitted r old settings change now ≡ Ok set → IsAdmitted r old settings change now set
admitted-is judges r old settings change now set h =
    let a = passed (bytes_of r) _ set h in
    let b = passed (read (release_of a.0)) _ set a.2 in
    let c = passed (dated (judged b.0 (option_map (λ o. o.date) (installed_release old)) settings.dates now)) _ set b.2 in
    let d = passed (headed change (installed_release old) b.0) _ set c.2 in
    let found : AdmittedRelease = record { bytes = a.0; release = b.0 } in
    let same : found ≡ set = done-same found set d.2 in
    let in_time : HasGoodDates b.0 (option_map (λ o. o.date) (installed_release old)) settings.dates now =
    (judges b.0 (option_map (λ o. o.date) (installed_release old)) settings.dates now).0 (dated-ok _ c.0 c.1) in
    subst (IsAdmitted r old settings change now) same
    (a.1, read-ok (release_of a.0) b.0 b.1, record { in_time = in_time; allowed_head = head-ok change (installed_release old) b.0 d.0 d.1 })

is-admitted : Judges → (r : End) (old : Option (List ℕ)) (settings : Settings) (change : Change) (now : ℤ) (set : AdmittedRelease)
    → IsAdmitted r old settings change now set → admitted r old settings change now ≡ Ok set
is-admitted judges r old settings change now set h =
    let a : bytes_of r ≡ Ok set.bytes = h.0 in
    let b : release_of set.bytes ≡ Ok set.release = h.1 in
    let judged_so : judged set.release (option_map (λ o. o.date) (installed_release old)) settings.dates now ≡ Ok tt =
    (judges set.release (option_map (λ o. o.date) (installed_release old)) settings.dates now).1 h.2.in_time in
    let c : headed change (installed_release old) set.release ≡ Ok tt = head-passes change (installed_release old) set.release h.2.allowed_head in
    rw a (rw b (rw judged_so (rw c refl)))

pub sets-admissible : Judges → SetsAreAdmissible
sets-admissible judges r ends old settings change now set = (
  (λ h.
      let a = passed (admitted r old settings change now) _ set h in
      let b = passed (all_had ends) _ set a.2 in
      let same : a.0 ≡ set = done-same a.0 set b.2 in
      let is : IsAdmitted r old settings change now set = subst (IsAdmitted r old settings change now) same (admitted-is judges r old settings change now a.0 a.1) in
      (is.0, is.1, is.2, all-ok ends b.0 b.1)),
  (λ h. rw (is-admitted judges r old settings change now set (h.0, h.1, h.2)) (rw (all-pass ends h.3) refl)),
)
