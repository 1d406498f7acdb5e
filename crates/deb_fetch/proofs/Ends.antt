-- What a fetch answers, by what was there and what asks came to.
use Rattle.std.proofs.Common.{◌≡◌, ◌⊎◌, ◌↔◌, inl, inr, refl, sym, ap, ◌∙◌, subst, Bool, true, false, if◌then◌else◌, ℕ, List, [], ◌∷◌, Option, Some, None, IfSome, IsSomeAnd, IsTrue}
use Rattle.std.proofs.lemmas.Bool.{false≢true, false_from_ne_true}
use Rattle.acq_base.proofs.SameSums.{same_sum-true, same_sum-refl}
use Rattle.acq_base.specs.Mirror.{MirrorMap}
use Rattle.acq_base.specs.Sum.{Fits, sum_of}
use Rattle.acq_base.specs.declared.sum.Sum.{Sum}
use Rattle.acq_outside.specs.Crash.{State, IsShown}
use Rattle.acq_outside.specs.Disk.{Files}
use Rattle.acq_outside.specs.States.{IsTold}
use Rattle.item_graph.specs.Single.{single}
use Rattle.release_file.specs.Release.{same_sum}
use Rattle.update_model.specs.Obtained.{first_fitting, got_or, list_cause, patched, reached_files, resumed, stands_or}
use Rattle.update_model.specs.Reach.{reach}
use Rattle.update_model.specs.declared.cause.Cause.{Cause}
use Rattle.update_model.specs.declared.end.End.{End}
use Rattle.update_model.specs.declared.end.End.TheVariants.{Ended}
use Rattle.update_model.specs.declared.wanted.Wanted.{Wanted}
use Rattle.deb_fetch.specs.Causes.{IsMethod, cause_of, cause_over}
use Rattle.deb_fetch.specs.declared.deb.Deb.{Deb}

-- what is obtained where the file that is there isn't the wanted one
abbrev from_mirror : MirrorMap → Option (List ℕ) → Wanted → End
from_mirror entries there w = got_or (first_fitting w.sum (patched entries there w ∷ resumed entries [] w ∷ reached_files entries w)) (Ended (list_cause w (reach entries w.uri w.sum.size)))

abbrev cause_by : Bool → MirrorMap → List ℕ → Deb → Option Cause
cause_by fits entries bytes deb = cause_of (stands_or (if fits then Some bytes else None) (from_mirror entries (Some bytes) (single deb.uri deb.path deb.sum)))

-- where the file that is there fits, there is no cause
pub stands_over : (entries : MirrorMap) (there : Option (List ℕ)) (deb : Deb) → IsSomeAnd there (λ bytes. Fits bytes deb.sum) → None ≡ cause_over entries there deb
stands_over entries None deb fits = absurd fits
stands_over entries (Some bytes) deb fits =
    let same : same_sum (sum_of bytes) deb.sum ≡ true = ap (λ (s : Sum). same_sum (sum_of bytes) s) (sym fits) ∙ same_sum-refl (sum_of bytes) in
    sym (ap (λ (b : Bool). cause_by b entries bytes deb) same)

-- where it doesn't, it doesn't count
pub not_over : (entries : MirrorMap) (there : Option (List ℕ)) (deb : Deb) → (IsSomeAnd there (λ bytes. Fits bytes deb.sum) → ⊥) → cause_over entries None deb ≡ cause_over entries there deb
not_over entries None deb none = refl
not_over entries (Some bytes) deb none =
    let differs : same_sum (sum_of bytes) deb.sum ≡ false = false_from_ne_true (same_sum (sum_of bytes) deb.sum) (λ same. none (same_sum-true (sum_of bytes) deb.sum same)) in
    sym (ap (λ (b : Bool). cause_by b entries bytes deb) differs)

-- over a mirror, if one is told
pub none_over : (world : Option MirrorMap) (there : Option (List ℕ)) (deb : Deb) → IsSomeAnd there (λ bytes. Fits bytes deb.sum) → IfSome world (λ entries. (None ≡ cause_over entries there deb) ⊎ IsMethod None)
none_over None there deb fits = tt
none_over (Some entries) there deb fits = inl (stands_over entries there deb fits)

pub asked_over : (world : Option MirrorMap) (there : Option (List ℕ)) (deb : Deb) (end : Option Cause) → (IsSomeAnd there (λ bytes. Fits bytes deb.sum) → ⊥) → IfSome world (λ entries. (end ≡ cause_over entries None deb) ⊎ IsMethod end)
    → IfSome world (λ entries. (end ≡ cause_over entries there deb) ⊎ IsMethod end)
asked_over None there deb end none answer = tt
asked_over (Some entries) there deb end none (inl is) = inl (is ∙ not_over entries there deb none)
asked_over (Some entries) there deb end none (inr method) = inr method

-- a disk that tells its files tells its states
pub tells_states : (tells : Bool) (files : Files) (now : List State) → IsShown tells files now → tells ≡ true → IsTold now
tells_states tells files [] shown told = false≢true (sym shown ∙ told)
tells_states tells files (s ∷ past) shown told = tt

-- what was there doesn't fit where it was found not to
pub found_other : (fits : Bool) (was there : Option (List ℕ)) (deb : Deb) → fits ≡ false → IsTrue fits ↔ IsSomeAnd was (λ bytes. Fits bytes deb.sum) → was ≡ there → IsSomeAnd there (λ bytes. Fits bytes deb.sum) → ⊥
found_other fits was there deb differs iff same whole =
    false≢true (sym differs ∙ iff.1 (subst (λ (o : Option (List ℕ)). IsSomeAnd o (λ bytes. Fits bytes deb.sum)) (sym same) whole))
