-- Whatever calls a file has had, what reads give of it is among what a crash may leave; and of a synced file a crash
-- leaves nothing else.
use Rattle.std.proofs.Common.{◌≡◌, refl, sym, ap, ◌∙◌, subst, ⊎_elim, arith, ℕ, zero, suc, ◌+◌, ◌<◌, ◌≤◌, min, List, [], ◌∷◌, ◌++◌, length, take, drop, Option, length-append, length-drop}
use Rattle.std.proofs.Math.Seq.{drop-nil}
use Rattle.std.proofs.lemmas.Bool.{cases_lt}
use Rattle.std.proofs.lemmas.List.{append-nil, length-take, take_min, drop_all}
use Rattle.acq_outside.specs.Disk.{spliced}
use Rattle.acq_outside.specs.Crash.{FitsAll, IsOutcome, synced, all_kept, all_any, file_written, file_cut}
use Rattle.acq_outside.specs.declared.state.FileState.{FileState}

pub fits_kept : (bytes : List ℕ) → FitsAll (all_kept bytes) bytes
fits_kept [] = tt
fits_kept (b ∷ bytes) = (refl, fits_kept bytes)

pub synced_outcome : (bytes : List ℕ) → IsOutcome (synced bytes) bytes
synced_outcome bytes = record { long = omega arith; fits = fits_kept bytes }

-- of a synced file a crash leaves what reads give
pub only_kept : (bytes left : List ℕ) → length bytes ≤ length left → FitsAll (all_kept bytes) left → left ≡ bytes
only_kept [] [] long fits = refl
only_kept [] (b ∷ left) long fits = absurd fits
only_kept (b ∷ bytes) [] long fits = absurd (omega arith)
only_kept (b ∷ bytes) (c ∷ left) long fits = ap (λ (x : ℕ). x ∷ left) fits.0 ∙ ap (λ (later : List ℕ). b ∷ later) (only_kept bytes left (omega arith) fits.1)

pub only_synced : (bytes left : List ℕ) → IsOutcome (synced bytes) left → left ≡ bytes
only_synced bytes left outcome = only_kept bytes left outcome.long outcome.fits

-- a list written at a place, step by step
abbrev pub lay : {A : Type 0} → List A → List A → List A
lay [] old = old
lay (x ∷ new) old = x ∷ lay new (drop 1 old)

abbrev pub over : {A : Type 0} → ℕ → List A → List A → List A
over zero old new = lay new old
over (suc at) [] new = new
over (suc at) (x ∷ old) new = x ∷ over at old new

drop_one : {A : Type 0} (n : ℕ) (old : List A) → drop (suc n) old ≡ drop n (drop 1 old)
drop_one n [] = sym (drop-nil n)
drop_one n (x ∷ old) = refl

lay_is : {A : Type 0} (new old : List A) → new ++ drop (length new) old ≡ lay new old
lay_is [] old = refl
lay_is (x ∷ new) old = ap (λ (rest : List _). x ∷ (new ++ rest)) (drop_one (length new) old) ∙ ap (λ (rest : List _). x ∷ rest) (lay_is new (drop 1 old))

pub over_is : {A : Type 0} (at : ℕ) (old new : List A) → spliced old at new ≡ over at old new
over_is zero old new = let none : 0 + length new ≡ length new = omega arith in rw none (lay_is new old)
over_is (suc at) [] new = ap (λ (rest : List _). new ++ rest) (drop-nil (suc at + length new)) ∙ append-nil new
over_is (suc at) (x ∷ old) new = let one : suc at + length new ≡ suc (at + length new) = omega arith in rw one (ap (λ (rest : List _). x ∷ rest) (over_is at old new))

fits_drop : (cells : List (Option ℕ)) (bytes : List ℕ) → FitsAll cells bytes → FitsAll (drop 1 cells) (drop 1 bytes)
fits_drop cells [] fits = tt
fits_drop [] (b ∷ bytes) fits = absurd fits
fits_drop (cell ∷ cells) (b ∷ bytes) fits = fits.1

lay_fits : (new : List ℕ) (cells : List (Option ℕ)) (bytes : List ℕ) → FitsAll cells bytes → FitsAll (lay (all_any new) cells) (lay new bytes)
lay_fits [] cells bytes fits = fits
lay_fits (b ∷ new) cells bytes fits = (tt, lay_fits new (drop 1 cells) (drop 1 bytes) (fits_drop cells bytes fits))

over_fits : (at : ℕ) (cells : List (Option ℕ)) (bytes new : List ℕ) → FitsAll cells bytes → at ≤ length bytes → FitsAll (over at cells (all_any new)) (over at bytes new)
over_fits zero cells bytes new fits within = lay_fits new cells bytes fits
over_fits (suc at) cells [] new fits within = absurd (omega arith)
over_fits (suc at) [] (b ∷ bytes) new fits within = absurd fits
over_fits (suc at) (cell ∷ cells) (b ∷ bytes) new fits within = (fits.0, over_fits at cells bytes new fits.1 (omega arith))

fits_laid : (at : ℕ) (cells : List (Option ℕ)) (bytes new : List ℕ) → FitsAll cells bytes → at ≤ length bytes → FitsAll (spliced cells at (all_any new)) (spliced bytes at new)
fits_laid at cells bytes new fits within =
    subst (λ (c : List (Option ℕ)). FitsAll c (spliced bytes at new)) (sym (over_is at cells (all_any new))) (subst (λ (b : List ℕ). FitsAll (over at cells (all_any new)) b) (sym (over_is at bytes new)) (over_fits at cells bytes new fits within))

-- a write past the end would land at the end
clamped : (old : List ℕ) (at : ℕ) (new : List ℕ) → spliced old at new ≡ spliced old (min at (length old)) new
clamped old at new =
    ap (λ (front : List ℕ). front ++ new ++ drop (at + length new) old) (sym (take_min at old)) ∙ ap (λ (rest : List ℕ). take (min at (length old)) old ++ new ++ rest) (⊎_elim within past (cases_lt at (length old)))
  where
    within : at < length old → drop (at + length new) old ≡ drop (min at (length old) + length new) old
    within before = let same : min at (length old) ≡ at = omega arith in ap (λ (k : ℕ). drop (k + length new) old) (sym same)

    past : length old ≤ at → drop (at + length new) old ≡ drop (min at (length old) + length new) old
    past behind = drop_all (at + length new) old (omega arith) ∙ sym (drop_all (min at (length old) + length new) old (omega arith))

laid_longer : (old : List ℕ) (at : ℕ) (new : List ℕ) → length old ≤ length (spliced old at new)
laid_longer old at new = simp (length-append, length-take, length-drop) (omega arith)

pub written_outcome : (file : FileState) (at : ℕ) (bytes : List ℕ) → IsOutcome file file.seen → IsOutcome (file_written file at bytes) (spliced file.seen at bytes)
written_outcome file at bytes sound = record {
  long = omega (arith, sound.long, laid_longer file.seen at bytes);
  fits = subst (λ (left : List ℕ). FitsAll (file_written file at bytes).cells left) (sym (clamped file.seen at bytes)) (fits_laid (min at (length file.seen)) file.cells file.seen bytes sound.fits (omega arith));
}

fits_take : (n : ℕ) (cells : List (Option ℕ)) (bytes : List ℕ) → FitsAll cells bytes → FitsAll cells (take n bytes)
fits_take zero cells bytes fits = tt
fits_take (suc n) cells [] fits = tt
fits_take (suc n) [] (b ∷ bytes) fits = absurd fits
fits_take (suc n) (cell ∷ cells) (b ∷ bytes) fits = (fits.0, fits_take n cells bytes fits.1)

pub cut_outcome : (file : FileState) (len : ℕ) → IsOutcome file file.seen → IsOutcome (file_cut file len) (take len file.seen)
cut_outcome file len sound = record { long = omega (arith, sound.long, length-take len file.seen); fits = fits_take len file.cells file.seen sound.fits }
