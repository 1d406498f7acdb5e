-- The sum line that is refused is the first that no reading allows, in terms of all lines above it.
use Rattle.std.proofs.Common.{◌≡◌, ◌≢◌, ◌∙◌, ◌⊎◌, ℕ, suc, ◌+◌, ◌<◌, ◌≤◌, ◌==◌, true, false, List, [], ◌∷◌, ◌++◌, codes, length, take, drop, get_or, drop-cons, Any, Option, Some, None, Result, Ok, Err, OnOk, append_assoc, ok_or, ℤ, refl, sym, ap, subst, inl, inr, arith}
use Rattle.std.proofs.lemmas.Bool.{cases_Bool, false≢true, not-true, not-false, eqb-true}
use Rattle.std.proofs.lemmas.List.{take_all, take-append-drop, length-append, length-take-le}
use Rattle.std.proofs.Math.Seq.{take-append_seam, get_or-append_seam}
use Rattle.acq_base.specs.declared.sum.Sum.{Sum}
use Rattle.acq_base.proofs.SameSums.{same_sum-true, same_sum-refl}
use Rattle.deb822_text.specs.Control.{paragraphs_of, field_named}
use Rattle.deb822_text.specs.declared.error.TextError.{TextError}
use Rattle.deb822_text.specs.declared.paragraph.Field.{Field}
use Rattle.deb822_text.specs.declared.paragraph.Paragraph.{Paragraph}
use Rattle.deb822_text.specs.declared.error.TextError.TheVariants as text
use Rattle.clear_text.specs.Unframed.{unframed}
use Rattle.clear_text.specs.declared.error.FrameError.{FrameError}
use Rattle.clear_text.specs.declared.error.FrameError.TheVariants as frames
use Rattle.release_file.specs.DateText.{date_of_text}
use Rattle.release_file.specs.Listing.{sums_of_paragraphs, sums_of_text, sums_field, later_lines}
use Rattle.release_file.specs.Release.{listed_of_line, entries_in, same_sum, sum_in, agrees, may_follow, first_bad, firsts, refused_at, files_of_lines, files_of_field, files_of, ◌>>=◌, date_of, date_of_lines, until_of, some_date, release_of_fields, release_of_paragraphs, release_of_text, release_in, text_or, text_within, release_of}
use Rattle.release_file.specs.SumFaults.{Contradicts, IsBadLine, AreAllowed, IsFirstBad, IsBadSums, HasBadSums}
use Rattle.release_file.specs.declared.error.ReleaseError.{ReleaseError}
use Rattle.release_file.specs.declared.error.ReleaseError.TheVariants.{BadDate, BadSums, NoMemory}
use Rattle.release_file.specs.declared.release.Listed.{Listed}
use Rattle.release_file.specs.declared.release.Release.{Release}
use Rattle.release_file.proofs.SumLines.{AreFine, none_bad, first_found}
use Rattle.release_file.proofs.Listings.{IsConsistent, consistent-above, sum_in-Contains}

-- ---- one line

contradicted : (above : List Listed) (entry : Listed) (old : Option Sum) → sum_in above entry.path ≡ old → agrees old entry.sum ≡ false → Any (λ other. Contradicts other entry) above
contradicted above entry None e h = absurd (false≢true (sym h))
contradicted above entry (Some sum) e h =
    let among = sum_in-Contains above entry.path sum e in
    let other : Listed = record { path = entry.path; sum = sum } in
    let differ : sum ≢ entry.sum = λ same. false≢true (sym h ∙ ap (same_sum sum) (sym same) ∙ same_sum-refl sum) in
    (among.0, other, among.1, among.2, (refl, differ))

is_bad : (above : List (List ℕ)) (line : List ℕ) → may_follow (entries_in above) (listed_of_line line) ≡ false → IsBadLine above line
is_bad above line h entry some =
    let bad : agrees (sum_in (entries_in above) entry.path) entry.sum ≡ false = ap (may_follow (entries_in above)) (sym some) ∙ h in
    contradicted (entries_in above) entry (sum_in (entries_in above) entry.path) refl bad

is_fine : (above : List (List ℕ)) (line : List ℕ) → IsConsistent (entries_in above) → may_follow (entries_in above) (listed_of_line line) ≡ true → IsBadLine above line → ⊥
is_fine above line consistent may bad = by (listed_of_line line) refl
  where
    by : (read : Option Listed) → listed_of_line line ≡ read → ⊥
    by None none = false≢true (ap (may_follow (entries_in above)) (sym none) ∙ may)
    by (Some entry) some =
        let other = bad entry some in
        let one = consistent.one other.1.path other.1.sum (other.0, other.2, other.3) in
        let here : sum_in (entries_in above) entry.path ≡ Some other.1.sum = ap (sum_in (entries_in above)) (sym other.4.0) ∙ one in
        let agreed : same_sum other.1.sum entry.sum ≡ true = ap (λ o. agrees o entry.sum) (sym here) ∙ ap (may_follow (entries_in above)) (sym some) ∙ may in
        other.4.1 (same_sum-true other.1.sum entry.sum agreed)

-- ---- all lines

allowed_above : (lines : List (List ℕ)) (count : ℕ) → count ≤ length lines → AreFine lines count → AreAllowed (take count lines)
allowed_above lines count within fine above line below split bad =
    let place = length above in
    let whole : lines ≡ above ++ line ∷ (below ++ drop count lines) = sym (take-append-drop count lines) ∙ ap (λ ls. ls ++ drop count lines) split ∙ append_assoc above (line ∷ below) (drop count lines) in
    let short : place < count = omega (arith, within, ap length split, length-append above (line ∷ below), length-take-le count lines within) in
    let front : take place lines ≡ above = ap (take place) whole ∙ take-append_seam above (line ∷ (below ++ drop count lines)) in
    let here : get_or lines place [] ≡ line = ap (λ ls. get_or ls place []) whole ∙ get_or-append_seam above line (below ++ drop count lines) [] in
    let may : may_follow (entries_in (take place lines)) (listed_of_line (get_or lines place [])) ≡ true = not-false _ (fine place short) in
    let consistent : IsConsistent (entries_in above) = subst (λ ls. IsConsistent (entries_in ls)) front (consistent-above lines place (omega (arith, short, within)) (λ k less. fine k (omega (arith, less, short)))) in
    is_fine above line consistent (subst (λ l. may_follow (entries_in above) (listed_of_line l) ≡ true) here (subst (λ ls. may_follow (entries_in ls) (listed_of_line (get_or lines place [])) ≡ true) front may)) bad

all_allowed : (lines : List (List ℕ)) → first_bad lines ≡ None → AreAllowed lines
all_allowed lines none = subst AreAllowed (take_all (length lines) lines (omega arith)) (allowed_above lines (length lines) (omega arith) (none_bad lines none))

first_refused : (lines : List (List ℕ)) (place : ℕ) → first_bad lines ≡ Some place → IsFirstBad lines place
first_refused lines place found =
    let first = first_found lines place found in
    let line = get_or lines place [] in
    record {
      above = take place lines;
      line = line;
      below = drop (suc place) lines;
      split = sym (take-append-drop place lines) ∙ ap (λ ls. take place lines ++ ls) (drop-cons lines place [] first.within);
      number = sym (length-take-le place lines (omega (arith, first.within)));
      refused = is_bad (take place lines) line (not-true _ first.here);
      allowed = allowed_above lines place (omega (arith, first.within)) first.above;
    }

-- ---- the field

-- what a reading of the sums says of their lines
abbrev Explains : List (List ℕ) → ℕ → Result (List Listed) ReleaseError → Type 0
Explains lines at (Ok files) = AreAllowed (drop 1 lines)
Explains lines at (Err fault) = (line : ℕ) → fault ≡ BadSums line → IsBadSums lines at line

line_is : (a b : ℕ) → BadSums a ≡ BadSums b → b ≡ a
line_is a b e = cc

empty_is : (first : List ℕ) → (length first == 0) ≡ true → first ≡ []
empty_is [] e = refl
empty_is (c ∷ first) e = let none : suc (length first) ≡ 0 = eqb-true (suc (length first)) 0 e in absurd (omega (arith, none))

some_is : (first : List ℕ) → (length first == 0) ≡ false → first ≢ []
some_is first some none = false≢true (sym some ∙ ap (λ l. length l == 0) none)

explained-lines : (first : List ℕ) (lines : List (List ℕ)) (at : ℕ) → first ≡ [] → Explains (first ∷ lines) at (files_of_lines (at + 1) lines)
unfolding files_of_lines
explained-lines first lines at none = by (first_bad lines) refl
  where
    by : (bad : Option ℕ) → first_bad lines ≡ bad → Explains (first ∷ lines) at (refused_at (at + 1) bad (firsts (entries_in lines)))
    by None fine = all_allowed lines fine
    by (Some place) bad = λ line e. inr (none, place, line_is (at + 1 + place) line e, first_refused lines place bad)

explained : (lines : List (List ℕ)) (at : ℕ) → Explains lines at (files_of_field lines at)
unfolding files_of_field
explained [] at = λ line e. line_is at line e
explained (first ∷ lines) at =
    elim (cases_Bool (length first == 0)) [
      | inl none ↦ rw none (explained-lines first lines at (empty_is first none))
      | inr some ↦ rw some (λ line e. inl (line_is at line e, some_is first some))
    ]

-- ---- the whole

abbrev Tells : Option Field → Result Release ReleaseError → Type 0
Tells field (Ok release) = AreAllowed (later_lines field)
Tells field (Err fault) = (line : ℕ) → fault ≡ BadSums line → HasBadSums field line

abbrev Other : {A : Type 0} → Result A ReleaseError → Type 0
Other (Ok x) = Unit {0}
Other (Err fault) = (line : ℕ) → fault ≡ BadSums line → ⊥

other_lines : (lines : List (List ℕ)) (at : ℕ) → Other (date_of_lines lines at)
unfolding date_of_lines
other_lines [] at = λ line e. cc
other_lines (text ∷ []) at = by (date_of_text text)
  where
    by : (date : Option ℤ) → Other (ok_or date (BadDate at))
    by None = λ line e. cc
    by (Some d) = tt
other_lines (text ∷ next ∷ more) at = λ line e. cc

other_date : (field : Option Field) → Other (date_of field)
unfolding date_of
other_date None = λ line e. cc
other_date (Some field) = other_lines field.lines field.at

other_some : (date : Result ℤ ReleaseError) → Other date → Other (some_date date)
other_some (Ok d) h = tt
other_some (Err fault) h = h

other_until : (field : Option Field) → Other (until_of field)
unfolding until_of
other_until None = tt
other_until (Some field) = other_some (date_of_lines field.lines field.at) (other_lines field.lines field.at)

after_other : {A : Type 0} (field : Option Field) (r : Result A ReleaseError) (f : A → Result Release ReleaseError) → Other r → ((x : A) → Tells field (f x)) → Tells field (r >>= f)
after_other field (Ok x) f other h = h x
after_other field (Err fault) f other h = λ line e. absurd (other line e)

told_files : (field : Option Field) (f : List Listed → Result Release ReleaseError) → ((files : List Listed) → (release : Release) × (f files ≡ Ok release)) → Tells field (files_of field >>= f)
unfolding files_of
told_files None f h = λ line e. cc
told_files (Some field) f h = by (files_of_field field.lines field.at) (explained field.lines field.at)
  where
    by : (files : Result (List Listed) ReleaseError) → Explains field.lines field.at files → Tells (Some field) (files >>= f)
    by (Ok files) told = subst (Tells (Some field)) (sym (h files).1) told
    by (Err fault) told = told

told_fields : (fields : List Field) → Tells (field_named fields (codes "SHA256")) (release_of_fields fields)
unfolding release_of_fields
told_fields fields =
    let sums = field_named fields (codes "SHA256") in
    after_other sums (date_of (field_named fields (codes "Date"))) _ (other_date (field_named fields (codes "Date"))) (λ date.
    after_other sums (until_of (field_named fields (codes "Valid-Until"))) _ (other_until (field_named fields (codes "Valid-Until"))) (λ until.
    told_files sums _ (λ files. (_, refl))))

told_paragraphs : (paragraphs : Result (List Paragraph) TextError) → Tells (sums_of_paragraphs paragraphs) (release_of_text paragraphs)
unfolding release_of_paragraphs
told_paragraphs (Err (text.BadField at)) = λ line e. cc
told_paragraphs (Err (text.Twice at)) = λ line e. cc
told_paragraphs (Err (text.Loose at)) = λ line e. cc
told_paragraphs (Err text.NoMemory) = λ line e. cc
told_paragraphs (Ok []) = λ line e. cc
told_paragraphs (Ok (paragraph ∷ [])) = told_fields paragraph.fields
told_paragraphs (Ok (paragraph ∷ next ∷ more)) = λ line e. cc

told_text : (text : Result (List ℕ) ReleaseError) → Other text → Tells (sums_of_text text) (text >>= release_in)
unfolding release_in
told_text (Ok text) other = told_paragraphs (paragraphs_of text false)
told_text (Err fault) other = λ line e. absurd (other line e)

other_text : (bytes : List ℕ) → Other (text_within bytes)
unfolding text_within
other_text bytes = by (unframed bytes)
  where
    by : (frame : Result (Option (List ℕ)) FrameError) → Other (text_or bytes frame)
    by (Ok None) = tt
    by (Ok (Some text)) = tt
    by (Err (frames.BadFrame at)) = λ line e. cc
    by (Err frames.NoMemory) = λ line e. cc

told_bytes : (bytes : List ℕ) → Tells (sums_field bytes) (release_of bytes)
unfolding release_of sums_field
told_bytes bytes = told_text (text_within bytes) (other_text bytes)

abbrev Reads : List ℕ → Result Release ReleaseError → Type 0
Reads bytes r = (r ≡ Err NoMemory) ⊎ (r ≡ release_of bytes)

pub allowed-read : (bytes : List ℕ) (r : Result Release ReleaseError) → Reads bytes r → OnOk r (AreAllowed (later_lines (sums_field bytes)))
allowed-read bytes (Ok release) (inl e) = absurd (cc)
allowed-read bytes (Ok release) (inr e) = subst (Tells (sums_field bytes)) (sym e) (told_bytes bytes)
allowed-read bytes (Err fault) h = tt

pub refused-read : (bytes : List ℕ) (r : Result Release ReleaseError) → Reads bytes r → (at : ℕ) → r ≡ Err (BadSums at) → HasBadSums (sums_field bytes) at
refused-read bytes r (inl e) at is = let bad = sym e ∙ is in absurd (cc)
refused-read bytes r (inr e) at is = subst (Tells (sums_field bytes)) (sym e ∙ is) (told_bytes bytes) at refl

pub ruleset sum_faults = (allowed-read, refused-read)
