-- A Release that is read lists a path with a sum exactly where a sum line says so, and no path twice.
use Rattle.std.proofs.Common.{◌≡◌, ◌≢◌, ◌∙◌, ◌⊎◌, ◌↔◌, ◌==◌, ℕ, zero, suc, ◌+◌, ◌<◌, ◌≤◌, true, false, not, List, [], ◌∷◌, ◌++◌, codes, drop, get_or, filter, Option, Some, None, Result, Ok, Err, IfOk, refl, sym, ap, subst, inl, inr, arith, ⊎_elim, length}
use Rattle.std.specs.Prelude.{bytes_eq, option_to_list, if◌then◌else◌, Contains, AllPairs}
use Rattle.std.proofs.lemmas.Bool.{cases_Bool, false≢true, not-false}
use Rattle.std.proofs.lemmas.List.{take_all}
use Rattle.std.proofs.lemmas.List.Elements.{Contains-append_left, Contains-append_right, Contains-push, Contains-push_cases, filter_passes}
use Rattle.std.proofs.lemmas.List.Kept.{AllPairs-cons, AllPairs-filter}
use Rattle.acq_base.specs.declared.sum.Sum.{Sum}
use Rattle.acq_base.proofs.SameSums.{same_sum-true}
use Rattle.acq_base.proofs.Texts.{bytes_eq-true, bytes_eq-refl}
use Rattle.release_file.specs.Entries.{sum_beside}
use Rattle.release_file.specs.Release.{listed_of_line, entries_in, sum_in, agrees, may_follow, first_bad, firsts, refused_at, files_of_lines, files_of_field, files_of, ◌>>=◌, date_of, until_of, release_of_fields, release_of_paragraphs, release_of_text, release_in, text_within, release_of, listed_sum}
use Rattle.release_file.specs.Listing.{later_lines, sums_of_paragraphs, sums_of_text, sums_field, entries_of}
use Rattle.deb822_text.specs.Control.{paragraphs_of, field_named}
use Rattle.deb822_text.specs.declared.error.TextError.{TextError}
use Rattle.deb822_text.specs.declared.paragraph.Field.{Field}
use Rattle.deb822_text.specs.declared.paragraph.Paragraph.{Paragraph}
use Rattle.release_file.specs.declared.error.ReleaseError.TheVariants.{BadSums, NoMemory}
use Rattle.release_file.specs.declared.release.Release.{Release}
use Rattle.release_file.specs.declared.error.ReleaseError.{ReleaseError}
use Rattle.release_file.specs.declared.release.Listed.{Listed}
use Rattle.release_file.proofs.SumLines.{keeps, sum_in-push, entries_above, entries_above-more, AreFine, none_bad}

-- ---- sums by path

-- a filter by another path keeps the sum of this one
sum_in-filter : (first : Listed) (path : List ℕ) (files : List Listed) → bytes_eq first.path path ≡ false → sum_in (filter (keeps first) files) path ≡ sum_in files path
sum_in-filter first path [] other = refl
sum_in-filter first path (file ∷ files) other =
    elim (cases_Bool (bytes_eq first.path file.path)) [
      | inl is ↦
          let same = bytes_eq-true first.path file.path is in
          let skipped : bytes_eq file.path path ≡ false = ap (λ p. bytes_eq p path) (sym same) ∙ other in
          rw (is, skipped) (sum_in-filter first path files other)
      | inr isnt ↦ rw isnt (ap (λ o. if bytes_eq file.path path then Some file.sum else o) (sum_in-filter first path files other))
    ]

-- leaving out repeated paths keeps the sum of each
sum_in-firsts : (entries : List Listed) (path : List ℕ) → sum_in (firsts entries) path ≡ sum_in entries path
sum_in-firsts [] path = refl
sum_in-firsts (entry ∷ entries) path =
    elim (cases_Bool (bytes_eq entry.path path)) [
      | inl is ↦ rw is refl
      | inr isnt ↦
          let kept = sum_in-filter entry path (firsts entries) isnt in
          rw isnt (kept ∙ sum_in-firsts entries path)
    ]

-- a path's sum is that of an entry
pub sum_in-Contains : (entries : List Listed) (path : List ℕ) (sum : Sum) → sum_in entries path ≡ Some sum → Contains entries (record { path = path; sum = sum })
sum_in-Contains [] path sum h = absurd (cc)
sum_in-Contains (entry ∷ entries) path sum h =
    elim (cases_Bool (bytes_eq entry.path path)) [
      | inl is ↦
          let same : entry.path ≡ path = bytes_eq-true entry.path path is in
          let found : Some entry.sum ≡ Some sum = rw is at h in
          let sum_is : entry.sum ≡ sum = cc in
          subst (λ e. Contains (entry ∷ entries) e) (ap (λ p. record { path = p; sum = entry.sum }) same ∙ ap (λ s. record { path = path; sum = s }) sum_is) (Contains-append_left (entry ∷ []) entries entry (Contains-push [] entry))
      | inr isnt ↦
          let more : sum_in entries path ≡ Some sum = rw isnt at h in
          Contains-append_right (entry ∷ []) entries (record { path = path; sum = sum }) (sum_in-Contains entries path sum more)
    ]

-- ---- no two entries contradict each other

pub record IsConsistent (entries : List Listed) : Type 0 where
  pub one : (path : List ℕ) (sum : Sum) → Contains entries (record { path = path; sum = sum }) → sum_in entries path ≡ Some sum

agreed : (old : Option Sum) (entry : Listed) → agrees old entry.sum ≡ true → sum_beside old entry entry.path ≡ Some entry.sum
agreed None entry h = rw bytes_eq-refl refl
agreed (Some sum) entry h = ap (λ s. Some s) (same_sum-true sum entry.sum h)

consistent-push : (above : List Listed) (entry : Listed) → IsConsistent above → agrees (sum_in above entry.path) entry.sum ≡ true → IsConsistent (above ++ entry ∷ [])
consistent-push above entry h agree = record {
  one = λ path sum among.
      sum_in-push above entry path ∙
      ⊎_elim
      (λ old. ap (λ o. sum_beside o entry path) (h.one path sum old))
      (λ new. subst (λ e. sum_beside (sum_in above e.path) entry e.path ≡ Some e.sum) new (agreed (sum_in above entry.path) entry agree))
      (Contains-push_cases above entry (record { path = path; sum = sum }) among);
}

-- a line that may stand below entries
follows : (above : List Listed) (read : Option Listed) → IsConsistent above → may_follow above read ≡ true → IsConsistent (above ++ option_to_list read)
follows above None h may = absurd (false≢true may)
follows above (Some entry) h may = consistent-push above entry h may

consistent-nil : IsConsistent []
consistent-nil = record { one = λ path sum among. absurd (omega (arith, among.1)) }

-- so it is of lines none of which is bad
pub consistent-above : (lines : List (List ℕ)) (count : ℕ) → count ≤ length lines → AreFine lines count → IsConsistent (entries_above lines count)
consistent-above lines zero within fine = consistent-nil
consistent-above lines (suc count) within fine =
    let less : count < length lines = omega (arith, within) in
    let may : may_follow (entries_above lines count) (listed_of_line (get_or lines count [])) ≡ true = not-false _ (fine count (omega arith)) in
    let before = consistent-above lines count (omega (arith, within)) (λ place below. fine place (omega (arith, below))) in
    let more = follows (entries_above lines count) (listed_of_line (get_or lines count [])) before may in
    let next : count + 1 ≡ suc count = omega arith in
    subst IsConsistent (sym (entries_above-more lines count [] less) ∙ ap (entries_above lines) next) more

pub consistent : (lines : List (List ℕ)) → first_bad lines ≡ None → IsConsistent (entries_in lines)
consistent lines none = subst (λ ls. IsConsistent (entries_in ls)) (take_all (length lines) lines (omega arith)) (consistent-above lines (length lines) (omega arith) (none_bad lines none))

-- ---- no path stands twice

apart : (a b : List ℕ) → not (bytes_eq a b) ≡ true → a ≢ b
apart a b h e =
    let same : bytes_eq a b ≡ true = subst (λ t. bytes_eq a t ≡ true) e (bytes_eq-refl a) in
    false≢true (rw same at h)

distinct-firsts : (entries : List Listed) → AllPairs (λ a b. a.path ≢ b.path) (firsts entries)
distinct-firsts [] = λ i j d below within same. absurd (omega arith)
distinct-firsts (entry ∷ entries) =
    AllPairs-cons (λ a b. a.path ≢ b.path) entry (filter (keeps entry) (firsts entries)) (λ k d within. apart entry.path _ (filter_passes (keeps entry) (firsts entries) k d within)) (AllPairs-filter (λ a b. a.path ≢ b.path) (keeps entry) (firsts entries) (distinct-firsts entries))

-- ---- what a Release that is read lists

pub record IsListing (lines : List (List ℕ)) (files : List Listed) : Type 0 where
  pub given : (path : List ℕ) (sum : Sum) → (sum_in files path ≡ Some sum) ↔ Contains (entries_in lines) (record { path = path; sum = sum })
  pub distinct : AllPairs (λ a b. a.path ≢ b.path) files

listing : (lines : List (List ℕ)) → first_bad lines ≡ None → IsListing lines (firsts (entries_in lines))
listing lines none =
    let entries = entries_in lines in
    let one = (consistent lines none).one in
    record {
      given = λ path sum.
          ((λ found. sum_in-Contains entries path sum (sym (sum_in-firsts entries path) ∙ found)), (λ among. sum_in-firsts entries path ∙ one path sum among));
      distinct = distinct-firsts entries;
    }

listing-lines : (at : ℕ) (lines : List (List ℕ)) (files : List Listed) → files_of_lines at lines ≡ Ok files → IsListing lines files
unfolding files_of_lines
listing-lines at lines files e = by (first_bad lines) refl e
  where
    by : (bad : Option ℕ) → first_bad lines ≡ bad → refused_at at bad (firsts (entries_in lines)) ≡ Ok files → IsListing lines files
    by None none same = let files_are : firsts (entries_in lines) ≡ files = cc in subst (IsListing lines) files_are (listing lines none)
    by (Some place) some bad = absurd (cc)

listing-field : (lines : List (List ℕ)) (at : ℕ) (files : List Listed) → files_of_field lines at ≡ Ok files → IsListing (drop 1 lines) files
unfolding files_of_field
listing-field [] at files e = absurd (cc)
listing-field (first ∷ lines) at files e =
    elim (cases_Bool (length first == 0)) [
      | inl is ↦ listing-lines (at + 1) lines files (rw is at e)
      | inr isnt ↦ let bad : Err (BadSums at) ≡ Ok files = rw isnt at e in absurd (cc)
    ]

listing-files : (field : Option Field) (files : List Listed) → files_of field ≡ Ok files → IsListing (later_lines field) files
unfolding files_of
listing-files None files e = absurd (cc)
listing-files (Some field) files e = listing-field field.lines field.at files e

bind-IfOk : {A B : Type 0} (r : Result A ReleaseError) (f : A → Result B ReleaseError) (P : B → Type 0) → ((x : A) → r ≡ Ok x → IfOk (f x) P) → IfOk (r >>= f) P
bind-IfOk (Ok x) f P h = h x refl
bind-IfOk (Err e) f P h = tt

listing-fields : (fields : List Field) → IfOk (release_of_fields fields) (λ release. IsListing (later_lines (field_named fields (codes "SHA256"))) release.files)
unfolding release_of_fields
listing-fields fields =
    bind-IfOk (date_of (field_named fields (codes "Date"))) _ _ (λ date _.
    bind-IfOk (until_of (field_named fields (codes "Valid-Until"))) _ _ (λ until _.
    bind-IfOk (files_of (field_named fields (codes "SHA256"))) _ _ (λ files e. listing-files (field_named fields (codes "SHA256")) files e)))

listing-paragraphs : (paragraphs : Result (List Paragraph) TextError) → IfOk (release_of_text paragraphs) (λ release. IsListing (later_lines (sums_of_paragraphs paragraphs)) release.files)
unfolding release_of_paragraphs
listing-paragraphs (Err e) = tt
listing-paragraphs (Ok []) = tt
listing-paragraphs (Ok (paragraph ∷ [])) = listing-fields paragraph.fields
listing-paragraphs (Ok (paragraph ∷ next ∷ more)) = tt

listing-text : (text : Result (List ℕ) ReleaseError) → IfOk (text >>= release_in) (λ release. IsListing (later_lines (sums_of_text text)) release.files)
unfolding release_in
listing-text (Ok text) = listing-paragraphs (paragraphs_of text false)
listing-text (Err refusal) = tt

listing-bytes : (bytes : List ℕ) → IfOk (release_of bytes) (λ release. IsListing (later_lines (sums_field bytes)) release.files)
unfolding release_of sums_field
listing-bytes bytes = listing-text (text_within bytes)

abbrev pub Lists : List ℕ → Result Release ReleaseError → Type 0
Lists bytes r = IfOk r (λ release. IsListing (later_lines (sums_field bytes)) release.files)

pub listing-read : (bytes : List ℕ) (r : Result Release ReleaseError) → (r ≡ Err NoMemory) ⊎ (r ≡ release_of bytes) → Lists bytes r
listing-read bytes r (inl e) = subst (Lists bytes) (sym e) tt
listing-read bytes r (inr e) = subst (Lists bytes) (sym e) (listing-bytes bytes)

pub listed-read : (bytes : List ℕ) (r : Result Release ReleaseError) → Lists bytes r → IfOk r (λ release. (path : List ℕ) (sum : Sum) → (listed_sum release path ≡ Some sum) ↔ Contains (entries_of bytes) (record { path = path; sum = sum }))
unfolding listed_sum
listed-read bytes (Ok release) h = h.given
listed-read bytes (Err e) h = tt

pub distinct-read : (bytes : List ℕ) (r : Result Release ReleaseError) → Lists bytes r → IfOk r (λ release. AllPairs (λ a b. a.path ≢ b.path) release.files)
distinct-read bytes (Ok release) h = h.distinct
distinct-read bytes (Err e) h = tt
