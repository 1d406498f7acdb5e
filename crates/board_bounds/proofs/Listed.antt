-- The sums that a Release lists are as its text writes them.
use Rattle.std.proofs.Common.{◌≡◌, ◌<◌, ◌∙◌, ℕ, ◌+◌, ◌^◌, ◌==◌, cond, not, bytes_eq, Bool, true, false, List, [], ◌∷◌, length, codes, filter, Option, Some, None, Result, Ok, Err, refl, sym, ap, subst, arith}
use Rattle.std.specs.Prelude.{if◌then◌else◌}
use Rattle.std.specs.List.{cons_option, AllByRecursion as Each}
use Rattle.std.specs.Result.{result_ok}
use Rattle.std.proofs.lemmas.Bool.Decides.{nat_tests}
use Rattle.acq_base.specs.Digits.{is_number, number_of_digits}
use Rattle.acq_base.specs.Sum.{hashed, sized, sum_of_texts}
use Rattle.acq_base.specs.Words.{is_blank, words}
use Rattle.acq_base.specs.declared.sum.Sum.{Sum}
use Rattle.std.specs.Str.Parse.{digits_value}
use Rattle.deb822_text.specs.Control.{field_named, paragraphs_of}
use Rattle.deb822_text.specs.declared.error.TextError.{TextError}
use Rattle.deb822_text.specs.declared.paragraph.Field.{Field}
use Rattle.deb822_text.specs.declared.paragraph.Paragraph.{Paragraph}
use Rattle.hex.specs.Hex.{decode_sized, IsBytes}
use Rattle.hex.specs.declared.error.FromHexError.{FromHexError}
use Rattle.hex.proofs.HexLemmas.{decode_of-ok, decode_sized-ok, decode_sized-twice}
use Rattle.release_file.specs.Release.{◌>>=◌, date_of, entries_in, files_of, files_of_field, files_of_lines, first_bad, firsts, listed_as, listed_of_line, listed_of_words, listed_sum, refused_at, release_in, release_of, release_of_fields, release_of_paragraphs, release_of_text, sum_in, text_within, until_of}
use Rattle.release_file.specs.declared.error.ReleaseError.{ReleaseError}
use Rattle.release_file.specs.declared.error.ReleaseError.TheVariants.{BadSums}
use Rattle.release_file.specs.declared.release.Listed.{Listed}
use Rattle.release_file.specs.declared.release.Release.{Release}
use Rattle.board_model.specs.CountLaws.{ListedSizesFit}
use Rattle.board_bounds.specs.Readings.{IsWritten, ListedSumsAreWritten}

-- ---- one sum

number-small : (text : List ℕ) (n : ℕ) → number_of_digits text ≡ Some n → n < 2 ^ 64
number-small text n e = one (is_number text) refl e
  where
    one : (c : Bool) → is_number text ≡ c → (if c then Some (digits_value 10 text) else None) ≡ Some n → n < 2 ^ 64
    one true is e =
        let same : digits_value 10 text ≡ n = cc in
        let small : digits_value 10 text < 2 ^ 64 = grind (arith, nat_tests) in
        subst (λ (k : ℕ). k < 2 ^ 64) same small
    one false is e = absurd (cc)

digest-whole : (hash digest : List ℕ) → decode_sized hash 32 ≡ Ok digest → (length digest ≡ 32) × IsBytes digest
digest-whole hash digest e =
    let digits = decode_sized-ok hash 32 digest e in
    let ok = decode_of-ok hash digest (sym (decode_sized-twice hash 32 digits) ∙ e) in
    let twice = ok.2 in
    (omega (arith, digits, twice), ok.3)

-- what a hash and a size write
texts-written : (hash size : List ℕ) (sum : Sum) → result_ok (sum_of_texts hash size) ≡ Some sum → IsWritten sum
texts-written hash size sum e = one (decode_sized hash 32) refl e
  where
    two : (digest : List ℕ) → (length digest ≡ 32) × IsBytes digest → (o : Option ℕ) → number_of_digits size ≡ o → result_ok (sized digest o) ≡ Some sum → IsWritten sum
    two digest whole None is e = absurd (cc)
    two digest whole (Some n) is e =
        let same : (record { size = n; sha = record { 0 = digest } }) ≡ sum = cc in
        subst IsWritten same (record { size = number-small size n is; count = whole.0; bytes = whole.1 })

    one : (r : Result (List ℕ) FromHexError) → decode_sized hash 32 ≡ r → result_ok (hashed (result_ok r) size) ≡ Some sum → IsWritten sum
    one (Ok digest) is e = two digest (digest-whole hash digest is) (number_of_digits size) refl e
    one (Err refusal) is e = absurd (cc)

-- ---- the lines

abbrev AreWritten : List Listed → Type 0
AreWritten entries = Each (λ (entry : Listed). IsWritten entry.sum) entries

words-written : (ws : List (List ℕ)) (entry : Listed) → listed_of_words ws ≡ Some entry → IsWritten entry.sum
words-written [] entry e = absurd (cc)
words-written (a ∷ []) entry e = absurd (cc)
words-written (a ∷ b ∷ []) entry e = absurd (cc)
words-written (hash ∷ size ∷ path ∷ []) entry e = one (result_ok (sum_of_texts hash size)) refl e
  where
    one : (o : Option Sum) → result_ok (sum_of_texts hash size) ≡ o → listed_as path o ≡ Some entry → IsWritten entry.sum
    one None is e = absurd (cc)
    one (Some sum) is e =
        let same : (record { path = path; sum = sum }) ≡ entry = cc in
        subst (λ (x : Listed). IsWritten x.sum) same (texts-written hash size sum is)
words-written (a ∷ b ∷ c ∷ d ∷ more) entry e = absurd (cc)

line-written : (line : List ℕ) (entry : Listed) → listed_of_line line ≡ Some entry → IsWritten entry.sum
unfolding listed_of_line
line-written line entry e = words-written (words is_blank line) entry e

lines-written : (lines : List (List ℕ)) → AreWritten (entries_in lines)
lines-written [] = tt
lines-written (line ∷ lines) = one (lines-written lines) (listed_of_line line) refl
  where
    one : AreWritten (entries_in lines) → (o : Option Listed) → listed_of_line line ≡ o → AreWritten (cons_option o (entries_in lines))
    one rest None is = rest
    one rest (Some entry) is = (line-written line entry is, rest)

kept-written : (p : Listed → Bool) (entries : List Listed) → AreWritten entries → AreWritten (filter p entries)
kept-written p [] h = tt
kept-written p (entry ∷ entries) h = one (kept-written p entries h.1) (p entry)
  where
    one : AreWritten (filter p entries) → (c : Bool) → AreWritten (cond c (entry ∷ filter p entries) (filter p entries))
    one rest true = (h.0, rest)
    one rest false = rest

firsts-written : (entries : List Listed) → AreWritten entries → AreWritten (firsts entries)
firsts-written [] h = tt
firsts-written (entry ∷ entries) h = (h.0, kept-written (λ other. not (bytes_eq entry.path other.path)) (firsts entries) (firsts-written entries h.1))

-- ---- the whole

bound : {A B : Type 0} (r : Result A ReleaseError) (f : A → Result B ReleaseError) (b : B) → (r >>= f) ≡ Ok b → (a : A) × (r ≡ Ok a) × (f a ≡ Ok b)
bound (Ok a) f b e = (a, refl, e)
bound (Err refusal) f b e = absurd (cc)

numbered-written : (at : ℕ) (lines : List (List ℕ)) (files : List Listed) → files_of_lines at lines ≡ Ok files → AreWritten files
unfolding files_of_lines
numbered-written at lines files e = one (first_bad lines) e
  where
    one : (o : Option ℕ) → refused_at at o (firsts (entries_in lines)) ≡ Ok files → AreWritten files
    one None e = let same : firsts (entries_in lines) ≡ files = cc in subst AreWritten same (firsts-written (entries_in lines) (lines-written lines))
    one (Some place) e = absurd (cc)

field-written : (lines : List (List ℕ)) (at : ℕ) (files : List Listed) → files_of_field lines at ≡ Ok files → AreWritten files
unfolding files_of_field
field-written [] at files e = absurd (cc)
field-written (first ∷ lines) at files e = one (length first == 0) e
  where
    one : (c : Bool) → (if c then files_of_lines (at + 1) lines else Err (BadSums at)) ≡ Ok files → AreWritten files
    one true e = numbered-written (at + 1) lines files e
    one false e = absurd (cc)

files-written : (field : Option Field) (files : List Listed) → files_of field ≡ Ok files → AreWritten files
unfolding files_of
files-written None files e = absurd (cc)
files-written (Some field) files e = field-written field.lines field.at files e

abbrev files_or : Result Release ReleaseError → List Listed
files_or (Ok release) = release.files
files_or (Err refusal) = []

fields-written : (fields : List Field) (release : Release) → release_of_fields fields ≡ Ok release → AreWritten release.files
unfolding release_of_fields
fields-written fields release e =
    let date = bound (date_of (field_named fields (codes "Date"))) _ release e in
    let until = bound (until_of (field_named fields (codes "Valid-Until"))) _ release date.2 in
    let files = bound (files_of (field_named fields (codes "SHA256"))) _ release until.2 in
    let same : files.0 ≡ release.files = ap files_or files.2 in
    subst AreWritten same (files-written (field_named fields (codes "SHA256")) files.0 files.1)

paragraphs-written : (paragraphs : List Paragraph) (release : Release) → release_of_paragraphs paragraphs ≡ Ok release → AreWritten release.files
unfolding release_of_paragraphs
paragraphs-written [] release e = absurd (cc)
paragraphs-written (paragraph ∷ []) release e = fields-written paragraph.fields release e
paragraphs-written (paragraph ∷ other ∷ more) release e = absurd (cc)

text-written : (text : List ℕ) (release : Release) → release_in text ≡ Ok release → AreWritten release.files
unfolding release_in
text-written text release e = one (paragraphs_of text false) e
  where
    one : (r : Result (List Paragraph) TextError) → release_of_text r ≡ Ok release → AreWritten release.files
    one (Ok paragraphs) e = paragraphs-written paragraphs release e
    one (Err refusal) e = absurd (cc)

release-written : (bytes : List ℕ) (release : Release) → release_of bytes ≡ Ok release → AreWritten release.files
unfolding release_of
release-written bytes release e =
    let text = bound (text_within bytes) release_in release e in
    text-written text.0 release text.2

found-written : (entries : List Listed) (path : List ℕ) (sum : Sum) → AreWritten entries → sum_in entries path ≡ Some sum → IsWritten sum
found-written [] path sum h e = absurd (cc)
found-written (entry ∷ entries) path sum h e = one (found-written entries path sum h.1) (bytes_eq entry.path path) e
  where
    one : (sum_in entries path ≡ Some sum → IsWritten sum) → (c : Bool) → (if c then Some entry.sum else sum_in entries path) ≡ Some sum → IsWritten sum
    one rest true e = let same : entry.sum ≡ sum = cc in subst IsWritten same h.0
    one rest false e = rest e

pub listed-written : ListedSumsAreWritten
unfolding listed_sum
listed-written bytes path release sum read is = found-written release.files path sum (release-written bytes release read) is

pub listed-sizes : ListedSizesFit
listed-sizes bytes path release sum read is = (listed-written bytes path release sum read is).size
