-- Release files (Debian repository format, "Release" files): what the bytes of one say, or why they are refused.
use Rattle.std.specs.Prelude.{ℕ, ◌+◌, ◌==◌, ◌&&◌, bytes_eq, not, Bool, true, false, if◌then◌else◌, List, [], ◌∷◌, length, take, get_or, codes, filter, find, Option, Some, None, ok_or, Result, Ok, Err, ℤ}
use Rattle.std.specs.List.{filter_map, join_with_byte, range_with_len}
use Rattle.std.specs.Result.{result_ok}
use Rattle.std.specs.Str.{str_eq_ignore_ascii_case}
use Rattle.acq_base.specs.Sum.{sum_of_texts}
use Rattle.acq_base.specs.Words.{words, is_blank}
use Rattle.acq_base.specs.declared.sum.Sum.{Sum}
use Rattle.clear_text.specs.Unframed.{unframed}
use Rattle.clear_text.specs.declared.error.FrameError.{FrameError}
use Rattle.deb822_text.specs.Control.{paragraphs_of, field_named}
use Rattle.deb822_text.specs.declared.error.TextError.{TextError}
use Rattle.deb822_text.specs.declared.paragraph.Field.{Field}
use Rattle.deb822_text.specs.declared.paragraph.Paragraph.{Paragraph}
use Rattle.release_file.specs.DateText.{date_of_text}
use Rattle.release_file.specs.Refused.{refusal_of_text, refusal_of_frame}
use Rattle.release_file.specs.declared.error.ReleaseError.{ReleaseError}
use Rattle.release_file.specs.declared.error.ReleaseError.TheVariants.{NotOne, NoDate, BadDate, NoSums, BadSums}
use Rattle.release_file.specs.declared.release.Head.{Head}
use Rattle.release_file.specs.declared.release.Listed.{Listed}
use Rattle.release_file.specs.declared.release.Release.{Release}

infixl 10 ◌>>=◌
abbrev pub ◌>>=◌ : {A B : Type 0} → Result A ReleaseError → (A → Result B ReleaseError) → Result B ReleaseError
(Ok x) >>= f = f x
(Err e) >>= f = Err e

-- ---- the dates

-- the date that the lines of a field write, which is one line; the field stands at a line of the text
unfoldable pub date_of_lines : List (List ℕ) → ℕ → Result ℤ ReleaseError
date_of_lines (line ∷ []) at = ok_or (date_of_text line) (BadDate at)
date_of_lines _ at = Err (BadDate at)

-- Date must be there
unfoldable pub date_of : Option Field → Result ℤ ReleaseError
date_of None = Err NoDate
date_of (Some field) = date_of_lines field.lines field.at

abbrev pub some_date : Result ℤ ReleaseError → Result (Option ℤ) ReleaseError
some_date (Ok date) = Ok (Some date)
some_date (Err refusal) = Err refusal

-- Valid-Until may be
unfoldable pub until_of : Option Field → Result (Option ℤ) ReleaseError
until_of None = Ok None
until_of (Some field) = some_date (date_of_lines field.lines field.at)

-- ---- the head

abbrev pub is_yes : List (List ℕ) → Bool
is_yes (line ∷ []) = str_eq_ignore_ascii_case line (codes "yes")
is_yes _ = false

-- Acquire-By-Hash is there and says `yes`
unfoldable pub by_hash_of : Option Field → Bool
by_hash_of None = false
by_hash_of (Some field) = is_yes field.lines

-- the lines of a field, with a line feed between each two
unfoldable pub text_of : Option Field → Option (List ℕ)
text_of None = None
text_of (Some field) = Some (join_with_byte 10 field.lines)

unfoldable pub head_of : List Field → Head
head_of fields = record {
  origin = text_of (field_named fields (codes "Origin"));
  label = text_of (field_named fields (codes "Label"));
  suite = text_of (field_named fields (codes "Suite"));
  codename = text_of (field_named fields (codes "Codename"));
}

-- ---- the sums

abbrev pub listed_as : List ℕ → Option Sum → Option Listed
listed_as path None = None
listed_as path (Some sum) = Some (record { path = path; sum = sum })

abbrev pub listed_of_words : List (List ℕ) → Option Listed
listed_of_words (hash ∷ size ∷ path ∷ []) = listed_as path (result_ok (sum_of_texts hash size))
listed_of_words _ = None

-- a sum line is a hash, a size and a path, with blanks between them
unfoldable pub listed_of_line : List ℕ → Option Listed
listed_of_line line = listed_of_words (words is_blank line)

abbrev pub same_sum : Sum → Sum → Bool
same_sum a b = (a.size == b.size) && bytes_eq a.sha.0 b.sha.0

-- the sum of the first entry that has this path
abbrev pub sum_in : List Listed → List ℕ → Option Sum
sum_in [] path = None
sum_in (entry ∷ entries) path = if bytes_eq entry.path path then Some entry.sum else sum_in entries path

-- a path may have this sum, beside the one that it has already
abbrev pub agrees : Option Sum → Sum → Bool
agrees None sum = true
agrees (Some other) sum = same_sum other sum

-- below these entries a line may stand that reads so: it is a sum line, and contradicts none of them
abbrev pub may_follow : List Listed → Option Listed → Bool
may_follow above None = false
may_follow above (Some entry) = agrees (sum_in above entry.path) entry.sum

-- what sum lines say, line by line
abbrev pub entries_in : List (List ℕ) → List Listed
entries_in lines = filter_map listed_of_line lines

-- the line at a place may not stand below those above it
abbrev pub is_bad_at : List (List ℕ) → ℕ → Bool
is_bad_at lines place = not (may_follow (entries_in (take place lines)) (listed_of_line (get_or lines place [])))

-- the place of the first line that may not stand where it does
unfoldable pub first_bad : List (List ℕ) → Option ℕ
first_bad lines = find (is_bad_at lines) (range_with_len 0 (length lines))

-- the entries without those whose path an earlier one has
abbrev pub firsts : List Listed → List Listed
firsts [] = []
firsts (entry ∷ entries) = entry ∷ filter (λ other. not (bytes_eq entry.path other.path)) (firsts entries)

abbrev pub refused_at : {X : Type 0} → ℕ → Option ℕ → X → Result X ReleaseError
refused_at at None value = Ok value
refused_at at (Some place) value = Err (BadSums (at + place))

-- the files that these sum lines list, numbered from `at`
unfoldable pub files_of_lines : ℕ → List (List ℕ) → Result (List Listed) ReleaseError
files_of_lines at lines = refused_at at (first_bad lines) (firsts (entries_in lines))

-- the first line of the field is empty, and each further one is a sum line
unfoldable pub files_of_field : List (List ℕ) → ℕ → Result (List Listed) ReleaseError
files_of_field [] at = Err (BadSums at)
files_of_field (first ∷ lines) at = if length first == 0 then files_of_lines (at + 1) lines else Err (BadSums at)

-- SHA256 must be there
unfoldable pub files_of : Option Field → Result (List Listed) ReleaseError
files_of None = Err NoSums
files_of (Some field) = files_of_field field.lines field.at

-- ---- the whole

unfoldable pub release_of_fields : List Field → Result Release ReleaseError
release_of_fields fields = do
  date ← date_of (field_named fields (codes "Date"))
  until ← until_of (field_named fields (codes "Valid-Until"))
  files ← files_of (field_named fields (codes "SHA256"))
  Ok (record {
    date = date;
    until = until;
    by_hash = by_hash_of (field_named fields (codes "Acquire-By-Hash"));
    head = head_of fields;
    files = files;
  })

-- there is one paragraph
unfoldable pub release_of_paragraphs : List Paragraph → Result Release ReleaseError
release_of_paragraphs (paragraph ∷ []) = release_of_fields paragraph.fields
release_of_paragraphs _ = Err NotOne

abbrev pub release_of_text : Result (List Paragraph) TextError → Result Release ReleaseError
release_of_text (Ok paragraphs) = release_of_paragraphs paragraphs
release_of_text (Err refusal) = Err (refusal_of_text refusal)

-- the Release that a text without a frame is, or the first refusal that holds
unfoldable pub release_in : List ℕ → Result Release ReleaseError
release_in text = release_of_text (paragraphs_of text false)

abbrev pub text_or : List ℕ → Result (Option (List ℕ)) FrameError → Result (List ℕ) ReleaseError
text_or bytes (Ok None) = Ok bytes
text_or bytes (Ok (Some text)) = Ok text
text_or bytes (Err refusal) = Err (refusal_of_frame refusal)

-- the text of a Release: what its frame holds, or all of it where it begins none
unfoldable pub text_within : List ℕ → Result (List ℕ) ReleaseError
text_within bytes = text_or bytes (unframed bytes)

-- the Release that the bytes are, with a frame or without, or the first refusal that holds
unfoldable pub release_of : List ℕ → Result Release ReleaseError
release_of bytes = do
  text ← text_within bytes
  release_in text

-- ---- looking up

-- the sum that a Release lists for a path
unfoldable pub listed_sum : Release → List ℕ → Option Sum
listed_sum release path = sum_in release.files path
