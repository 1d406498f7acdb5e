-- The lines of fields are no more than the lines of their text, which has few beside its bytes.
use Rattle.std.proofs.Common.{◌≡◌, ◌≤◌, ℕ, suc, ◌==◌, cond, Bool, true, false, List, [], ◌∷◌, length, filter, Option, Some, None, Ok, subst, arith}
use Rattle.std.specs.Prelude.{if◌then◌else◌}
use Rattle.std.specs.List.{slice_split, onto_first, AllByRecursion as Each}
use Rattle.std.specs.Str.{str_eq_ignore_ascii_case}
use Rattle.std.specs.Str.Lines.{lines as text_lines, lines_of_parts}
use Rattle.deb822_text.specs.Control.{Line, Separator, Comment, Continuation, Named, Unknown, field_named, fields_of, first_fault, groups_of, is_counted, is_separator, lines_of, paragraphs_in, paragraphs_of, reading_of, refused_or}
use Rattle.deb822_text.specs.declared.error.TextError.{TextError}
use Rattle.deb822_text.specs.declared.paragraph.Field.{Field}
use Rattle.deb822_text.specs.declared.paragraph.Paragraph.{Paragraph}
use Rattle.release_file.proofs.Places.{length-lines_from, few_continued}

-- ---- parts of a list

abbrev AreShort : {X : Type 0} → ℕ → List (List X) → Type 0
AreShort n parts = Each (λ part. length part ≤ n) parts

each-more : {X : Type 0} (n : ℕ) (parts : List (List X)) → AreShort n parts → AreShort (suc n) parts
each-more n [] h = tt
each-more n (part ∷ parts) h = let here = h.0 in (omega (arith, here), each-more n parts h.1)

onto-short : {X : Type 0} (n : ℕ) (x : X) (parts : List (List X)) → AreShort n parts → AreShort (suc n) (onto_first x parts)
onto-short n x [] h = (omega arith, tt)
onto-short n x (part ∷ parts) h = let here = h.0 in (omega (arith, here), each-more n parts h.1)

cut-short : {X : Type 0} (n : ℕ) (x : X) (parts : List (List X)) (c : Bool) → AreShort n parts → AreShort (suc n) (cond c ([] ∷ parts) (onto_first x parts))
cut-short n x parts true h = (omega arith, each-more n parts h)
cut-short n x parts false h = onto-short n x parts h

split-short : {X : Type 0} (p : X → Bool) (xs : List X) → AreShort (length xs) (slice_split p xs)
split-short p [] = (omega arith, tt)
split-short p (x ∷ xs) = cut-short (length xs) x (slice_split p xs) (p x) (split-short p xs)

onto-few : {X : Type 0} (n : ℕ) (x : X) (parts : List (List X)) → length parts ≤ suc n → length (onto_first x parts) ≤ suc (suc n)
onto-few n x [] h = omega arith
onto-few n x (part ∷ parts) h = omega (arith, h)

cut-few : {X : Type 0} (n : ℕ) (x : X) (parts : List (List X)) (c : Bool) → length parts ≤ suc n → length (cond c ([] ∷ parts) (onto_first x parts)) ≤ suc (suc n)
cut-few n x parts true h = omega (arith, h)
cut-few n x parts false h = onto-few n x parts h

split-few : {X : Type 0} (p : X → Bool) (xs : List X) → length (slice_split p xs) ≤ suc (length xs)
split-few p [] = omega arith
split-few p (x ∷ xs) = cut-few (length xs) x (slice_split p xs) (p x) (split-few p xs)

kept-few : {X : Type 0} (p : X → Bool) (xs : List X) → length (filter p xs) ≤ length xs
kept-few p [] = omega arith
kept-few p (x ∷ xs) = one (p x) (filter p xs) (length xs) (kept-few p xs)
  where
    one : (c : Bool) (kept : List _) (n : ℕ) → length kept ≤ n → length (cond c (x ∷ kept) kept) ≤ suc n
    one true kept n h = omega (arith, h)
    one false kept n h = omega (arith, h)

-- ---- the lines of a text

parts-few : (parts : List (List ℕ)) → length (lines_of_parts parts) ≤ length parts
parts-few [] = omega arith
parts-few (x ∷ []) = one (length x == 0)
  where
    one : (c : Bool) → length (if c then [] else x ∷ []) ≤ 1
    one true = omega arith
    one false = omega arith
parts-few (x ∷ y ∷ more) = let rest = parts-few (y ∷ more) in omega (arith, rest)

text-few : (bytes : List ℕ) → length (text_lines bytes) ≤ suc (length bytes)
text-few bytes =
    let parts = parts-few (slice_split (λ b. b == 10) bytes) in
    let split = split-few (λ b. b == 10) bytes in
    omega (arith, parts, split)

-- ---- the fields of a group

abbrev AreShortFields : ℕ → List Field → Type 0
AreShortFields n fields = Each (λ (field : Field). length field.lines ≤ n) fields

fields-short : (n : ℕ) (lines : List Line) → length lines ≤ n → AreShortFields n (fields_of lines)
fields-short n [] h = tt
fields-short n (Separator ∷ lines) h = fields-short n lines (omega (arith, h))
fields-short n (Comment ∷ lines) h = fields-short n lines (omega (arith, h))
fields-short n (Continuation at text ∷ lines) h = fields-short n lines (omega (arith, h))
fields-short n (Named at name text ∷ lines) h = let rest = few_continued lines in (omega (arith, rest, h), fields-short n lines (omega (arith, h)))
fields-short n (Unknown at ∷ lines) h = fields-short n lines (omega (arith, h))

abbrev AreShortParagraphs : ℕ → List Paragraph → Type 0
AreShortParagraphs n paragraphs = Each (λ (paragraph : Paragraph). AreShortFields n paragraph.fields) paragraphs

groups-short : (n : ℕ) (groups : List (List Line)) → AreShort n groups → AreShortParagraphs n (paragraphs_in groups)
groups-short n [] h = tt
groups-short n ([] ∷ groups) h = groups-short n groups h.1
groups-short n ((line ∷ lines) ∷ groups) h = (fields-short n (line ∷ lines) h.0, groups-short n groups h.1)

-- ---- the whole

read-short : (n : ℕ) (lines : List Line) (paragraphs : List Paragraph) → length lines ≤ n → reading_of lines ≡ Ok paragraphs → AreShortParagraphs n paragraphs
unfolding reading_of
read-short n lines paragraphs few is = one (first_fault (groups_of lines)) is
  where
    counted : AreShort (length (filter is_counted lines)) (groups_of lines)
    counted = split-short is_separator (filter is_counted lines)

    widened : (m : ℕ) (groups : List (List Line)) → m ≤ n → AreShort m groups → AreShort n groups
    widened m [] below h = tt
    widened m (group ∷ groups) below h = let here = h.0 in (omega (arith, here, below), widened m groups below h.1)

    one : (fault : Option TextError) → refused_or fault (paragraphs_in (groups_of lines)) ≡ Ok paragraphs → AreShortParagraphs n paragraphs
    one None e =
        let same : paragraphs_in (groups_of lines) ≡ paragraphs = cc in
        let kept = kept-few is_counted lines in
        subst (AreShortParagraphs n) same (groups-short n (groups_of lines) (widened (length (filter is_counted lines)) (groups_of lines) (omega (arith, kept, few)) counted))
    one (Some fault) e = absurd (cc)

-- no field of a text has more lines than its text, which has at most one more than bytes
pub text-short : (bytes : List ℕ) (paragraphs : List Paragraph) → paragraphs_of bytes false ≡ Ok paragraphs → AreShortParagraphs (suc (length bytes)) paragraphs
unfolding paragraphs_of lines_of
text-short bytes paragraphs is =
    let lines = text-few bytes in
    let numbered = length-lines_from false 1 (text_lines bytes) in
    read-short (suc (length bytes)) (lines_of false bytes) paragraphs (omega (arith, lines, numbered)) is

-- of short fields the one that is found is short
pub found-short : (n : ℕ) (fields : List Field) (name : List ℕ) (field : Field) → Each (λ (f : Field). length f.lines ≤ n) fields → field_named fields name ≡ Some field → length field.lines ≤ n
found-short n [] name field h e = absurd (cc)
found-short n (f ∷ fields) name field h e = one (found-short n fields name field h.1) (str_eq_ignore_ascii_case f.name name) e
  where
    one : (field_named fields name ≡ Some field → length field.lines ≤ n) → (c : Bool) → cond c (Some f) (field_named fields name) ≡ Some field → length field.lines ≤ n
    one rest true e = let same : f ≡ field = cc in subst (λ (g : Field). length g.lines ≤ n) same h.0
    one rest false e = rest e
