-- Where the fields of a text stand: a field and its lines are among the lines of the text.
use Rattle.std.proofs.Common.{◌≡◌, ℕ, suc, ◌+◌, ◌<◌, ◌≤◌, ◌^◌, Bool, true, false, cond, not, ◌&&◌, nat_eq, List, [], ◌∷◌, length, map, filter, find, drop, Option, Some, None, Result, Ok, IfSome, refl, sym, ap, subst, ◌∙◌, inl, inr, arith}
use Rattle.std.specs.List.{slice_split, onto_first, list_all, list_any, before_first, after_first}
use Rattle.std.specs.Str.{str_eq_ignore_ascii_case}
use Rattle.std.specs.Str.Lines.{lines as text_lines, lines_of_parts}
use Rattle.std.proofs.lemmas.Bool.{cases_Bool, ne_eqb}
use Rattle.acq_base.specs.Words.{is_blank, trimmed, trimmed_end}
use Rattle.deb822_text.specs.Control.{Line, Separator, Comment, Continuation, Named, Unknown, is_colon, is_hash, is_name, begins_with, is_empty, named_line, field_line, line_of, lines_from, lines_of, is_separator, is_counted, groups_of, continued, fields_of, paragraph_of, paragraphs_in, first_fault, refused_or, reading_of, paragraphs_of, field_named}
use Rattle.deb822_text.specs.declared.error.TextError.{TextError}
use Rattle.deb822_text.specs.declared.paragraph.Field.{Field}
use Rattle.deb822_text.specs.declared.paragraph.Paragraph.{Paragraph}
use Rattle.release_file.specs.Places.{IsPlaced, ArePlaced, AreAllPlaced}

-- ---- a text has no more lines than bytes

abbrev is_feed : ℕ → Bool
is_feed c = nat_eq c 10

few_after : (x : ℕ) (part : List ℕ) (parts : List (List ℕ)) → length (lines_of_parts ((x ∷ part) ∷ parts)) ≤ 1 + length (lines_of_parts (part ∷ parts))
few_after x part [] = rw (ne_eqb (suc (length part)) 0 (λ e. omega arith)) (omega arith)
few_after x part (next ∷ parts) = omega arith

few_before : (parts : List (List ℕ)) → length (lines_of_parts ([] ∷ parts)) ≤ 1 + length (lines_of_parts parts)
few_before [] = omega arith
few_before (part ∷ parts) = omega arith

few_onto : (x : ℕ) (parts : List (List ℕ)) → length (lines_of_parts (onto_first x parts)) ≤ 1 + length (lines_of_parts parts)
few_onto x [] = omega arith
few_onto x (part ∷ parts) = few_after x part parts

few_lines : (bytes : List ℕ) → length (text_lines bytes) ≤ length bytes
few_lines [] = omega arith
few_lines (c ∷ bytes) =
    elim (is_feed c) as (λ b. length (lines_of_parts (cond b ([] ∷ slice_split is_feed bytes) (onto_first c (slice_split is_feed bytes)))) ≤ suc (length bytes)) [
      | true ↦ omega (arith, few_before (slice_split is_feed bytes), few_lines bytes)
      | false ↦ omega (arith, few_onto c (slice_split is_feed bytes), few_lines bytes)
    ]

-- ---- the lines of a text by their kinds

-- a field at such a place, with so many lines from it on, is within the first `most` lines
abbrev Fits : ℕ → Line → ℕ → Type 0
Fits most (Named at name text) count = at + count ≤ most
Fits most _ count = Unit {0}

abbrev IsWithin : ℕ → List Line → Type 0
IsWithin most [] = Unit {0}
IsWithin most (line ∷ lines) = Fits most line (suc (length lines)) × IsWithin most lines

fits-fewer : (most : ℕ) (line : Line) (count fewer : ℕ) → Fits most line count → fewer ≤ count → Fits most line fewer
fits-fewer most Separator count fewer h less = tt
fits-fewer most Comment count fewer h less = tt
fits-fewer most (Continuation at text) count fewer h less = tt
fits-fewer most (Named at name text) count fewer h less = omega (arith, h, less)
fits-fewer most (Unknown at) count fewer h less = tt

fits-named : (most at count : ℕ) (name text : List ℕ) → at + count ≤ most → Fits most (named_line at name text) count
fits-named most at count name text h = elim (is_name name) as (λ b. Fits most (cond b (Named at name (trimmed text)) (Unknown at)) count) [ true ↦ h | false ↦ tt ]

fits-field : (most at count : ℕ) (line : List ℕ) → at + count ≤ most → Fits most (field_line at line) count
fits-field most at count line h =
    elim (list_any is_colon line) as (λ b. Fits most (cond b (named_line at (before_first is_colon line) (after_first is_colon line)) (Unknown at)) count) [
      | true ↦ fits-named most at count (before_first is_colon line) (after_first is_colon line) h
      | false ↦ tt
    ]

fits-line : (most : ℕ) (comments : Bool) (at count : ℕ) (line : List ℕ) → at + count ≤ most → Fits most (line_of comments at line) count
unfolding line_of
fits-line most comments at count line h =
    elim (list_all is_blank line) as (λ b. Fits most (cond b Separator (cond (comments && begins_with is_hash line) Comment (cond (begins_with is_blank line) (Continuation at (trimmed_end (drop 1 line))) (field_line at line)))) count) [
      | true ↦ tt
      | false ↦ elim (comments && begins_with is_hash line) as (λ b. Fits most (cond b Comment (cond (begins_with is_blank line) (Continuation at (trimmed_end (drop 1 line))) (field_line at line))) count) [
        | true ↦ tt
        | false ↦ elim (begins_with is_blank line) as (λ b. Fits most (cond b (Continuation at (trimmed_end (drop 1 line))) (field_line at line)) count) [
          | true ↦ tt
          | false ↦ fits-field most at count line h
        ]
      ]
    ]

pub length-lines_from : (comments : Bool) (at : ℕ) (lines : List (List ℕ)) → length (lines_from comments at lines) ≡ length lines
length-lines_from comments at [] = refl
length-lines_from comments at (line ∷ lines) = ap suc (length-lines_from comments (at + 1) lines)

within-lines : (most : ℕ) (comments : Bool) (at : ℕ) (lines : List (List ℕ)) → at + length lines ≤ most → IsWithin most (lines_from comments at lines)
within-lines most comments at [] h = tt
within-lines most comments at (line ∷ lines) h =
    (fits-line most comments at (suc (length (lines_from comments (at + 1) lines))) line (omega (arith, h, length-lines_from comments (at + 1) lines)), within-lines most comments (at + 1) lines (omega (arith, h)))

-- ---- the same of a part of them

length-filtered : (p : Line → Bool) (lines : List Line) → length (filter p lines) ≤ length lines
length-filtered p [] = omega arith
length-filtered p (line ∷ lines) =
    elim (p line) as (λ b. length (cond b (line ∷ filter p lines) (filter p lines)) ≤ suc (length lines)) [
      | true ↦ omega (arith, length-filtered p lines)
      | false ↦ omega (arith, length-filtered p lines)
    ]

within-filtered : (most : ℕ) (p : Line → Bool) (lines : List Line) → IsWithin most lines → IsWithin most (filter p lines)
within-filtered most p [] h = tt
within-filtered most p (line ∷ lines) h =
    elim (p line) as (λ b. IsWithin most (cond b (line ∷ filter p lines) (filter p lines))) [
      | true ↦ (fits-fewer most line (suc (length lines)) (suc (length (filter p lines))) h.0 (omega (arith, length-filtered p lines)), within-filtered most p lines h.1)
      | false ↦ within-filtered most p lines h.1
    ]

abbrev AreWithin : ℕ → List (List Line) → Type 0
AreWithin most [] = Unit {0}
AreWithin most (group ∷ groups) = IsWithin most group × AreWithin most groups

-- the first group of some lines, and the others
record IsSplit (most : ℕ) (p : Line → Bool) (lines : List Line) : Type 0 where
  first : List Line
  others : List (List Line)
  split : slice_split p lines ≡ first ∷ others
  short : length first ≤ length lines
  within : IsWithin most first
  rest : AreWithin most others

split : (most : ℕ) (p : Line → Bool) (lines : List Line) → IsWithin most lines → IsSplit most p lines
split most p [] h = record { first = []; others = []; split = refl; short = omega arith; within = tt; rest = tt }
split most p (line ∷ lines) h =
    let more = split most p lines h.1 in
    elim (cases_Bool (p line)) [
      | inl is ↦ record {
        first = [];
        others = more.first ∷ more.others;
        split = rw is (ap (λ gs. [] ∷ gs) more.split);
        short = omega arith;
        within = tt;
        rest = (more.within, more.rest);
      }
      | inr isnt ↦ record {
        first = line ∷ more.first;
        others = more.others;
        split = rw isnt (ap (onto_first line) more.split);
        short = omega (arith, more.short);
        within = (fits-fewer most line (suc (length lines)) (suc (length more.first)) h.0 (omega (arith, more.short)), more.within);
        rest = more.rest;
      }
    ]

within-groups : (most : ℕ) (lines : List Line) → IsWithin most lines → AreWithin most (groups_of lines)
within-groups most lines h =
    let parts = split most is_separator (filter is_counted lines) (within-filtered most is_counted lines h) in
    subst (AreWithin most) (sym parts.split) (parts.within, parts.rest)

-- ---- the fields of a group

pub few_continued : (lines : List Line) → length (continued lines) ≤ length lines
few_continued [] = omega arith
few_continued (Continuation at text ∷ lines) = omega (arith, few_continued lines)
few_continued (Separator ∷ lines) = omega arith
few_continued (Comment ∷ lines) = omega arith
few_continued (Named at name text ∷ lines) = omega arith
few_continued (Unknown at ∷ lines) = omega arith

placed-fields : (most : ℕ) (lines : List Line) → most < 2 ^ 64 → IsWithin most lines → ArePlaced (fields_of lines)
placed-fields most [] small h = tt
placed-fields most (Separator ∷ lines) small h = placed-fields most lines small h.1
placed-fields most (Comment ∷ lines) small h = placed-fields most lines small h.1
placed-fields most (Continuation at text ∷ lines) small h = placed-fields most lines small h.1
placed-fields most (Unknown at ∷ lines) small h = placed-fields most lines small h.1
placed-fields most (Named at name text ∷ lines) small h = (omega (arith, h.0, small, few_continued lines), placed-fields most lines small h.1)

abbrev is_used : List Line → Bool
is_used group = not (is_empty group)

placed-groups : (most : ℕ) (groups : List (List Line)) → most < 2 ^ 64 → AreWithin most groups → AreAllPlaced (paragraphs_in groups)
placed-groups most [] small h = tt
placed-groups most (group ∷ groups) small h =
    elim (is_used group) as (λ b. AreAllPlaced (map paragraph_of (cond b (group ∷ filter is_used groups) (filter is_used groups)))) [
      | true ↦ (placed-fields most group small h.0, placed-groups most groups small h.1)
      | false ↦ placed-groups most groups small h.1
    ]

-- ---- the fields of a text

pub placed : (text : List ℕ) (result : Result (List Paragraph) TextError) (paragraphs : List Paragraph) → suc (length text) < 2 ^ 64 → result ≡ paragraphs_of text false → result ≡ Ok paragraphs → AreAllPlaced paragraphs
unfolding paragraphs_of reading_of lines_of
placed text result paragraphs small read is =
    by (first_fault (groups_of lines)) (sym read ∙ is)
  where
    lines : List Line
    lines = lines_from false 1 (text_lines text)

    most : ℕ
    most = suc (length text)

    by : (fault : Option TextError) → refused_or fault (paragraphs_in (groups_of lines)) ≡ Ok paragraphs → AreAllPlaced paragraphs
    by (Some fault) e = absurd cc
    by None e =
        let same : paragraphs_in (groups_of lines) ≡ paragraphs = cc in
        subst AreAllPlaced same (placed-groups most (groups_of lines) small (within-groups most lines (within-lines most false 1 (text_lines text) (omega (arith, few_lines text)))))

-- a field that is found is one of them
pub placed-named : (fields : List Field) (name : List ℕ) → ArePlaced fields → IfSome (field_named fields name) IsPlaced
placed-named [] name h = tt
placed-named (field ∷ fields) name h =
    elim (str_eq_ignore_ascii_case field.name name) as (λ b. IfSome (cond b (Some field) (find (λ other. str_eq_ignore_ascii_case other.name name) fields)) IsPlaced) [
      | true ↦ h.0
      | false ↦ placed-named fields name h.1
    ]

pub ruleset places = (placed, placed-named)
