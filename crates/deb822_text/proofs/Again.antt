-- Reading what was written gives the paragraphs again.
use Rattle.std.proofs.Common.{◌≡◌, ℕ, ◌+◌, Bool, true, false, not, List, [], ◌∷◌, ◌++◌, ◌&&◌, map, is_some, None, Ok, refl, sym, ap, subst, ◌∙◌, append_assoc}
use Rattle.std.specs.List.{list_all, flat_map}
use Rattle.std.specs.Str.Lines.{lines as text_lines}
use Rattle.std.proofs.lemmas.Bool.{and_parts, not-true, false≢true}
use Rattle.std.proofs.lemmas.List.{append-nil}
use Rattle.deb822_text.specs.declared.paragraph.Field.{Field}
use Rattle.deb822_text.specs.declared.paragraph.Paragraph.{Paragraph}
use Rattle.deb822_text.specs.Control.{Line, Separator, Continuation, Named, is_empty, is_name, has_name, field_named, line_of, lines_from, lines_of, paragraphs_of}
use Rattle.deb822_text.specs.Names.{names_of}
use Rattle.deb822_text.specs.Scan.{State, start, fault_at, step, scan}
use Rattle.deb822_text.specs.Written.{is_line_character, is_first_line, is_later_line, are_field_lines, is_writable_field, are_distinct, is_writable_paragraph, is_writable, first_line_text, later_line_text, lines_text, field_text, paragraph_text, next_paragraph_text, text_of, unplaced_field, unplaced, ReadsAs}
use Rattle.deb822_text.proofs.Distinct.{AreFresh, fresh_none, fresh_push}
use Rattle.deb822_text.proofs.Steps.{is_empty-push, add_line-push, names_of-push}
use Rattle.deb822_text.proofs.Groups.{scan-start}
use Rattle.deb822_text.proofs.Plain.{lines_plain, line_of-later, later_plain, line_of-name, behind_colon, first_text, trimmed-behind, header_plain}

abbrev lines_at : Bool → ℕ → List ℕ → List Line
lines_at comments at text = lines_from comments at (text_lines text)

abbrev at_fields : List Paragraph → List Field → State
at_fields paragraphs fields = record { paragraphs = paragraphs; fields = fields }

-- a line that is taken
one_line : (comments : Bool) (at : ℕ) (line rest : List ℕ) (kind : Line) (state new : State) → list_all is_line_character line ≡ true → line_of comments at line ≡ kind → fault_at state.fields kind ≡ None → step state kind ≡ new
    → scan state (lines_at comments at (line ++ 10 ∷ rest)) ≡ scan new (lines_at comments (at + 1) rest)
unfolding scan
one_line comments at line rest kind state new plain is fine stepped =
    ap (λ (lines : List (List ℕ)). scan state (lines_from comments at lines)) (lines_plain line rest plain)
    ∙ ap (λ (k : Line). scan state (k ∷ lines_at comments (at + 1) rest)) is
    ∙ rw fine (ap (λ (s : State). scan s (lines_at comments (at + 1) rest)) stepped)

regroup : (a b c : List ℕ) → ((a ++ 10 ∷ []) ++ b) ++ c ≡ a ++ 10 ∷ (b ++ c)
regroup a b c = append_assoc (a ++ 10 ∷ []) b c ∙ append_assoc a (10 ∷ []) (b ++ c)

-- ---- one field

later_read : (comments : Bool) (later : List (List ℕ)) (paragraphs : List Paragraph) (fields : List Field) (name : List ℕ) (lines : List (List ℕ)) (place at : ℕ) (rest : List ℕ) → list_all is_later_line later ≡ true
    → (next : ℕ) × (scan (at_fields paragraphs (fields ++ record { name = name; lines = lines; at = place } ∷ [])) (lines_at comments at (flat_map later_line_text later ++ rest))
    ≡ scan (at_fields paragraphs (fields ++ record { name = name; lines = lines ++ later; at = place } ∷ [])) (lines_at comments next rest))
later_read comments [] paragraphs fields name lines place at rest fit =
    (at, λ i. scan (at_fields paragraphs (fields ++ record { name = name; lines = sym (append-nil lines) i; at = place } ∷ [])) (lines_at comments at rest))
later_read comments (line ∷ later) paragraphs fields name lines place at rest fit =
    let parts = and_parts (is_later_line line) (list_all is_later_line later) fit in
    let field : Field = record { name = name; lines = lines; at = place } in
    let text = flat_map later_line_text later ++ rest in
    let here = ap (λ (t : List ℕ). scan (at_fields paragraphs (fields ++ field ∷ [])) (lines_at comments at t)) (regroup (32 ∷ line) (flat_map later_line_text later) rest)
    ∙ one_line comments at (32 ∷ line) text (Continuation at line) (at_fields paragraphs (fields ++ field ∷ [])) (at_fields paragraphs (fields ++ record { name = name; lines = lines ++ line ∷ []; at = place } ∷ []))
    (later_plain line parts.0) (line_of-later comments at line parts.0) (rw (is_empty-push fields field) refl) (ap (at_fields paragraphs) (add_line-push fields field line)) in
    let more = later_read comments later paragraphs fields name (lines ++ line ∷ []) place (at + 1) rest parts.1 in
    (more.0, here ∙ more.1 ∙ λ i. scan (at_fields paragraphs (fields ++ record { name = name; lines = append_assoc lines (line ∷ []) later i; at = place } ∷ [])) (lines_at comments more.0 rest))

header_regroup : (name behind later rest : List ℕ) → (name ++ 58 ∷ ((behind ++ 10 ∷ []) ++ later)) ++ rest ≡ (name ++ 58 ∷ behind) ++ 10 ∷ (later ++ rest)
header_regroup name behind later rest =
    append_assoc name (58 ∷ ((behind ++ 10 ∷ []) ++ later)) rest
    ∙ ap (λ (t : List ℕ). name ++ 58 ∷ t) (regroup behind later rest)
    ∙ sym (append_assoc name (58 ∷ behind) (10 ∷ (later ++ rest)))

field_read : (comments : Bool) (name : List ℕ) (lines : List (List ℕ)) (paragraphs : List Paragraph) (fields : List Field) (at : ℕ) (rest : List ℕ) → (is_name name && are_field_lines lines) ≡ true → has_name (names_of fields) name ≡ false
    → (next : ℕ) × (scan (at_fields paragraphs fields) (lines_at comments at ((name ++ 58 ∷ lines_text lines) ++ rest))
    ≡ scan (at_fields paragraphs (fields ++ record { name = name; lines = lines; at = at } ∷ [])) (lines_at comments next rest))
field_read comments name [] paragraphs fields at rest fit fresh = absurd (false≢true (and_parts (is_name name) false fit).1)
field_read comments name (first ∷ later) paragraphs fields at rest fit fresh =
    let parts = and_parts (is_name name) (is_first_line first && list_all is_later_line later) fit in
    let texts = and_parts (is_first_line first) (list_all is_later_line later) parts.1 in
    let text = flat_map later_line_text later in
    let regrouped : (name ++ 58 ∷ (first_line_text first ++ text)) ++ rest ≡ (name ++ 58 ∷ behind_colon first) ++ 10 ∷ (text ++ rest) =
    ap (λ (t : List ℕ). (name ++ 58 ∷ (t ++ text)) ++ rest) (first_text first) ∙ header_regroup name (behind_colon first) text rest in
    let here = ap (λ (t : List ℕ). scan (at_fields paragraphs fields) (lines_at comments at t)) regrouped
    ∙ one_line comments at (name ++ 58 ∷ behind_colon first) (text ++ rest) (Named at name first) (at_fields paragraphs fields) (at_fields paragraphs (fields ++ record { name = name; lines = first ∷ []; at = at } ∷ []))
    (header_plain name first parts.0 texts.0) (line_of-name comments at name (behind_colon first) parts.0 ∙ ap (Named at name) (trimmed-behind first texts.0)) (rw fresh refl) refl in
    let more = later_read comments later paragraphs fields name (first ∷ []) at (at + 1) rest texts.1 in
    (more.0, here ∙ more.1)

-- ---- the fields of a paragraph

fields_read : (comments : Bool) (fields : List Field) (paragraphs : List Paragraph) (before : List Field) (at : ℕ) (rest : List ℕ) → list_all is_writable_field fields ≡ true → are_distinct fields ≡ true → AreFresh (names_of before) fields
    → (next : ℕ) × (again : List Field) × (map unplaced_field again ≡ map unplaced_field fields)
    × (scan (at_fields paragraphs before) (lines_at comments at (flat_map field_text fields ++ rest)) ≡ scan (at_fields paragraphs (before ++ again)) (lines_at comments next rest))
fields_read comments [] paragraphs before at rest fit distinct fresh = (at, [], refl, λ i. scan (at_fields paragraphs (sym (append-nil before) i)) (lines_at comments at rest))
fields_read comments (field ∷ fields) paragraphs before at rest fit distinct fresh =
    let fits = and_parts (is_writable_field field) (list_all is_writable_field fields) fit in
    let apart = and_parts (not (is_some (field_named fields field.name))) (are_distinct fields) distinct in
    let placed : Field = record { name = field.name; lines = field.lines; at = at } in
    let first = field_read comments field.name field.lines paragraphs before at (flat_map field_text fields ++ rest) fits.0 fresh.0 in
    let names : names_of before ++ field.name ∷ [] ≡ names_of (before ++ placed ∷ []) = sym (names_of-push before placed) in
    let free : AreFresh (names_of (before ++ placed ∷ [])) fields = subst (λ (ns : List (List ℕ)). AreFresh ns fields) names (fresh_push (names_of before) field.name fields fresh.1 (not-true (is_some (field_named fields field.name)) apart.0)) in
    let more = fields_read comments fields paragraphs (before ++ placed ∷ []) first.0 rest fits.1 apart.1 free in (
      more.0,
      placed ∷ more.1,
      ap (λ (fs : List Field). unplaced_field field ∷ fs) more.2,
      ap (λ (t : List ℕ). scan (at_fields paragraphs before) (lines_at comments at t)) (append_assoc (field_text field) (flat_map field_text fields) rest) ∙ first.1 ∙ more.3
          ∙ λ i. scan (at_fields paragraphs (append_assoc before (placed ∷ []) more.1 i)) (lines_at comments more.0 rest),
    )

-- ---- all paragraphs

is_empty-map : {X Y : Type 0} (f : X → Y) (xs : List X) → is_empty (map f xs) ≡ is_empty xs
is_empty-map f [] = refl
is_empty-map f (x ∷ xs) = refl

same_empty : (again fields : List Field) → map unplaced_field again ≡ map unplaced_field fields → is_empty again ≡ is_empty fields
same_empty again fields e = sym (is_empty-map unplaced_field again) ∙ ap is_empty e ∙ is_empty-map unplaced_field fields

separator : (comments : Bool) (at : ℕ) → line_of comments at [] ≡ Separator
unfolding line_of
separator comments at = refl

-- the fields of a writable paragraph, from the start of a paragraph
paragraph_read : (comments : Bool) (paragraph : Paragraph) (paragraphs : List Paragraph) (at : ℕ) (rest : List ℕ) → is_writable_paragraph paragraph ≡ true
    → (next : ℕ) × (again : List Field) × (map unplaced_field again ≡ map unplaced_field paragraph.fields) × (is_empty again ≡ false)
    × (scan (at_fields paragraphs []) (lines_at comments at (paragraph_text paragraph ++ rest)) ≡ scan (at_fields paragraphs again) (lines_at comments next rest))
paragraph_read comments paragraph paragraphs at rest fit =
    let parts = and_parts (not (is_empty paragraph.fields)) (list_all is_writable_field paragraph.fields && are_distinct paragraph.fields) fit in
    let both = and_parts (list_all is_writable_field paragraph.fields) (are_distinct paragraph.fields) parts.1 in
    let read = fields_read comments paragraph.fields paragraphs [] at rest both.0 both.1 (fresh_none paragraph.fields) in
    (read.0, read.1, read.2, same_empty read.1 paragraph.fields read.2 ∙ not-true (is_empty paragraph.fields) parts.0, read.3)

more_read : (comments : Bool) (more : List Paragraph) (paragraphs : List Paragraph) (fields : List Field) (at : ℕ) → list_all is_writable_paragraph more ≡ true → is_empty fields ≡ false
    → (again : List Paragraph) × (unplaced again ≡ unplaced more) × (scan (at_fields paragraphs fields) (lines_at comments at (flat_map next_paragraph_text more)) ≡ Ok (paragraphs ++ record { fields = fields } ∷ again))
unfolding scan
more_read comments [] paragraphs fields at fit some = ([], refl, rw some refl)
more_read comments (paragraph ∷ more) paragraphs fields at fit some =
    let fits = and_parts (is_writable_paragraph paragraph) (list_all is_writable_paragraph more) fit in
    let text = flat_map next_paragraph_text more in
    let done = paragraphs ++ record { fields = fields } ∷ [] in
    let here : scan (at_fields paragraphs fields) (lines_at comments at (10 ∷ (paragraph_text paragraph ++ text))) ≡ scan (at_fields done []) (lines_at comments (at + 1) (paragraph_text paragraph ++ text)) =
    one_line comments at [] (paragraph_text paragraph ++ text) Separator (at_fields paragraphs fields) (at_fields done []) refl (separator comments at) refl (rw some refl) in
    let read = paragraph_read comments paragraph done (at + 1) text fits.0 in
    let others = more_read comments more done read.1 read.0 fits.1 read.3 in (
      record { fields = read.1 } ∷ others.0,
      λ i. record { fields = read.2 i } ∷ others.1 i,
      here ∙ read.4 ∙ others.2 ∙ ap (λ (ps : List Paragraph). Ok ps) (append_assoc paragraphs (record { fields = fields } ∷ []) (record { fields = read.1 } ∷ others.0)),
    )

nothing : scan start [] ≡ Ok []
unfolding scan
nothing = refl

pub reads_as : (paragraphs : List Paragraph) → is_writable paragraphs ≡ true → ReadsAs (text_of paragraphs) paragraphs
unfolding paragraphs_of lines_of is_writable text_of
reads_as [] fit comments = ([], sym (scan-start []) ∙ nothing, refl)
reads_as (paragraph ∷ more) fit comments =
    let fits = and_parts (is_writable_paragraph paragraph) (list_all is_writable_paragraph more) fit in
    let text = flat_map next_paragraph_text more in
    let read = paragraph_read comments paragraph [] 1 text fits.0 in
    let others = more_read comments more [] read.1 read.0 fits.1 read.3 in (
      record { fields = read.1 } ∷ others.0,
      sym (scan-start (lines_at comments 1 (paragraph_text paragraph ++ text))) ∙ read.4 ∙ others.2,
      λ i. record { fields = read.2 i } ∷ others.1 i,
    )
