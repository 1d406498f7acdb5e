-- A scan of lines reads the groups between separators, and stops at the first fault of the first group that has one.
use Rattle.std.proofs.Common.{◌≡◌, ℕ, Bool, cond, List, [], ◌∷◌, ◌++◌, Option, Some, None, Result, Ok, refl, sym, ap, ◌∙◌, append_assoc}
use Rattle.std.specs.List.{onto_first}
use Rattle.std.proofs.lemmas.List.{append-nil}
use Rattle.deb822_text.specs.declared.paragraph.Field.{Field}
use Rattle.deb822_text.specs.declared.paragraph.Paragraph.{Paragraph}
use Rattle.deb822_text.specs.declared.error.TextError.{TextError}
use Rattle.deb822_text.specs.declared.error.TextError.TheVariants.{Twice, Loose}
use Rattle.deb822_text.specs.Control.{Line, Separator, Comment, Continuation, Named, Unknown, is_empty, groups_of, continued, fields_of, paragraphs_in, names_in, has_name, line_fault, or_else, fault_behind, first_fault, refused_or, reading_of}
use Rattle.deb822_text.specs.Names.{names_of}
use Rattle.deb822_text.specs.Scan.{State, start, add_line, closed, fault_at, step, unless, scan}

-- ---- the fields of a group that goes on

-- fields and continuations alone
abbrev AreFields : List Line → Type 0
AreFields [] = Unit {0}
AreFields (Separator ∷ lines) = ⊥
AreFields (Comment ∷ lines) = ⊥
AreFields (Continuation at text ∷ lines) = AreFields lines
AreFields (Named at name text ∷ lines) = AreFields lines
AreFields (Unknown at ∷ lines) = ⊥

-- the same, a field first
abbrev IsLed : List Line → Type 0
IsLed [] = Unit {0}
IsLed (Separator ∷ lines) = ⊥
IsLed (Comment ∷ lines) = ⊥
IsLed (Continuation at text ∷ lines) = ⊥
IsLed (Named at name text ∷ lines) = AreFields lines
IsLed (Unknown at ∷ lines) = ⊥

AreFields-more : (lines : List Line) (at : ℕ) (text : List ℕ) → AreFields lines → AreFields (lines ++ Continuation at text ∷ [])
AreFields-more [] at text h = tt
AreFields-more (Separator ∷ lines) at text h = h
AreFields-more (Comment ∷ lines) at text h = h
AreFields-more (Continuation a t ∷ lines) at text h = AreFields-more lines at text h
AreFields-more (Named a n t ∷ lines) at text h = AreFields-more lines at text h
AreFields-more (Unknown a ∷ lines) at text h = h

AreFields-next : (lines : List Line) (at : ℕ) (name text : List ℕ) → AreFields lines → AreFields (lines ++ Named at name text ∷ [])
AreFields-next [] at name text h = tt
AreFields-next (Separator ∷ lines) at name text h = h
AreFields-next (Comment ∷ lines) at name text h = h
AreFields-next (Continuation a t ∷ lines) at name text h = AreFields-next lines at name text h
AreFields-next (Named a n t ∷ lines) at name text h = AreFields-next lines at name text h
AreFields-next (Unknown a ∷ lines) at name text h = h

IsLed-next : (lines : List Line) (at : ℕ) (name text : List ℕ) → IsLed lines → IsLed (lines ++ Named at name text ∷ [])
IsLed-next [] at name text h = tt
IsLed-next (Separator ∷ lines) at name text h = h
IsLed-next (Comment ∷ lines) at name text h = h
IsLed-next (Continuation a t ∷ lines) at name text h = h
IsLed-next (Named a n t ∷ lines) at name text h = AreFields-next lines at name text h
IsLed-next (Unknown a ∷ lines) at name text h = h

-- a field keeps its continuations where another field follows
continued-next : (lines : List Line) (at : ℕ) (name text : List ℕ) → continued (lines ++ Named at name text ∷ []) ≡ continued lines
continued-next [] at name text = refl
continued-next (Separator ∷ lines) at name text = refl
continued-next (Comment ∷ lines) at name text = refl
continued-next (Continuation a t ∷ lines) at name text = ap (λ (ts : List (List ℕ)). t ∷ ts) (continued-next lines at name text)
continued-next (Named a n t ∷ lines) at name text = refl
continued-next (Unknown a ∷ lines) at name text = refl

fields_of-next : (lines : List Line) (at : ℕ) (name text : List ℕ) → fields_of (lines ++ Named at name text ∷ []) ≡ fields_of lines ++ record { name = name; lines = text ∷ []; at = at } ∷ []
fields_of-next [] at name text = refl
fields_of-next (Separator ∷ lines) at name text = fields_of-next lines at name text
fields_of-next (Comment ∷ lines) at name text = fields_of-next lines at name text
fields_of-next (Continuation a t ∷ lines) at name text = fields_of-next lines at name text
fields_of-next (Named a n t ∷ lines) at name text = λ i. record { name = n; lines = t ∷ continued-next lines at name text i; at = a } ∷ fields_of-next lines at name text i
fields_of-next (Unknown a ∷ lines) at name text = fields_of-next lines at name text

-- one more line in front of those of the first field
abbrev fronted : List ℕ → List Field → List Field
fronted text [] = []
fronted text (field ∷ fields) = record field { lines = text ∷ field.lines } ∷ fields

fronted-add : (front text : List ℕ) (field : Field) (fields : List Field) → fronted front (add_line (field ∷ fields) text) ≡ add_line (fronted front (field ∷ fields)) text
fronted-add front text field [] = refl
fronted-add front text field (next ∷ more) = refl

fields_of-more : (a : ℕ) (n t : List ℕ) (lines : List Line) (at : ℕ) (text : List ℕ) → AreFields lines → fields_of (Named a n t ∷ lines ++ Continuation at text ∷ []) ≡ add_line (fields_of (Named a n t ∷ lines)) text
fields_of-more a n t [] at text h = refl
fields_of-more a n t (Separator ∷ lines) at text h = absurd h
fields_of-more a n t (Comment ∷ lines) at text h = absurd h
fields_of-more a n t (Continuation b u ∷ lines) at text h = ap (fronted t) (fields_of-more a n u lines at text h) ∙ fronted-add t text (record { name = n; lines = u ∷ continued lines; at = a }) (fields_of lines)
fields_of-more a n t (Named b m u ∷ lines) at text h = ap (λ (fields : List Field). record { name = n; lines = t ∷ []; at = a } ∷ fields) (fields_of-more b m u lines at text h)
fields_of-more a n t (Unknown b ∷ lines) at text h = absurd h

-- ---- the fault of the next line

names_in-fields : (lines : List Line) → names_in lines ≡ names_of (fields_of lines)
names_in-fields [] = refl
names_in-fields (Separator ∷ lines) = names_in-fields lines
names_in-fields (Comment ∷ lines) = names_in-fields lines
names_in-fields (Continuation at text ∷ lines) = names_in-fields lines
names_in-fields (Named at name text ∷ lines) = ap (λ (names : List (List ℕ)). name ∷ names) (names_in-fields lines)
names_in-fields (Unknown at ∷ lines) = names_in-fields lines

is_empty-names : (fields : List Field) → is_empty (names_of fields) ≡ is_empty fields
is_empty-names [] = refl
is_empty-names (field ∷ fields) = refl

fault_at-fields : (before : List Line) (line : Line) → fault_at (fields_of before) line ≡ line_fault before line
fault_at-fields before Separator = refl
fault_at-fields before Comment = refl
fault_at-fields before (Continuation at text) = ap (λ (b : Bool). cond b (Some (Loose at)) None) (sym (is_empty-names (fields_of before)) ∙ ap is_empty (sym (names_in-fields before)))
fault_at-fields before (Named at name text) = ap (λ (names : List (List ℕ)). cond (has_name names name) (Some (Twice at)) None) (sym (names_in-fields before))
fault_at-fields before (Unknown at) = refl

-- ---- groups, the front of the first one told apart

abbrev joined : List Line → List (List Line) → List (List Line)
joined before [] = before ∷ []
joined before (group ∷ groups) = (before ++ group) ∷ groups

abbrev fault_joined : List Line → List (List Line) → Option TextError
fault_joined before [] = None
fault_joined before (group ∷ groups) = or_else (fault_behind before group) (first_fault groups)

or_else-none : (o : Option TextError) → or_else o None ≡ o
or_else-none None = refl
or_else-none (Some fault) = refl

or_else-assoc : (a b c : Option TextError) → or_else (or_else a b) c ≡ or_else a (or_else b c)
or_else-assoc None b c = refl
or_else-assoc (Some fault) b c = refl

fault_joined-onto : (before : List Line) (line : Line) (groups : List (List Line)) → fault_joined before (onto_first line groups) ≡ or_else (line_fault before line) (fault_joined (before ++ line ∷ []) groups)
fault_joined-onto before line [] = or_else-none (or_else (line_fault before line) None)
fault_joined-onto before line (group ∷ groups) = or_else-assoc (line_fault before line) (fault_behind (before ++ line ∷ []) group) (first_fault groups)

joined-onto : (before : List Line) (line : Line) (groups : List (List Line)) → joined before (onto_first line groups) ≡ joined (before ++ line ∷ []) groups
joined-onto before line [] = refl
joined-onto before line (group ∷ groups) = ap (λ (g : List Line). g ∷ groups) (sym (append_assoc before (line ∷ []) group))

fault_joined-nil : (groups : List (List Line)) → fault_joined [] groups ≡ first_fault groups
fault_joined-nil [] = refl
fault_joined-nil (group ∷ groups) = refl

paragraphs_in-joined_nil : (groups : List (List Line)) → paragraphs_in (joined [] groups) ≡ paragraphs_in groups
paragraphs_in-joined_nil [] = refl
paragraphs_in-joined_nil (group ∷ groups) = refl

paragraphs_in-first : (group : List Line) (groups : List (List Line)) → paragraphs_in (group ∷ groups) ≡ paragraphs_in (group ∷ []) ++ paragraphs_in groups
paragraphs_in-first [] groups = refl
paragraphs_in-first (line ∷ lines) groups = refl

abbrev at_group : List Paragraph → List Line → State
at_group done before = record { paragraphs = done; fields = fields_of before }

closed-group : (done : List Paragraph) (before : List Line) → IsLed before → closed (at_group done before) ≡ done ++ paragraphs_in (before ∷ [])
closed-group done [] led = sym (append-nil done)
closed-group done (Separator ∷ lines) led = absurd led
closed-group done (Comment ∷ lines) led = absurd led
closed-group done (Continuation at text ∷ lines) led = absurd led
closed-group done (Named at name text ∷ lines) led = refl
closed-group done (Unknown at ∷ lines) led = absurd led

-- the value and the fault where the first group goes on
abbrev reading_behind : List Paragraph → List Line → List (List Line) → Result (List Paragraph) TextError
reading_behind done before groups = refused_or (fault_joined before groups) (done ++ paragraphs_in (joined before groups))

-- a line that belongs to the group
one_more : (done : List Paragraph) (before : List Line) (line : Line) (groups : List (List Line)) (next : Result (List Paragraph) TextError)
    → (line_fault before line ≡ None → next ≡ reading_behind done (before ++ line ∷ []) groups)
    → unless (fault_at (fields_of before) line) next ≡ reading_behind done before (onto_first line groups)
one_more done before line groups next then =
    ap (λ (o : Option TextError). unless o next) (fault_at-fields before line) ∙ cases (line_fault before line) then
    ∙ λ i. refused_or (sym (fault_joined-onto before line groups) i) (done ++ paragraphs_in (sym (joined-onto before line groups) i))
  where
    cases : (o : Option TextError) → (o ≡ None → next ≡ reading_behind done (before ++ line ∷ []) groups)
        → unless o next ≡ refused_or (or_else o (fault_joined (before ++ line ∷ []) groups)) (done ++ paragraphs_in (joined (before ++ line ∷ []) groups))
    cases None then = then refl
    cases (Some fault) then = refl

-- a continuation without a fault stands behind a field
more_led : (done : List Paragraph) (before : List Line) (at : ℕ) (text : List ℕ) → IsLed before → line_fault before (Continuation at text) ≡ None
    → IsLed (before ++ Continuation at text ∷ []) × (step (at_group done before) (Continuation at text) ≡ at_group done (before ++ Continuation at text ∷ []))
more_led done [] at text led fine = absurd cc
more_led done (Separator ∷ lines) at text led fine = absurd led
more_led done (Comment ∷ lines) at text led fine = absurd led
more_led done (Continuation a t ∷ lines) at text led fine = absurd led
more_led done (Named a n t ∷ lines) at text led fine = (AreFields-more lines at text led, λ i. record { paragraphs = done; fields = sym (fields_of-more a n t lines at text led) i })
more_led done (Unknown a ∷ lines) at text led fine = absurd led

scan-reading : (lines : List Line) (done : List Paragraph) (before : List Line) → IsLed before → scan (at_group done before) lines ≡ reading_behind done before (groups_of lines)
unfolding scan
scan-reading [] done before led = ap (λ (ps : List Paragraph). Ok ps) (closed-group done before led ∙ λ i. done ++ paragraphs_in (sym (append-nil before) i ∷ []))
scan-reading (Separator ∷ lines) done before led =
    let groups = groups_of lines in
    let value : (closed (at_group done before)) ++ paragraphs_in (joined [] groups) ≡ done ++ paragraphs_in ((before ++ []) ∷ groups) =
    (λ i. closed-group done before led i ++ paragraphs_in-joined_nil groups i) ∙ append_assoc done (paragraphs_in (before ∷ [])) (paragraphs_in groups)
    ∙ ap (λ (ps : List Paragraph). done ++ ps) (sym (paragraphs_in-first before groups)) ∙ λ i. done ++ paragraphs_in (sym (append-nil before) i ∷ groups) in
    scan-reading lines (closed (at_group done before)) [] tt ∙ λ i. refused_or (fault_joined-nil groups i) (value i)
scan-reading (Comment ∷ lines) done before led = scan-reading lines done before led
scan-reading (Continuation at text ∷ lines) done before led =
    one_more done before (Continuation at text) (groups_of lines) (scan (step (at_group done before) (Continuation at text)) lines)
    (λ fine. let more = more_led done before at text led fine in ap (λ (s : State). scan s lines) more.1 ∙ scan-reading lines done (before ++ Continuation at text ∷ []) more.0)
scan-reading (Named at name text ∷ lines) done before led =
    one_more done before (Named at name text) (groups_of lines) (scan (step (at_group done before) (Named at name text)) lines)
    (λ fine. (λ i. scan (record { paragraphs = done; fields = sym (fields_of-next before at name text) i }) lines) ∙ scan-reading lines done (before ++ Named at name text ∷ []) (IsLed-next before at name text led))
scan-reading (Unknown at ∷ lines) done before led =
    one_more done before (Unknown at) (groups_of lines) (scan (step (at_group done before) (Unknown at)) lines) (λ fine. absurd cc)

-- a scan from the start is the reading
pub scan-start : (lines : List Line) → scan start lines ≡ reading_of lines
unfolding reading_of
scan-start lines =
    scan-reading lines [] [] tt ∙ λ i. refused_or (fault_joined-nil (groups_of lines) i) (paragraphs_in-joined_nil (groups_of lines) i)
