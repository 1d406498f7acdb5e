-- Going line by line: what the rest of a scan is after a step, where it stops, and at its end.
use Rattle.std.proofs.Common.{◌≡◌, ℕ, ◌+◌, Bool, List, [], ◌∷◌, length, Option, Some, None, Result, Ok, Err, ◌⊎◌, inl, inr, refl, sym, ap, ◌∙◌}
use Rattle.std.specs.Str.Lines.{lines as text_lines}
use Rattle.std.proofs.lemmas.List.{nil_from_length}
use Rattle.deb822_text.specs.declared.paragraph.Paragraph.{Paragraph}
use Rattle.deb822_text.specs.declared.error.TextError.{TextError}
use Rattle.deb822_text.specs.declared.error.TextError.TheVariants.{NoMemory}
use Rattle.deb822_text.specs.Control.{Line, Separator, or_else, line_of, lines_from}
use Rattle.deb822_text.specs.Names.{repeated}
use Rattle.deb822_text.specs.Scan.{State, fault_at, step, unless, scan, closed, owed, GoesOn}
use Rattle.deb822_text.proofs.Steps.{or_else-none, repeated-none}

abbrev pub refused : TextError → Result (List Paragraph) TextError
refused fault = Err fault

-- what is left of a scan, where the names of the open paragraph may owe a fault
abbrev pub rest_of : State → Bool → ℕ → List ℕ → Result (List Paragraph) TextError
rest_of state comments at text = unless (repeated state.fields) (scan state (lines_from comments at (text_lines text)))

unless-or_else : (a b : Option TextError) (result : Result (List Paragraph) TextError) → unless a (unless b result) ≡ unless (or_else a b) result
unless-or_else None b result = refl
unless-or_else (Some fault) b result = refl

-- the first line, and then the others
on_line : (state : State) (comments : Bool) (at : ℕ) (text line rest : List ℕ) (kind : Line) → text_lines text ≡ line ∷ text_lines rest → kind ≡ line_of comments at line
    → rest_of state comments at text ≡ unless (owed state kind) (scan (step state kind) (lines_from comments (at + 1) (text_lines rest)))
unfolding scan
on_line state comments at text line rest kind first is =
    let lines : lines_from comments at (text_lines text) ≡ kind ∷ lines_from comments (at + 1) (text_lines rest) = rw (first, is) refl in
    ap (λ (ls : List Line). unless (repeated state.fields) (scan state ls)) lines
    ∙ unless-or_else (repeated state.fields) (fault_at state.fields kind) (scan (step state kind) (lines_from comments (at + 1) (text_lines rest)))

pub goes_on : (state new : State) (comments : Bool) (at : ℕ) (text line rest : List ℕ) (kind : Line) (total : Result (List Paragraph) TextError) → text_lines text ≡ line ∷ text_lines rest → kind ≡ line_of comments at line
    → GoesOn state kind new → rest_of state comments at text ≡ total → rest_of new comments (at + 1) rest ≡ total
goes_on state new comments at text line rest kind total first is going so_far =
    (λ i. unless (going.0 i) (scan (going.1 i) (lines_from comments (at + 1) (text_lines rest)))) ∙ sym (on_line state comments at text line rest kind first is) ∙ so_far

pub ends : (state new : State) (comments : Bool) (at : ℕ) (text : List ℕ) (total : Result (List Paragraph) TextError) → length text ≡ 0 → GoesOn state Separator new → rest_of state comments at text ≡ total → Ok new.paragraphs ≡ total
unfolding scan
ends state new comments at text total none going so_far =
    let nothing : text ≡ [] = nil_from_length text none in
    let owes_none : repeated state.fields ≡ None = sym (or_else-none (repeated state.fields)) ∙ sym going.0 ∙ (λ i. repeated (going.1 i).fields) ∙ repeated-none in
    let one : rest_of state comments at text ≡ Ok (closed state) = rw (nothing, owes_none) refl in
    ap (λ (s : State). Ok s.paragraphs) going.1 ∙ sym one ∙ so_far

-- a step that is refused ends the scan, unless memory ran out
pub refuses : (state : State) (comments : Bool) (at : ℕ) (text line rest : List ℕ) (kind : Line) (fault : TextError) (total : Result (List Paragraph) TextError) → text_lines text ≡ line ∷ text_lines rest → kind ≡ line_of comments at line
    → (fault ≡ NoMemory) ⊎ (owed state kind ≡ Some fault) → rest_of state comments at text ≡ total → (refused fault ≡ refused NoMemory) ⊎ (refused fault ≡ total)
refuses state comments at text line rest kind fault total first is (inl memory) so_far = inl (ap refused memory)
refuses state comments at text line rest kind fault total first is (inr faulty) so_far =
    inr (sym (ap (λ (o : Option TextError). unless o (scan (step state kind) (lines_from comments (at + 1) (text_lines rest)))) faulty) ∙ sym (on_line state comments at text line rest kind first is) ∙ so_far)
