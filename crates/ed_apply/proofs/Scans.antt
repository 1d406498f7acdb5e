-- Going line by line: what the rest of a scan is after a line, where it stops, and at its end.
use Rattle.std.proofs.Common.{◌≡◌, ◌∙◌, ℕ, ◌+◌, ◌⊎◌, List, ◌∷◌, length, Result, Ok, Err, inl, inr, sym, ap}
use Rattle.std.proofs.lemmas.List.{nil_from_length}
use Rattle.ed_apply.specs.Edits.{file_lines}
use Rattle.ed_apply.specs.Grammar.{State, without_feed, on_line, at_end, and_then, scanned}
use Rattle.ed_apply.specs.declared.script.Script.{Script}
use Rattle.ed_apply.specs.declared.error.ScriptError.{ScriptError}
use Rattle.ed_apply.specs.declared.error.ScriptError.TheVariants.{NoMemory}

abbrev pub refused : ScriptError → Result Script ScriptError
refused refusal = Err refusal

first_line : (state : State) (at : ℕ) (text line rest : List ℕ) → file_lines text ≡ line ∷ file_lines rest → scanned state at (file_lines text) ≡ and_then (on_line state at (without_feed line)) (λ next. scanned next (at + 1) (file_lines rest))
first_line state at text line rest first = ap (scanned state at) first

pub goes_on : (state next : State) (at : ℕ) (text line rest : List ℕ) (total : Result Script ScriptError) → file_lines text ≡ line ∷ file_lines rest → on_line state at (without_feed line) ≡ Ok next → scanned state at (file_lines text) ≡ total → scanned next (at + 1) (file_lines rest) ≡ total
goes_on state next at text line rest total first is so_far =
    sym (ap (λ r. and_then r (λ next. scanned next (at + 1) (file_lines rest))) is) ∙ sym (first_line state at text line rest first) ∙ so_far

pub refuses : (state : State) (at : ℕ) (text line rest : List ℕ) (refusal : ScriptError) (total : Result Script ScriptError) → file_lines text ≡ line ∷ file_lines rest → (refusal ≡ NoMemory) ⊎ (on_line state at (without_feed line) ≡ Err refusal) → scanned state at (file_lines text) ≡ total → (refused refusal ≡ refused NoMemory) ⊎ (refused refusal ≡ total)
refuses state at text line rest refusal total first (inl memory) so_far = inl (ap refused memory)
refuses state at text line rest refusal total first (inr is) so_far =
    inr (sym (ap (λ r. and_then r (λ next. scanned next (at + 1) (file_lines rest))) is) ∙ sym (first_line state at text line rest first) ∙ so_far)

pub ends : (state : State) (at : ℕ) (text : List ℕ) (result total : Result Script ScriptError) → length text ≡ 0 → (result ≡ refused NoMemory) ⊎ (result ≡ at_end state.hunks state.phase) → scanned state at (file_lines text) ≡ total → (result ≡ refused NoMemory) ⊎ (result ≡ total)
ends state at text result total none (inl memory) so_far = inl memory
ends state at text result total none (inr is) so_far =
    inr (is ∙ sym (ap (λ t. scanned state at (file_lines t)) (nil_from_length text none)) ∙ so_far)
