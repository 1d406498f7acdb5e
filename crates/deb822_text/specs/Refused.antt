-- Which line of a control text no reading allows (Debian Policy, section 5.1), in terms of all lines before it.
use Rattle.std.specs.Prelude.{◌≡◌, ℕ, List, [], ◌∷◌, ◌++◌, Any}
use Rattle.std.specs.List.{after_last}
use Rattle.std.specs.Str.{str_to_ascii_lowercase}
use Rattle.deb822_text.specs.declared.error.TextError.{TextError}
use Rattle.deb822_text.specs.declared.error.TextError.TheVariants.{BadField, Twice, Loose}
use Rattle.deb822_text.specs.Control.{Line, Separator, Comment, Continuation, Named, Unknown, is_separator, names_in}

-- the names of the fields behind the last separator
abbrev pub names_behind : List Line → List (List ℕ)
names_behind before = names_in (after_last is_separator before)

-- the two names are one, ASCII case aside
abbrev pub IsSameName : List ℕ → List ℕ → Type 0
IsSameName a b = str_to_ascii_lowercase a ≡ str_to_ascii_lowercase b

-- no reading allows the line behind these lines of the text: it is of no kind, or a field whose name the paragraph
-- already has, or a continuation without a field before it in the paragraph
abbrev pub IsFault : List Line → Line → TextError → Type 0
IsFault before Separator fault = ⊥
IsFault before Comment fault = ⊥
IsFault before (Continuation at text) fault = (fault ≡ Loose at) × (names_behind before ≡ [])
IsFault before (Named at name text) fault = (fault ≡ Twice at) × Any (λ other. IsSameName other name) (names_behind before)
IsFault before (Unknown at) fault = fault ≡ BadField at

-- each of the lines is allowed behind those before it
abbrev pub AreAllowed : List Line → Type 0
AreAllowed lines = (before : List Line) (line : Line) (behind : List Line) (fault : TextError) → lines ≡ before ++ line ∷ behind → IsFault before line fault → ⊥

-- the fault is that of a line, and each line before it is allowed
pub record IsFirstFault (lines : List Line) (fault : TextError) : Type 0 where
  pub before : List Line
  pub line : Line
  pub behind : List Line
  pub split : lines ≡ before ++ line ∷ behind
  pub refused : IsFault before line fault
  pub allowed : AreAllowed before
