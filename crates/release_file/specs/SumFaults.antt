-- Which sum line no reading allows, in terms of all lines above it.
use Rattle.std.specs.Prelude.{◌≡◌, ◌≢◌, ◌⊎◌, ℕ, ◌+◌, List, [], ◌∷◌, ◌++◌, length, Any, Option, Some, None}
use Rattle.deb822_text.specs.declared.paragraph.Field.{Field}
use Rattle.release_file.specs.Release.{listed_of_line, entries_in}
use Rattle.release_file.specs.declared.release.Listed.{Listed}

-- two entries give one path two sums
abbrev pub Contradicts : Listed → Listed → Type 0
Contradicts a b = (a.path ≡ b.path) × (a.sum ≢ b.sum)

-- no reading allows the line below these lines: each reading of it, if there is one, contradicts what one of them says
abbrev pub IsBadLine : List (List ℕ) → List ℕ → Type 0
IsBadLine above line = (entry : Listed) → listed_of_line line ≡ Some entry → Any (λ other. Contradicts other entry) (entries_in above)

-- each of the lines reads, and contradicts none above it
abbrev pub AreAllowed : List (List ℕ) → Type 0
AreAllowed lines = (above : List (List ℕ)) (line : List ℕ) (below : List (List ℕ)) → lines ≡ above ++ line ∷ below → IsBadLine above line → ⊥

-- the line at the place is bad, and each line above it is allowed
pub record IsFirstBad (lines : List (List ℕ)) (place : ℕ) : Type 0 where
  pub above : List (List ℕ)
  pub line : List ℕ
  pub below : List (List ℕ)
  pub split : lines ≡ above ++ line ∷ below
  pub number : place ≡ length above
  pub refused : IsBadLine above line
  pub allowed : AreAllowed above

-- the first line of the field isn't empty, or a sum line is bad and none above it is
abbrev pub IsBadSums : List (List ℕ) → ℕ → ℕ → Type 0
IsBadSums [] at line = line ≡ at
IsBadSums (first ∷ lines) at line = ((line ≡ at) × (first ≢ [])) ⊎ ((first ≡ []) × (place : ℕ) × (line ≡ at + 1 + place) × IsFirstBad lines place)

abbrev pub HasBadSums : Option Field → ℕ → Type 0
HasBadSums None line = ⊥
HasBadSums (Some field) line = IsBadSums field.lines field.at line
