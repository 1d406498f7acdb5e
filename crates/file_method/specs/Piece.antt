-- What is read of a file at once.
use Rattle.std.specs.Prelude.{◌≡◌, ◌⊎◌, ℕ, ◌≤◌, List, [], ◌∷◌, length, take, drop, Option, unwrap_or}
use Rattle.acq_outside.specs.declared.word.Word.{Word}
use Rattle.acq_outside.specs.declared.word.Word.TheVariants.{Piece, Done}

-- what a file has from a place on; one that isn't there has nothing
abbrev pub rest_of : Option (List ℕ) → ℕ → List ℕ
rest_of content at = drop at (unwrap_or content [])

-- bytes of a file from a place on, at most so many, and none only where there are none or none is wanted
pub record IsPart (content : Option (List ℕ)) (at most : ℕ) (bytes : List ℕ) : Type 0 where
  pub bytes_are : bytes ≡ take (length bytes) (rest_of content at)
  pub within : length bytes ≤ length (rest_of content at)
  pub ends : length bytes ≡ 0 → (most ≡ 0) ⊎ (rest_of content at ≡ [])

-- no bytes are the end
abbrev pub word_of : ℕ → List ℕ → Word
word_of at [] = Done at
word_of at (byte ∷ bytes) = Piece at (byte ∷ bytes)
