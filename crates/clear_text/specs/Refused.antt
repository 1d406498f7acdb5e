-- Why lines are no frame (RFC 9580, section 7), in terms of all frames.
use Rattle.std.specs.Prelude.{◌≡◌, ◌≢◌, ◌⊎◌, ℕ, ◌+◌, List, [], ◌∷◌, ◌++◌, length, Option, Some, None}
use Rattle.clear_text.specs.Frame.{begin_line, IsFrame, ended}
use Rattle.clear_text.specs.declared.error.FrameError.{FrameError}
use Rattle.clear_text.specs.declared.error.FrameError.TheVariants.{BadFrame, NoMemory}

-- some frame begins with these lines
abbrev pub CanBegin : List (List ℕ) → Type 0
CanBegin lines = (more : List (List ℕ)) × (text : List (List ℕ)) × IsFrame (lines ++ more) text

-- lines that a frame can begin with, and that are none
pub record EndsEarly (lines : List (List ℕ)) : Type 0 where
  pub begun : CanBegin lines
  pub open_ended : (text : List (List ℕ)) → IsFrame lines text → ⊥

-- the first line behind which no frame can go on
pub record IsFirstBad (lines : List (List ℕ)) (at : ℕ) : Type 0 where
  pub before : List (List ℕ)
  pub line : List ℕ
  pub behind : List (List ℕ)
  pub split : lines ≡ before ++ line ∷ behind
  pub number : at ≡ length before + 1
  pub begun : CanBegin before
  pub refused : CanBegin (before ++ line ∷ []) → ⊥

abbrev pub IsRefused : List (List ℕ) → FrameError → Type 0
IsRefused lines (BadFrame at) = ((at ≡ 0) × EndsEarly lines) ⊎ IsFirstBad lines at
IsRefused lines NoMemory = ⊥

-- the first line isn't the one that begins a frame, or there is none
abbrev pub IsPlain : List (List ℕ) → Type 0
IsPlain [] = Unit {0}
IsPlain (line ∷ lines) = line ≢ begin_line

-- what is told of lines: that they are plain, or the text within their frame
abbrev pub IsUnframedOf : List (List ℕ) → Option (List ℕ) → Type 0
IsUnframedOf lines None = IsPlain lines
IsUnframedOf lines (Some bytes) = (text : List (List ℕ)) × IsFrame lines text × (bytes ≡ ended text)

abbrev pub refusal_number : FrameError → ℕ
refusal_number (BadFrame line) = 33
refusal_number NoMemory = 0

abbrev pub refusal_line : FrameError → ℕ
refusal_line (BadFrame line) = line
refusal_line NoMemory = 0
