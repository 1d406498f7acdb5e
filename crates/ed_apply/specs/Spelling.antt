-- How hunks are spelled as lines of a script, as `diff --ed` writes them (ed, POSIX), and where lines are no script.
use Rattle.std.specs.Prelude.{◌≡◌, ◌≢◌, ℕ, ◌+◌, true, false, List, [], ◌∷◌, ◌++◌, length, map, codes, Some}
use Rattle.std.specs.List.{flat_map, AllByRecursion as Each}
use Rattle.ed_apply.specs.Edits.{file_lines, GoesDown}
use Rattle.ed_apply.specs.Grammar.{without_feed, command_of}
use Rattle.ed_apply.specs.declared.script.Hunk.{Hunk}
use Rattle.ed_apply.specs.declared.script.Script.{Script}

-- ---- texts

-- A text as it is written: lines up to a `.`. In place of a line that is `.` itself stands `..`, and behind the `.` the
-- line `s/.//`; where the text has more lines, the line `a` and these follow.
pub data Text : Type 0 where
  Plain : (lines : List (List ℕ)) → Text
  Dotted : (lines : List (List ℕ)) → Text
  DottedMore : (lines : List (List ℕ)) → (more : Text) → Text

abbrev pub written : Text → List (List ℕ)
written (Plain lines) = lines ++ codes "." ∷ []
written (Dotted lines) = lines ++ codes ".." ∷ codes "." ∷ codes "s/.//" ∷ []
written (DottedMore lines more) = lines ++ codes ".." ∷ codes "." ∷ codes "s/.//" ∷ codes "a" ∷ written more

-- the lines that it says
abbrev pub said : Text → List (List ℕ)
said (Plain lines) = lines
said (Dotted lines) = lines ++ codes "." ∷ []
said (DottedMore lines more) = lines ++ codes "." ∷ said more

-- no line that is written within it is `.`, which would end it
abbrev pub IsWritable : Text → Type 0
IsWritable (Plain lines) = Each (λ line. line ≢ codes ".") lines
IsWritable (Dotted lines) = Each (λ line. line ≢ codes ".") lines
IsWritable (DottedMore lines more) = Each (λ line. line ≢ codes ".") lines × IsWritable more

-- each line with its line feed
abbrev pub with_feeds : List (List ℕ) → List ℕ
with_feeds lines = flat_map (λ line. line ++ 10 ∷ []) lines

-- ---- scripts

-- a hunk as it is written: a command that removes lines, or one with a text
pub data Spelling : Type 0 where
  Removes : (command : List ℕ) → Spelling
  Puts : (command : List ℕ) → (text : Text) → Spelling

abbrev pub spelled_lines : Spelling → List (List ℕ)
spelled_lines (Removes command) = command ∷ []
spelled_lines (Puts command text) = command ∷ written text

-- it spells the hunk, from the line of this number on
abbrev pub Spells : Spelling → ℕ → Hunk → Type 0
Spells (Removes command) at hunk =
    (command_of command ≡ Some (record { from = hunk.from; to = hunk.to; adds = false })) × (hunk.text ≡ []) × (hunk.at ≡ at)
Spells (Puts command text) at hunk =
    (command_of command ≡ Some (record { from = hunk.from; to = hunk.to; adds = true }))
    × IsWritable text × (hunk.text ≡ with_feeds (said text)) × (hunk.at ≡ at)

-- these spell these hunks, one behind another
abbrev pub AreSpelled : List Spelling → ℕ → List Hunk → Type 0
AreSpelled [] at [] = Unit {0}
AreSpelled (s ∷ ss) at (hunk ∷ hunks) = Spells s at hunk × AreSpelled ss (at + length (spelled_lines s)) hunks
AreSpelled _ at _ = ⊥

-- the lines are those of the script, whose hunks go down
pub record IsSpelled (lines : List (List ℕ)) (script : Script) : Type 0 where
  pub spellings : List Spelling
  pub cut : lines ≡ flat_map spelled_lines spellings
  pub hunks : AreSpelled spellings 1 script.hunks
  pub down : GoesDown script.hunks

-- the lines of a text, without their line feeds
abbrev pub lines_within : List ℕ → List (List ℕ)
lines_within bytes = map without_feed (file_lines bytes)

-- ---- no scripts

-- the line of this number is refused: the lines before it are a script, and no script begins with them and it
pub record IsRefusedAt (lines : List (List ℕ)) (at : ℕ) : Type 0 where
  pub front : List (List ℕ)
  pub line : List ℕ
  pub rest : List (List ℕ)
  pub cut : lines ≡ front ++ line ∷ rest
  pub number : at ≡ length front + 1
  pub script : Script
  pub before : IsSpelled front script
  pub none : (more : List (List ℕ)) (other : Script) → IsSpelled (front ++ line ∷ more) other → ⊥

-- the lines are no script, and with a `.` behind them they are one
pub record IsUnended (lines : List (List ℕ)) : Type 0 where
  pub none : (other : Script) → IsSpelled lines other → ⊥
  pub script : Script
  pub ended : IsSpelled (lines ++ codes "." ∷ []) script
