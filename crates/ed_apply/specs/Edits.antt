-- What an edit script makes of a file (`diff --ed`, and the commands a, c and d of ed, POSIX), in terms of lines.
use Rattle.std.specs.Prelude.{◌≡◌, ◌⊎◌, ℕ, ◌+◌, ◌<◌, ◌≤◌, ◌==◌, ◌&&◌, nat_le, if◌then◌else◌, List, [], ◌∷◌, ◌++◌, length, take, drop, All, Option, Some, None, option_map, option_and_then}
use Rattle.std.specs.List.{concat}
use Rattle.ed_apply.specs.declared.script.Hunk.{Hunk}
use Rattle.ed_apply.specs.declared.script.Script.{Script}
use Rattle.ed_apply.specs.declared.error.ApplyError.{ApplyError}
use Rattle.ed_apply.specs.declared.error.ApplyError.TheVariants.{Outside}

-- ---- the lines of a file

-- a byte other than a line feed belongs to the first line behind it
abbrev pub in_front : ℕ → List (List ℕ) → List (List ℕ)
in_front c [] = (c ∷ []) ∷ []
in_front c (line ∷ lines) = (c ∷ line) ∷ lines

-- the lines of a file, each with its line feed; a last piece without one is a line
abbrev pub file_lines : List ℕ → List (List ℕ)
file_lines [] = []
file_lines (c ∷ rest) = if c == 10 then (10 ∷ []) ∷ file_lines rest else in_front c (file_lines rest)

-- ---- sound scripts

-- empty, or ended by a line feed
abbrev pub IsWholeLines : List ℕ → Type 0
IsWholeLines text = (text ≡ []) ⊎ ((front : List ℕ) × (text ≡ front ++ 10 ∷ []))

pub record IsSoundHunk (hunk : Hunk) : Type 0 where
  pub order : hunk.from ≤ hunk.to
  pub text : IsWholeLines hunk.text

-- each hunk ends at the beginning of the one before it, or nearer the file's beginning
abbrev pub GoesDown : List Hunk → Type 0
GoesDown [] = Unit {0}
GoesDown (hunk ∷ []) = Unit {0}
GoesDown (hunk ∷ next ∷ more) = (next.to ≤ hunk.from) × GoesDown (next ∷ more)

pub record IsSound (script : Script) : Type 0 where
  pub hunks : All IsSoundHunk script.hunks
  pub order : GoesDown script.hunks

-- ---- the relation

-- One hunk on these lines, and the hunks behind it in the script on the lines before it: the old lines are those
-- before, those that give way and those kept behind; `from` lines stand before, and the last to give way is line `to`.
pub record IsEdited (hunk : Hunk) (others : List (List ℕ) → List ℕ → Type 0) (old : List (List ℕ)) (new : List ℕ) : Type 0 where
  pub before : List (List ℕ)
  pub replaced : List (List ℕ)
  pub kept : List (List ℕ)
  pub edited : List ℕ
  pub cut : old ≡ before ++ (replaced ++ kept)
  pub begins : length before ≡ hunk.from
  pub ends : length before + length replaced ≡ hunk.to
  pub above : others before edited
  pub whole : new ≡ edited ++ (hunk.text ++ concat kept)

-- what hunks, the last of the file first, make of lines
abbrev pub Edits : List Hunk → List (List ℕ) → List ℕ → Type 0
Edits [] old new = new ≡ concat old
Edits (hunk ∷ hunks) old new = IsEdited hunk (Edits hunks) old new

-- the script makes the new file of the old one
abbrev pub edited : List ℕ → Script → List ℕ → Type 0
edited old script new = Edits script.hunks (file_lines old) new

-- ---- the function

-- the same by cutting: the hunk's text between what the other hunks make of the lines before it, and the lines behind
abbrev pub applied_to : List Hunk → List (List ℕ) → Option (List ℕ)
applied_to [] old = Some (concat old)
applied_to (hunk ∷ hunks) old =
    if nat_le hunk.from hunk.to && nat_le hunk.to (length old)
    then option_map (λ edited. edited ++ (hunk.text ++ concat (drop hunk.to old))) (applied_to hunks (take hunk.from old))
    else None

-- the file that a script makes of a file, if it makes one
unfoldable pub applied : List ℕ → Script → Option (List ℕ)
applied old script = applied_to script.hunks (file_lines old)

-- scripts one after another
abbrev pub applied_all : List ℕ → List Script → Option (List ℕ)
applied_all old [] = Some old
applied_all old (script ∷ scripts) = option_and_then (λ new. applied_all new scripts) (applied old script)

-- ---- the refusal

-- the first hunk that reaches beyond so many lines
abbrev pub first_outside : ℕ → List Hunk → Option ApplyError
first_outside count [] = None
first_outside count (hunk ∷ hunks) = if nat_le hunk.to count then first_outside count hunks else Some (Outside hunk.at)

-- the hunk of this line is the first that reaches beyond so many lines
pub record IsFirstOutside (count : ℕ) (hunks : List Hunk) (at : ℕ) : Type 0 where
  pub before : List Hunk
  pub hunk : Hunk
  pub behind : List Hunk
  pub cut : hunks ≡ before ++ hunk ∷ behind
  pub inside : All (λ h. h.to ≤ count) before
  pub beyond : count < hunk.to
  pub line : hunk.at ≡ at

-- why a script makes no file of this one, if it makes none
unfoldable pub refusal : List ℕ → Script → Option ApplyError
refusal old script = first_outside (length (file_lines old)) script.hunks
