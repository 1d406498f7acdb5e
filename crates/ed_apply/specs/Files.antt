-- The file that an `Edit` stands for.
use Rattle.std.specs.Prelude.{◌≡◌, ℕ, ◌≤◌, List, length, map, Option, IfSome}
use Rattle.std.specs.List.{concat}
use Rattle.ed_apply.specs.Edits.{file_lines, IsWholeLines}
use Rattle.ed_apply.specs.Segments.{numbers, count_of, AreBelow, known_lines, line_at, ends_from, open_line}
use Rattle.ed_apply.specs.declared.edit.Edit.{Edit}

-- the known lines of these numbers, one behind another
abbrev pub file_from : List ℕ → List ℕ → List ℕ → List ℕ
file_from old texts lines = concat (map (line_at (known_lines old texts)) lines)

unfoldable pub file_of : Edit → List ℕ → List ℕ
file_of edit old = file_from old edit.known.texts.items (numbers edit.layout.segments.items)

-- the lines are those of the old file and of the texts, and each of these numbers is one; the open line stands once
pub record Stands (old texts ends : List ℕ) (unended : Option ℕ) (lines : List ℕ) : Type 0 where
  pub ended : ends ≡ ends_from 0 (known_lines old texts)
  pub whole : IsWholeLines texts
  pub last : unended ≡ open_line (file_lines old)
  pub below : AreBelow (length (known_lines old texts)) lines
  pub once : IfSome unended (λ line. count_of line lines ≤ 1)

-- the edit began with this file
pub record IsOf (edit : Edit) (old : List ℕ) : Type 0 where
  pub stands : Stands old edit.known.texts.items edit.known.ends.items edit.layout.unended (numbers edit.layout.segments.items)
  pub size : edit.size ≡ length (file_of edit old)
