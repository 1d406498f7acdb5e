-- What it is for an edit script to lead from one list to another.
use Rattle.std.specs.Prelude.{ℕ, List}
use Rattle.ed_apply.specs.Edits.{edited}
use Rattle.ed_apply.specs.Spelling.{IsSpelled, lines_within}
use Rattle.ed_apply.specs.declared.script.Script.{Script}

-- the patch's lines spell a script (POSIX ed, as `diff --ed` writes it), which makes the later list of the earlier one
pub record IsPatch (patch earlier later : List ℕ) : Type 0 where
  pub script : Script
  pub spelled : IsSpelled (lines_within patch) script
  pub makes : edited earlier script later
