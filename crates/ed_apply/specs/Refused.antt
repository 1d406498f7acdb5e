-- The refusals of scripts: their numbers and lines.
use Rattle.std.specs.Prelude.{ℕ}
use Rattle.ed_apply.specs.declared.error.ScriptError.{ScriptError}
use Rattle.ed_apply.specs.declared.error.ScriptError.TheVariants as script
use Rattle.ed_apply.specs.declared.error.ApplyError.{ApplyError}
use Rattle.ed_apply.specs.declared.error.ApplyError.TheVariants.{Outside, NoMemory}

abbrev pub script_number : ScriptError → ℕ
script_number (script.BadCommand line) = 25
script_number (script.NotDown line) = 26
script_number script.NoDot = 27
script_number script.NoMemory = 0

abbrev pub script_line : ScriptError → ℕ
script_line (script.BadCommand line) = line
script_line (script.NotDown line) = line
script_line script.NoDot = 0
script_line script.NoMemory = 0

abbrev pub apply_number : ApplyError → ℕ
apply_number (Outside line) = 28
apply_number NoMemory = 0

abbrev pub apply_line : ApplyError → ℕ
apply_line (Outside line) = line
apply_line NoMemory = 0
