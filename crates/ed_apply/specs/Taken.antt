-- What the program's reader does with a line, memory aside.
use Rattle.std.specs.Prelude.{◌≡◌, ◌⊎◌, List, Result, Ok, Err}
use Rattle.ed_apply.specs.Grammar.{State}
use Rattle.ed_apply.specs.declared.reading.Phase.{Phase}
use Rattle.ed_apply.specs.declared.script.Hunk.{Hunk}
use Rattle.ed_apply.specs.declared.error.ScriptError.{ScriptError}
use Rattle.ed_apply.specs.declared.error.ScriptError.TheVariants.{NoMemory}

-- it comes to the expected state, or refuses what is refused
abbrev pub Takes : Result State ScriptError → Result Phase ScriptError → List Hunk → Type 0
Takes expected (Ok phase) hunks = expected ≡ Ok (record { hunks = hunks; phase = phase })
Takes expected (Err refusal) hunks = (refusal ≡ NoMemory) ⊎ (expected ≡ Err refusal)
