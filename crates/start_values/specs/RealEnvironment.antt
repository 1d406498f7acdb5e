-- What the system's answer for a variable means.
use Rattle.std.specs.Prelude.{Option, Some, None, Result, Ok, Err}
use Rattle.std.specs.declared.env.VarError.{VarError}
use Rattle.std.specs.declared.env.VarError.TheVariants.{NotPresent, NotUnicode, OutOfMemory}
use Rattle.start_values.specs.declared.environment.Unread.{Unread}
use Rattle.start_values.specs.declared.environment.Unread.TheVariants.{NotText, NoMemory}

abbrev pub value_of : {T : Type 0} → Result T VarError → Result (Option T) Unread
value_of (Ok value) = Ok (Some value)
value_of (Err NotPresent) = Ok None
value_of (Err NotUnicode) = Err NotText
value_of (Err OutOfMemory) = Err NoMemory
