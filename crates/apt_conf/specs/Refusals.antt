-- The numbers and lines of refusals.
use Rattle.std.specs.Prelude.{ℕ}
use Rattle.apt_conf.specs.declared.error.ConfError.{ConfError}
use Rattle.apt_conf.specs.declared.error.ConfError.TheVariants.{LongFile, BadConf, BadValue, NoMemory}

abbrev pub refusal_number : ConfError → ℕ
refusal_number LongFile = 37
refusal_number (BadConf line) = 20
refusal_number (BadValue key) = 21
refusal_number NoMemory = 0

abbrev pub refusal_line : ConfError → ℕ
refusal_line LongFile = 0
refusal_line (BadConf line) = line
refusal_line (BadValue key) = 0
refusal_line NoMemory = 0
