-- How a function that may run out of memory answers.
use Rattle.std.specs.Prelude.{◌≡◌, Result, Ok, Err}
use Rattle.apt_conf.specs.declared.error.ConfError.{ConfError}
use Rattle.apt_conf.specs.declared.error.ConfError.TheVariants.{LongFile, BadConf, BadValue, NoMemory}

-- the error is the refusal, unless memory ran out
abbrev pub Fails : {T : Type 0} → ConfError → Result T ConfError → Type 0
Fails LongFile read = read ≡ Err LongFile
Fails (BadConf line) read = read ≡ Err (BadConf line)
Fails (BadValue key) read = read ≡ Err (BadValue key)
Fails NoMemory read = Unit {0}

-- the result is what the reading gives, unless memory ran out
abbrev pub Gives : {T : Type 0} → Result T ConfError → Result T ConfError → Type 0
Gives (Ok x) read = read ≡ Ok x
Gives (Err e) read = Fails e read
