-- The numbers of the refusals.
use Rattle.std.specs.Prelude.{ℕ}
use Rattle.uri_names.specs.declared.error.UriError.{UriError}
use Rattle.uri_names.specs.declared.error.UriError.TheVariants.{Scheme, BadUri, NoMemory}

abbrev pub refusal_number : UriError → ℕ
refusal_number Scheme = 7
refusal_number BadUri = 6
refusal_number NoMemory = 0
