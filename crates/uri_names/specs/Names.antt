-- The key by which fetches from one host are told apart.
use Rattle.std.specs.Prelude.{ℕ, List, ◌∷◌, ◌++◌, codes}
use Rattle.std.specs.Fmt.{decimal}
use Rattle.acq_base.specs.declared.uri.Scheme.{Scheme}
use Rattle.acq_base.specs.declared.uri.Scheme.TheVariants.{Http, File}
use Rattle.acq_base.specs.declared.uri.Uri.{Uri}

unfoldable pub key_of_parts : Scheme → List ℕ → ℕ → List ℕ
key_of_parts Http host port = host ++ 58 ∷ decimal port
key_of_parts File host port = codes "file"

-- host and port of an http URI, the port always written; `file` for a file URI
abbrev pub host_key_of : Uri → List ℕ
host_key_of uri = key_of_parts uri.scheme uri.host uri.port
