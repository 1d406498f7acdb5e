-- What a folder's variable has to be: text, which each string is, and not empty.
use Rattle.std.proofs.Common.{◌≢◌, ap, ℕ, List, length, codes, Option, Some, None, IfSome, IsUtf8, IsSomeAnd, String, string_bytes}
use Rattle.std.specs.Global.{Global}
use Rattle.std.proofs.lemmas.Str.{IsUtf8-string_bytes}
use Rattle.start_values.specs.Environment.{Known}
use Rattle.start_values.specs.Start.{IsPath, NamesFolder, NamesFolders, NamesNoFolder}

pub text_is_path : (text : String Global) → length (string_bytes text) ≢ 0 → IsPath (string_bytes text)
text_is_path text some = (IsUtf8-string_bytes text, λ empty. some (ap length empty))

pub no_text_is_no_path : (value : Option (List ℕ)) → IsSomeAnd value (λ bytes. ¬ (IsUtf8 bytes)) → NamesNoFolder value
no_text_is_no_path None none = absurd none
no_text_is_no_path (Some bytes) none = λ path. none path.0

pub ruleset folder = (text_is_path, no_text_is_no_path)

pub both_named : (told : Option Known) → IfSome told (λ known. NamesFolder (known.value (codes "ACQUIRE_ETC"))) → IfSome told (λ known. NamesFolder (known.value (codes "ACQUIRE_LISTS"))) → IfSome told NamesFolders
both_named None etc lists = tt
both_named (Some known) etc lists = (etc, lists)
