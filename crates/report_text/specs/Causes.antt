-- The words for why a source keeps its set.
use Rattle.std.specs.Prelude.{ℕ, List, ◌++◌, codes}
use Rattle.std.specs.Fmt.{decimal, signed_decimal}
use Rattle.hex.specs.Hex.{encode_lower}
use Rattle.hash_gate.specs.declared.verdict.Verdict.{Verdict}
use Rattle.hash_gate.specs.declared.verdict.Verdict.TheVariants as got
use Rattle.release_file.specs.declared.changing.HeadField.{HeadField}
use Rattle.release_file.specs.declared.changing.HeadField.TheVariants.{Origin, Label, Suite, Codename}
use Rattle.update_model.specs.declared.cause.Cause.{Cause}
use Rattle.update_model.specs.declared.cause.Cause.TheVariants.{NoRelease, Redirects, BadRelease, Expired, Future, TooBig, Missing, Differs, Garbled, Method, Changed}

-- how a list differs from the wanted one. One that fits is no cause
abbrev pub verdict_text : Verdict → List ℕ
verdict_text got.Fits = codes "fits"
verdict_text (got.Short length) = codes "short " ++ decimal length
verdict_text got.Long = codes "long"
verdict_text (got.Differs sha) = codes "other " ++ encode_lower sha.0

abbrev pub field_text : HeadField → List ℕ
field_text Origin = codes "Origin"
field_text Label = codes "Label"
field_text Suite = codes "Suite"
field_text Codename = codes "Codename"

-- what a path has, and the path
abbrev pub at_path : List ℕ → List ℕ → List ℕ
at_path words path = words ++ path ++ codes " "

abbrev pub cause_text : Cause → List ℕ
cause_text (NoRelease status) = codes "no release " ++ decimal status
cause_text (Redirects path) = codes "redirects " ++ path
cause_text (BadRelease number line) = codes "bad release " ++ decimal number ++ codes " line " ++ decimal line
cause_text (Expired end) = codes "expired " ++ signed_decimal end
cause_text (Future date) = codes "future " ++ signed_decimal date
cause_text (TooBig limit) = codes "too big " ++ decimal limit
cause_text (Missing path status) = at_path (codes "missing ") path ++ decimal status
cause_text (Differs path wanted got) = at_path (codes "differs ") path ++ verdict_text got
cause_text (Garbled path at) = at_path (codes "garbled ") path ++ decimal at
cause_text (Method path lane before after) =
    at_path (codes "method ") path ++ decimal lane ++ codes " " ++ decimal before ++ codes " " ++ decimal after
cause_text (Changed old new field) = codes "changed " ++ field_text field
