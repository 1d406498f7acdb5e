-- The lines of one source: its verdict and, where it has a new set, each file of it.
use Rattle.std.specs.Prelude.{ℕ, List, [], ◌∷◌, ◌++◌, codes}
use Rattle.std.specs.Fmt.{decimal, signed_decimal}
use Rattle.std.specs.List.{flat_map}
use Rattle.hex.specs.Hex.{encode_lower}
use Rattle.acq_base.specs.Uri.{uri_text}
use Rattle.acq_base.specs.declared.plan.Source.{Source}
use Rattle.acq_base.specs.declared.sum.Sum.{Sum}
use Rattle.acq_base.specs.declared.uri.ListName.{ListName}
use Rattle.report_text.specs.Causes.{cause_text}
use Rattle.update_model.specs.declared.settled.Held.{Held}
use Rattle.update_model.specs.declared.settled.Verdict2.{Verdict2}
use Rattle.update_model.specs.declared.settled.Verdict2.TheVariants.{Installed, Hit, Older, Kept}

abbrev pub newline : List ℕ
newline = 10 ∷ []

-- a source is named by its base and its suite
abbrev pub about : List ℕ → Source → List ℕ
about word source = word ++ codes " " ++ uri_text source.base ++ codes " " ++ source.suite

-- the Release with its size and its date in seconds since 1970
abbrev pub release_line : Source → Held → List ℕ
release_line source held = codes " " ++ source.release_name.0 ++ codes " " ++ decimal held.release.size ++ codes " date " ++ signed_decimal held.date ++ newline

-- a list with its size and its digest in lower-case hexadecimal digits
abbrev pub list_line : ListName × Sum → List ℕ
list_line list = codes " " ++ list.0.0 ++ codes " " ++ decimal list.1.size ++ codes " " ++ encode_lower list.1.sha.0 ++ newline

abbrev pub set_lines : List ℕ → Source → Held → List ℕ
set_lines word source held = about word source ++ newline ++ release_line source held ++ flat_map list_line held.lists

abbrev pub source_lines : Source → Verdict2 → List ℕ
source_lines source (Installed held) = set_lines (codes "Get") source held
source_lines source (Hit held) = set_lines (codes "Hit") source held
source_lines source (Older date) = about (codes "Older") source ++ codes " " ++ signed_decimal date ++ newline
source_lines source (Kept cause) = about (codes "Keep") source ++ codes " " ++ cause_text cause ++ newline
