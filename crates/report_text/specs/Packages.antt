-- What is told of one package's file.
use Rattle.std.specs.Prelude.{ℕ, List, ◌++◌, codes}
use Rattle.std.specs.Fmt.{decimal}
use Rattle.hex.specs.Hex.{encode_lower}
use Rattle.acq_base.specs.declared.sum.Sum.{Sum}
use Rattle.acq_base.specs.declared.uri.ListName.{ListName}
use Rattle.report_text.specs.Causes.{cause_text}
use Rattle.report_text.specs.Sources.{newline}
use Rattle.update_model.specs.declared.cause.Cause.{Cause}

-- a package and its version, as the words ask for them
abbrev pub package_text : List ℕ → List ℕ → List ℕ
package_text name version = name ++ codes "=" ++ version

-- the file with its size and its digest in lower-case hexadecimal digits
abbrev pub got_text : ListName → Sum → List ℕ
got_text file sum = codes "Got " ++ file.0 ++ codes " " ++ decimal sum.size ++ codes " " ++ encode_lower sum.sha.0 ++ newline

-- why there is none
abbrev pub fail_text : List ℕ → List ℕ → Cause → List ℕ
fail_text name version cause = codes "Fail " ++ package_text name version ++ codes " " ++ cause_text cause ++ newline
