-- The lines that stand in place of a report.
use Rattle.std.specs.Prelude.{ℕ, List, ◌++◌, codes, Option, Some, None}
use Rattle.std.specs.Fmt.{decimal}
use Rattle.report_text.specs.Packages.{package_text}
use Rattle.report_text.specs.Sources.{newline}
use Rattle.report_text.specs.declared.fault.FaultLine.{FaultLine}
use Rattle.report_text.specs.declared.fault.FaultLine.TheVariants.{Words, Conf, Clash, TooMany, LongName, Journal, Disk, Memory, Held, Etc, Download, Port}

abbrev pub place_text : List ℕ → ℕ → List ℕ
place_text file line = file ++ codes ":" ++ decimal line

unfoldable pub fault_text : FaultLine → List ℕ
fault_text Words = codes "E words" ++ newline
fault_text (Conf file number line) = codes "E conf " ++ file ++ codes " " ++ decimal number ++ codes " " ++ decimal line ++ newline
fault_text (Clash first first_line second second_line) =
    codes "E plan 22 " ++ place_text first first_line ++ codes " " ++ place_text second second_line ++ newline
fault_text TooMany = codes "E plan 23" ++ newline
fault_text (LongName name) = codes "E plan 36 " ++ name.0 ++ newline
fault_text (Journal at) = codes "E journal " ++ decimal at ++ newline
fault_text Disk = codes "E disk" ++ newline
fault_text Memory = codes "E memory" ++ newline
fault_text Held = codes "E held" ++ newline
fault_text Etc = codes "E etc" ++ newline
fault_text (Download number name version) = codes "E download " ++ decimal number ++ codes " " ++ package_text name version ++ newline
fault_text Port = codes "E port" ++ newline

-- the line of a fault that has nothing to name
unfoldable pub fixed_text : FaultLine → Option (List ℕ)
fixed_text Words = Some (codes "E words" ++ newline)
fixed_text TooMany = Some (codes "E plan 23" ++ newline)
fixed_text Disk = Some (codes "E disk" ++ newline)
fixed_text Memory = Some (codes "E memory" ++ newline)
fixed_text Held = Some (codes "E held" ++ newline)
fixed_text Etc = Some (codes "E etc" ++ newline)
fixed_text Port = Some (codes "E port" ++ newline)
fixed_text other = None
