-- What `generate N` writes: how an update went over the mirror of a number on its first day, and then on its second.
use Rattle.std.specs.Prelude.{◌⊎◌, ℕ, ◌==◌, ◌&&◌, if◌then◌else◌, List, [], ◌∷◌, ◌++◌, codes}
use Rattle.std.specs.Fmt.{decimal}
use Rattle.generated_days.specs.Days.{AreDaysOf}
use Rattle.generated_days.specs.declared.days.Day.{Day}
use Rattle.report_text.specs.declared.fault.FaultLine.TheVariants.{Memory}
use Rattle.update_program.specs.Objects.{Output}
use Rattle.update_program.specs.Said.{Writes, WritesLine}

-- the sources that got a new set, the asks, and the bytes of the lists behind them
abbrev pub day_text : Day → List ℕ
day_text day = decimal day.installed ++ codes " installed " ++ decimal day.asks ++ codes " asks " ++ decimal day.bytes ++ codes " bytes"

abbrev pub days_line : ℕ → Day → Day → List ℕ
days_line number first second = codes "Generate " ++ decimal number ++ codes " first " ++ day_text first ++ codes ", second " ++ day_text second ++ 10 ∷ []

-- 0 where four sources got a new set on each day
abbrev pub days_status : Day → Day → ℕ
days_status first second = if (first.installed == 4) && (second.installed == 4) then 0 else 100

-- the line of the number's two days, beside its status
pub record SaysDays (number : ℕ) (before after : Output) (status : ℕ) : Type 0 where
  pub first : Day
  pub second : Day
  pub are : AreDaysOf number first second
  pub said : Writes before after (days_line number first second) (days_status first second) status

-- or memory ran out
abbrev pub IsGenerated : ℕ → Output → Output → ℕ → Type 0
IsGenerated number before after status = SaysDays number before after status ⊎ WritesLine before after Memory status
