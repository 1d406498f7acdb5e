-- The numbers of the refusals.
use Rattle.std.specs.Prelude.{ℕ}
use Rattle.target_plan.specs.declared.error.PlanError.{PlanError}
use Rattle.target_plan.specs.declared.error.PlanError.TheVariants.{LongName, Clash, TooMany, NoMemory}

abbrev pub refusal_number : PlanError → ℕ
refusal_number (LongName name) = 36
refusal_number (Clash first second) = 22
refusal_number TooMany = 23
refusal_number NoMemory = 0

-- no refusal of a plan has a line
abbrev pub refusal_line : PlanError → ℕ
refusal_line error = 0
