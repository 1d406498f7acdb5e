use Rattle.std.proofs.Common.{◌≡◌, drop}
use Rattle.start_values.specs.MemEnvironment.{value_in}
use Rattle.start_values.proofs.mem_environment.find.Given as goal

-- none of the variables before is the one
abbrev pub invariant-loop-variable : goal.invariant-loop-variable
invariant-loop-variable l = value_in (drop l.variable-index l.variables) l.name ≡ value_in l.variables l.name
