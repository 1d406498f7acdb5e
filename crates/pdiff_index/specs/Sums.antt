-- The sums of steps by their names, when one more step is put beside them.
use Rattle.std.specs.Prelude.{ℕ, List, bytes_eq, Option, Some, None, if◌then◌else◌}
use Rattle.acq_base.specs.declared.sum.Sum.{Sum}
use Rattle.pdiff_index.specs.declared.index.Step.{Step}

-- the sum under a name that had this one, beside a step
abbrev pub sum_beside : Option Sum → Step → List ℕ → Option Sum
sum_beside None step name = if bytes_eq step.name name then Some step.sum else None
sum_beside (Some sum) step name = Some sum
