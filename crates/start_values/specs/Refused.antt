-- What is told where words or variables can't be read, and the status that goes with it.
use Rattle.std.specs.Prelude.{ℕ, List, [], ◌∷◌, ◌++◌, codes}
use Rattle.start_values.specs.declared.refused.Refused.{Refused}
use Rattle.start_values.specs.declared.refused.Refused.TheVariants.{Words, Environment, NoMemory}

abbrev pub fault_line : List ℕ → List ℕ
fault_line text = codes "E " ++ (text ++ 10 ∷ [])

abbrev pub line_of : Refused → List ℕ
line_of Words = fault_line (codes "words")
line_of Environment = fault_line (codes "environment")
line_of NoMemory = fault_line (codes "memory")

abbrev pub status_of : Refused → ℕ
status_of Words = 100
status_of Environment = 100
status_of NoMemory = 103
