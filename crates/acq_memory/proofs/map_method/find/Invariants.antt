use Rattle.std.proofs.Common.{◌≡◌, drop}
use Rattle.acq_base.specs.Mirror.{answer_at}
use Rattle.acq_memory.proofs.map_method.find.Given as goal

-- none of the rows before gave the answer
abbrev pub invariant-loop-row : goal.invariant-loop-row
invariant-loop-row l = answer_at (drop l.row-index l.rows) l.uri ≡ answer_at l.rows l.uri
