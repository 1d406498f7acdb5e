use Rattle.std.proofs.Common.{◌≡◌, take}
use Rattle.acq_base.proofs.row.RowTryCopy.copy.Given as goal

abbrev pub invariant-loop-cell : goal.invariant-loop-cell
invariant-loop-cell g l = l.copy ≡ take l.cell-index l.self
