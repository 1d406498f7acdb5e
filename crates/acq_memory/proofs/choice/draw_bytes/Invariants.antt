use Rattle.std.proofs.Common.{◌≡◌, ◌++◌, drop}
use Rattle.acq_outside.specs.Choice.{drawn_bytes}
use Rattle.acq_memory.proofs.choice.draw_bytes.Given as goal

-- the bytes so far and those of the cells that are left are all
abbrev pub invariant-loop-cell : goal.invariant-loop-cell
invariant-loop-cell l =
    record {
      value : (drawn_bytes l.whole l.fn.least l.cells l.fn.rest).value ≡ l.bytes ++ (drawn_bytes l.whole l.least (drop l.cell-index l.cells) l.rest).value;
      rest : (drawn_bytes l.whole l.fn.least l.cells l.fn.rest).rest ≡ (drawn_bytes l.whole l.least (drop l.cell-index l.cells) l.rest).rest;
    }
