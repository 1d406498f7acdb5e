use Rattle.std.proofs.Common.{◌≡◌, drop}
use Rattle.acq_outside.specs.Choice.{drawn_part}
use Rattle.acq_outside.specs.Crash.{all_renamed}
use Rattle.acq_memory.specs.Replay.{names_in}
use Rattle.acq_memory.proofs.choice.draw_part.Given as goal

abbrev pub invariant-loop-change : goal.invariant-loop-change
invariant-loop-change l =
    record {
      rest : (drawn_part l.whole l.pending l.fn.rest).rest ≡ (drawn_part l.whole (drop l.change-index l.pending) l.rest).rest;
      names : all_renamed (names_in l.fn.names) (drawn_part l.whole l.pending l.fn.rest).value ≡ all_renamed (names_in l.names) (drawn_part l.whole (drop l.change-index l.pending) l.rest).value;
    }
