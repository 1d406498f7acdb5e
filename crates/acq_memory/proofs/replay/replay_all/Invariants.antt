use Rattle.std.proofs.Common.{◌≡◌, [], drop}
use Rattle.acq_outside.specs.Crash.{newest, start_state, trace_after}
use Rattle.acq_memory.specs.Replay.{IsAtNames, state_of}
use Rattle.acq_memory.proofs.replay.replay_all.Given as goal

-- the calls that are left lead to the same state
abbrev pub invariant-loop-change : goal.invariant-loop-change
invariant-loop-change l =
    record {
      state : newest (trace_after (state_of l.replay) [] (drop l.change-index l.changes)) ≡ newest (trace_after (start_state l.rows) [] l.changes);
      names : IsAtNames l.replay;
    }
