use Rattle.std.proofs.Common.{arith, []}
use Rattle.acq_outside.specs.Crash.{newest, start_state, trace_after}
use Rattle.acq_memory.specs.Replay.{state_of}
use Rattle.acq_memory.proofs.Replaying.{one_call}
use Rattle.acq_memory.proofs.replay.replay_all.Goals as goal

pub loop-change-preserved : goal.loop-change-preserved
loop-change-preserved c = record {
  state =
      one_call (state_of c.loop-change.replay) (state_of c.apply.new.self) (newest (trace_after (start_state c.args.rows.now) [] c.args.changes.now)) c.args.changes.now c.loop-change.change-index
      c.change-item.result (omega arith) c.change-item.is c.in_ok-apply.ensures.state c.loop-change.invariant.state;
  names = c.in_ok-apply.ensures.standing;
}
