use Rattle.commit_journal.proofs.Records.{add_turn}
use Rattle.commit_journal.proofs.recording.add_steps.Goals as goal

pub loop-change-preserved : goal.loop-change-preserved
loop-change-preserved c =
    add_turn c.args.changes.now c.loop-change.change-index c.change-item.result c.in_ok-step_of.field-0 c.args.steps.now c.loop-change.steps c.push.new.self c.loop-change-test.true c.change-item.is c.loop-change.invariant c.in_ok-step_of.ensures c.in_ok-push.ensures
