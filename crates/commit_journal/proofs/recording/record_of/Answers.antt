use Rattle.commit_journal.proofs.Records.{record_turn}
use Rattle.commit_journal.proofs.recording.record_of.Goals as goal

pub loop-group-preserved : goal.loop-group-preserved
loop-group-preserved c =
    record_turn c.args.groups.now c.loop-group.group-index c.group-item.result c.as_slice.result.now c.in_ok-steps_of.field-0 c.loop-group.rows c.push.new.self c.loop-group-test.true c.group-item.is c.as_slice.ensures c.loop-group.invariant c.in_ok-steps_of.ensures c.in_ok-push.ensures
