use Rattle.commit_journal.proofs.Records.{all_turn}
use Rattle.commit_journal.proofs.recording.all_steps.Goals as goal

pub loop-group-preserved : goal.loop-group-preserved
loop-group-preserved c =
    all_turn c.args.groups.now c.loop-group.group-index c.group-item.result c.as_slice.result.now c.loop-group.steps c.add_steps.new.steps c.loop-group-test.true c.group-item.is c.as_slice.ensures c.loop-group.invariant c.in_ok-add_steps.ensures
