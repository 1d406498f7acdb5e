use Rattle.std.proofs.Common.{rules}
use Rattle.acq_outside.proofs.Framed.{stayed_on}
use Rattle.commit_journal.proofs.Fills.{rests_on, change_comes, change_fills, change_within}
use Rattle.commit_journal.proofs.filling.fill_group.Goals as goal

pub fill_one-requires-clause-allowed : goal.fill_one-requires-clause-allowed
fill_one-requires-clause-allowed g c =
    (change_comes c.args.changes.now c.loop-change.change-index c.change-item.result (g.D.Disk.trace c.args.disk.now) (g.D.Disk.trace c.loop-change.disk) c.loop-change-test.true c.change-item.is c.requires.allowed c.requires.apart c.requires.staged c.requires.idle c.loop-change.invariant.fills).allowed.0

pub fill_one-requires-clause-staged : goal.fill_one-requires-clause-staged
fill_one-requires-clause-staged g c =
    (change_comes c.args.changes.now c.loop-change.change-index c.change-item.result (g.D.Disk.trace c.args.disk.now) (g.D.Disk.trace c.loop-change.disk) c.loop-change-test.true c.change-item.is c.requires.allowed c.requires.apart c.requires.staged c.requires.idle c.loop-change.invariant.fills).staged

pub fill_one-requires-clause-idle : goal.fill_one-requires-clause-idle
fill_one-requires-clause-idle g c =
    (change_comes c.args.changes.now c.loop-change.change-index c.change-item.result (g.D.Disk.trace c.args.disk.now) (g.D.Disk.trace c.loop-change.disk) c.loop-change-test.true c.change-item.is c.requires.allowed c.requires.apart c.requires.staged c.requires.idle c.loop-change.invariant.fills).idle

pub returns-in_err-fill_one-clause-fills : goal.returns-in_err-fill_one-clause-fills
returns-in_err-fill_one-clause-fills g c = record {
  moments = rests_on _ _ _ c.loop-change.invariant.fills.moments c.fill_one.ensures.fills.moments;
  others = change_within c.args.changes.now c.loop-change.change-index c.change-item.result (g.D.Disk.trace c.args.disk.now) (g.D.Disk.trace c.loop-change.disk) (g.D.Disk.trace c.fill_one.new.disk) c.loop-change-test.true c.change-item.is c.loop-change.invariant.fills c.fill_one.ensures.fills.others;
  done = search rules;
}

pub loop-change-preserved : goal.loop-change-preserved
loop-change-preserved g c = record {
  fills =
      change_fills c.args.changes.now c.loop-change.change-index c.change-item.result (g.D.Disk.trace c.args.disk.now) (g.D.Disk.trace c.loop-change.disk) (g.D.Disk.trace c.fill_one.new.disk) c.loop-change-test.true c.change-item.is
      (change_comes c.args.changes.now c.loop-change.change-index c.change-item.result (g.D.Disk.trace c.args.disk.now) (g.D.Disk.trace c.loop-change.disk) c.loop-change-test.true c.change-item.is c.requires.allowed c.requires.apart c.requires.staged c.requires.idle c.loop-change.invariant.fills)
      c.loop-change.invariant.fills c.fill_one.ensures.fills.moments c.fill_one.ensures.fills.others c.in_ok-fill_one.ensures.fills.done;
  frame = stayed_on c.loop-change.invariant.frame c.in_ok-fill_one.ensures.frame;
}
