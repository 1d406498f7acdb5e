use Rattle.std.proofs.Common.{rules}
use Rattle.acq_outside.proofs.Framed.{stayed_on}
use Rattle.commit_journal.proofs.Fills.{rests_on, group_comes, group_fills, group_within}
use Rattle.commit_journal.proofs.filling.fill_all.Goals as goal

pub fill_group-requires : goal.fill_group-requires
fill_group-requires g c =
    let comes = group_comes c.args.groups.now c.loop-group.group-index c.group-item.result c.as_slice.result.now (g.D.Disk.trace c.args.disk.now) (g.D.Disk.trace c.loop-group.disk) c.loop-group-test.true c.group-item.is c.as_slice.ensures c.requires.allowed c.requires.apart c.requires.staged c.requires.idle c.loop-group.invariant.fills in
    record { allowed = comes.allowed; apart = comes.apart; staged = comes.staged; idle = comes.idle }

pub returns-in_err-fill_group-clause-fills : goal.returns-in_err-fill_group-clause-fills
returns-in_err-fill_group-clause-fills g c = record {
  moments = rests_on _ _ _ c.loop-group.invariant.fills.moments c.fill_group.ensures.fills.moments;
  others = group_within c.args.groups.now c.loop-group.group-index c.group-item.result c.as_slice.result.now (g.D.Disk.trace c.args.disk.now) (g.D.Disk.trace c.loop-group.disk) (g.D.Disk.trace c.fill_group.new.disk) c.loop-group-test.true c.group-item.is c.as_slice.ensures c.loop-group.invariant.fills c.fill_group.ensures.fills.others;
  done = search rules;
}

pub loop-group-preserved : goal.loop-group-preserved
loop-group-preserved g c = record {
  fills =
      group_fills c.args.groups.now c.loop-group.group-index c.group-item.result c.as_slice.result.now (g.D.Disk.trace c.args.disk.now) (g.D.Disk.trace c.loop-group.disk) (g.D.Disk.trace c.fill_group.new.disk) c.loop-group-test.true c.group-item.is c.as_slice.ensures
      (group_comes c.args.groups.now c.loop-group.group-index c.group-item.result c.as_slice.result.now (g.D.Disk.trace c.args.disk.now) (g.D.Disk.trace c.loop-group.disk) c.loop-group-test.true c.group-item.is c.as_slice.ensures c.requires.allowed c.requires.apart c.requires.staged c.requires.idle c.loop-group.invariant.fills)
      c.loop-group.invariant.fills c.fill_group.ensures.fills.moments c.fill_group.ensures.fills.others c.in_ok-fill_group.ensures.fills.done;
  frame = stayed_on c.loop-group.invariant.frame c.in_ok-fill_group.ensures.frame;
}
