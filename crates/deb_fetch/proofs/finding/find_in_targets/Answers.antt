use Rattle.std.proofs.Common.{◌∙◌, ap}
use Rattle.acq_base.specs.declared.plan.Target.{Target}
use Rattle.acq_outside.proofs.Framed.{read_on_counting}
use Rattle.acq_outside.specs.Disk.{Files}
use Rattle.deb_fetch.specs.Founds.{found_of}
use Rattle.deb_fetch.specs.Stanzas.{target_stanzas}
use Rattle.deb_fetch.proofs.Steps.{list-more}
use Rattle.deb_fetch.proofs.finding.find_in_targets.Goals as goal

pub loop-target-preserved : goal.loop-target-preserved
loop-target-preserved g c = record {
  frame = read_on_counting c.loop-target.invariant.frame c.in_ok-more.ensures.frame;
  told = λ told. list-more (λ (target : Target). target_stanzas (g.D.Disk.files c.args.disk.now) c.args.name.now c.args.version.now c.args.base.now target) c.args.targets.now c.loop-target.target-index c.target-item.result
      c.loop-target.found c.joined-found.result c.in_ok-more.more c.loop-target-test.true c.target-item.is (c.loop-target.invariant.told told)
      (c.in_ok-more.ensures.told (c.loop-target.invariant.frame.telling ∙ told) ∙ ap (λ (f : Files). found_of (target_stanzas f c.args.name.now c.args.version.now c.args.base.now c.target-item.result)) c.loop-target.invariant.frame.same)
      c.joined-found.ensures.value;
  sound = c.joined-found.ensures.sound c.loop-target.invariant.sound c.in_ok-more.ensures.sound;
}
