use Rattle.std.proofs.Common.{◌∙◌, ap}
use Rattle.acq_base.specs.declared.plan.Source.{Source}
use Rattle.acq_outside.proofs.Framed.{read_on_counting}
use Rattle.acq_outside.specs.Disk.{Files}
use Rattle.deb_fetch.specs.Founds.{found_of}
use Rattle.deb_fetch.specs.Stanzas.{targets_stanzas}
use Rattle.deb_fetch.proofs.Steps.{list-more}
use Rattle.deb_fetch.proofs.finding.find_in_plan.Goals as goal

pub loop-source-preserved : goal.loop-source-preserved
loop-source-preserved g c = record {
  frame = read_on_counting c.loop-source.invariant.frame c.in_ok-more.ensures.frame;
  told = λ told. list-more (λ (source : Source). targets_stanzas (g.D.Disk.files c.args.disk.now) c.args.name.now c.args.version.now source.base source.targets) c.args.sources.now c.loop-source.source-index c.source-item.result
      c.loop-source.found c.joined-found.result c.in_ok-more.more c.loop-source-test.true c.source-item.is (c.loop-source.invariant.told told)
      (c.in_ok-more.ensures.told (c.loop-source.invariant.frame.telling ∙ told) ∙ ap (λ (f : Files). found_of (targets_stanzas f c.args.name.now c.args.version.now c.source-item.result.base c.source-item.result.targets)) c.loop-source.invariant.frame.same)
      c.joined-found.ensures.value;
  sound = c.joined-found.ensures.sound c.loop-source.invariant.sound c.in_ok-more.ensures.sound;
}
