use Rattle.std.proofs.Common.{◌∙◌, sym}
use Rattle.deb_fetch.proofs.Steps.{no_paragraph, paragraph-more}
use Rattle.deb_fetch.proofs.listed.find_in_paragraphs.Goals as goal

pub loop-paragraph-init : goal.loop-paragraph-init
loop-paragraph-init c = record {
  value = c.nothing-found.ensures.value ∙ sym (no_paragraph c.args.base.now c.args.name.now c.args.version.now);
  sound = λ sound. c.nothing-found.ensures.sound;
}

pub loop-paragraph-preserved : goal.loop-paragraph-preserved
loop-paragraph-preserved c = record {
  value = paragraph-more c.args.base.now c.args.name.now c.args.version.now c.args.paragraphs.now c.loop-paragraph.paragraph-index c.paragraph-item.result c.loop-paragraph.found c.in_ok-found.found
      c.loop-paragraph-test.true c.paragraph-item.is c.loop-paragraph.invariant.value c.in_ok-found.ensures.value;
  sound = λ sound. c.in_ok-found.ensures.sound sound (c.loop-paragraph.invariant.sound sound);
}
