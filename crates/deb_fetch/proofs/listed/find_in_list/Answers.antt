use Rattle.std.proofs.Common.{◌≡◌, ◌∙◌, sym, length}
use Rattle.std.proofs.lemmas.Bool.{eqb-true}
use Rattle.std.proofs.lemmas.List.{nil_from_length}
use Rattle.deb_fetch.proofs.Fronts.{all_read, more_sound, read_more, refused}
use Rattle.deb_fetch.proofs.listed.find_in_list.Goals as goal

pub returns-in-None-clause-value : goal.returns-in-None-clause-value
returns-in-None-clause-value c =
    refused c.args.base.now c.args.name.now c.args.version.now c.args.list.now c.loop-rest.rest.now c.first_paragraph.result.0.now c.first_paragraph.result.1.now c.loop-rest.found c.nothing.result
    c.first_paragraph.ensures.cut (sym c.in-None.is ∙ c.in_ok-more.ensures.value) c.nothing.ensures.value c.loop-rest.invariant.read

pub loop-rest-preserved : goal.loop-rest-preserved
loop-rest-preserved c = record {
  read = read_more c.args.base.now c.args.name.now c.args.version.now c.args.list.now c.loop-rest.rest.now c.first_paragraph.result.0.now c.first_paragraph.result.1.now c.loop-rest.found c.in-Some.more c.joined-found.result
      c.first_paragraph.ensures.cut (sym c.in-Some.is ∙ c.in_ok-more.ensures.value) c.joined-found.ensures.value c.loop-rest.invariant.read;
  sound = λ sound. c.joined-found.ensures.sound (c.loop-rest.invariant.sound sound) (more_sound c.in_ok-more.field-0 c.in-Some.more c.in-Some.is (c.in_ok-more.ensures.sound sound));
}

pub returns-clause-value : goal.returns-clause-value
returns-clause-value c =
    let none : length c.loop-rest.rest.now ≡ 0 = eqb-true (length c.loop-rest.rest.now) 0 (sym c.is_empty.ensures ∙ c.loop-rest-test.false) in
    all_read c.args.base.now c.args.name.now c.args.version.now c.args.list.now c.loop-rest.rest.now c.loop-rest.found (nil_from_length c.loop-rest.rest.now none) c.loop-rest.invariant.read
