use Rattle.std.proofs.Common.{◌≡◌, ◌∙◌, ◌+◌, length, Ok, None, sym, ap, subst, inr, arith}
use Rattle.std.specs.Prelude.{IfSome}
use Rattle.std.proofs.lemmas.Bool.Decides.{nat_tests}
use Rattle.std.proofs.lemmas.List.Elements.{All-nil, All-push}
use Rattle.std.proofs.lemmas.Result.{err_from_is_err_and}
use Rattle.source_lists.specs.OneLine.{line_entry, line_entries}
use Rattle.source_lists.specs.Sound.{IsSound}
use Rattle.source_lists.specs.Texts.{all_entries, numbered_lines}
use Rattle.source_lists.proofs.Loops.{worked, failed}
use Rattle.source_lists.proofs.ReadLines as lines
use Rattle.source_lists.proofs.one_line.read_lines.Goals as goal

pub loop-rest-init : goal.loop-rest-init
loop-rest-init c = record {
  read = rw c.new-entries.ensures (lines.begun c.args.file.now c.args.arch.now c.args.bytes.now);
  within = omega arith;
  sound = rw c.new-entries.ensures (All-nil IsSound);
}

pub returns-in_err-found-clause-value : goal.returns-in_err-found-clause-value
returns-in_err-found-clause-value c =
    let file = c.args.file.now in
    let arch = c.args.arch.now in
    let line = c.first_line.result.0.now in
    let whole = all_entries (line_entries file arch) (numbered_lines c.args.bytes.now) in
    let p = err_from_is_err_and c.from_residual.result c.from_residual.ensures.1 in
    rw (p.1, p.2) (failed c.in_err-found.field-0.0 (line_entry file arch (c.loop-rest.at + 1, line)) whole c.in_err-found.ensures.value (λ here.
    lines.stops file arch whole c.loop-rest.entries (c.loop-rest.at + 1) c.loop-rest.rest.now line c.first_line.result.1.now c.in_err-found.field-0.0 c.loop-rest.invariant.read c.first_line.ensures.lines here))

pub loop-rest-preserved-in_ok-push : goal.loop-rest-preserved-in_ok-push
loop-rest-preserved-in_ok-push c =
    let file = c.args.file.now in
    let arch = c.args.arch.now in
    let line = c.first_line.result.0.now in
    let here = worked c.in_ok-found.found (line_entry file arch (c.loop-rest.at + 1, line)) c.in_ok-found.ensures.value ∙ ap Ok c.in-Some.is in
    record {
      read = rw c.in_ok-push.ensures (lines.adds file arch (all_entries (line_entries file arch) (numbered_lines c.args.bytes.now)) c.loop-rest.entries (c.loop-rest.at + 1) c.loop-rest.rest.now line c.first_line.result.1.now c.in-Some.entry c.loop-rest.invariant.read c.first_line.ensures.lines here);
      within = omega (arith, c.loop-rest.invariant.within, c.first_line.ensures.shorter);
      sound = rw c.in_ok-push.ensures (All-push IsSound c.loop-rest.entries c.in-Some.entry c.loop-rest.invariant.sound (subst (λ found. IfSome found IsSound) c.in-Some.is c.in_ok-found.ensures.sound));
    }

pub loop-rest-preserved : goal.loop-rest-preserved
loop-rest-preserved c =
    let file = c.args.file.now in
    let arch = c.args.arch.now in
    let line = c.first_line.result.0.now in
    let none : c.in_ok-found.found ≡ None = grind arith in
    let here = worked c.in_ok-found.found (line_entry file arch (c.loop-rest.at + 1, line)) c.in_ok-found.ensures.value ∙ ap Ok none in
    record {
      read = lines.passes file arch (all_entries (line_entries file arch) (numbered_lines c.args.bytes.now)) c.loop-rest.entries (c.loop-rest.at + 1) c.loop-rest.rest.now line c.first_line.result.1.now c.loop-rest.invariant.read c.first_line.ensures.lines here;
      within = omega (arith, c.loop-rest.invariant.within, c.first_line.ensures.shorter);
      sound = c.loop-rest.invariant.sound;
    }

pub returns-clause-value : goal.returns-clause-value
returns-clause-value c =
    let file = c.args.file.now in
    let arch = c.args.arch.now in
    let none : length c.loop-rest.rest.now ≡ 0 = grind (arith, nat_tests) in
    inr (sym (lines.ended file arch (all_entries (line_entries file arch) (numbered_lines c.args.bytes.now)) c.loop-rest.entries (c.loop-rest.at + 1) c.loop-rest.rest.now c.loop-rest.invariant.read none))
