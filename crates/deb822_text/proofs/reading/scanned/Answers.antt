use Rattle.std.proofs.Common.{◌≡◌, ◌+◌, length, ap, sym, ◌∙◌, inr, arith}
use Rattle.std.proofs.lemmas.Result.{err_from_is_err_and}
use Rattle.std.proofs.lemmas.Bool.{eqb-true}
use Rattle.deb822_text.specs.Control.{lines_of}
use Rattle.deb822_text.specs.Names.{repeated}
use Rattle.deb822_text.specs.Scan.{State, state_of}
use Rattle.deb822_text.proofs.Scans.{rest_of, refuses, goes_on, ends}
use Rattle.deb822_text.proofs.reading.scanned.Goals as goal

pub loop-rest-init : goal.loop-rest-init
unfolding lines_of repeated
loop-rest-init c = (omega arith, ap (λ (s : State). rest_of s c.args.comments 1 c.args.bytes.now) c.new-reading.ensures)

pub returns-in_err-take : goal.returns-in_err-take
returns-in_err-take c =
    let p = err_from_is_err_and c.from_residual.result c.from_residual.ensures.1 in
    rw (p.1, p.2) (refuses (state_of c.loop-rest.reading) c.args.comments (c.loop-rest.at + 1) c.loop-rest.rest.now c.first_line.result.0.now c.first_line.result.1.now _ c.in_err-take.field-0.0 _ c.first_line.ensures.lines c.kind_of.ensures c.in_err-take.ensures c.loop-rest.invariant.1)

pub loop-rest-preserved : goal.loop-rest-preserved
loop-rest-preserved c = (omega arith, goes_on (state_of c.loop-rest.reading) _ c.args.comments (c.loop-rest.at + 1) c.loop-rest.rest.now c.first_line.result.0.now c.first_line.result.1.now _ _ c.first_line.ensures.lines c.kind_of.ensures c.in_ok-take.ensures c.loop-rest.invariant.1)

pub returns : goal.returns
returns c =
    let none : length c.loop-rest.rest.now ≡ 0 = eqb-true _ 0 (sym c.is_empty.ensures ∙ c.loop-rest-test.false) in
    inr (ends (state_of c.loop-rest.reading) (state_of c.close.new.self) c.args.comments (c.loop-rest.at + 1) c.loop-rest.rest.now _ none c.in_ok-close.ensures c.loop-rest.invariant.1)
