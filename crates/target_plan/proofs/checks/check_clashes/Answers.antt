use Rattle.std.proofs.Common.{◌∙◌, inr, Some, sym, ap, arith}
use Rattle.std.specs.BTreeMap.{get}
use Rattle.std.specs.Cmp.Lexicographic.{slice_cmp}
use Rattle.std.specs.Ordering.{nat_cmp}
use Rattle.target_plan.proofs.Clashes.{clash_absent, clash_within, clash_present, names_more}
use Rattle.target_plan.proofs.checks.check_clashes.Goals as goal

pub clash-requires : goal.clash-requires
clash-requires c =
    let found = ap (get (slice_cmp nat_cmp) c.loop-at.places) (sym c.in_ok-copy.ensures) ∙ sym c.in_ok-first.ensures.found ∙ c.in-Some.is in
    omega (arith, c.loop-at-test.true, clash_within c.args.files.now c.loop-at.at c.in-Some.first c.index-files-at.result c.loop-at.places c.loop-at-test.true c.loop-at.invariant.places found)

pub returns-in-Some : goal.returns-in-Some
returns-in-Some c =
    let file = c.index-files-at.result in
    let found = ap (get (slice_cmp nat_cmp) c.loop-at.places) (sym c.in_ok-copy.ensures) ∙ sym c.in_ok-first.ensures.found ∙ c.in-Some.is in
    inr (sym c.loop-at.invariant.rest
    ∙ clash_present c.args.files.now c.loop-at.at c.in-Some.first file c.loop-at.places c.loop-at-test.true c.index-files-at.is c.loop-at.invariant.places found
    ∙ ap Some (sym c.in_ok-clash.ensures))

pub loop-at-preserved : goal.loop-at-preserved
loop-at-preserved c =
    let file = c.index-files-at.result in
    let key = c.in_ok-copy.ensures in
    let absent = ap (get (slice_cmp nat_cmp) c.loop-at.places) (sym key) ∙ sym c.in_ok-first.ensures.found ∙ c.in_default.is in
    record {
      places = names_more c.args.files.now c.loop-at.at file c.in_ok-copy.field-0 c.loop-at.places c.enter.new.places c.loop-at-test.true c.index-files-at.is key c.loop-at.invariant.places absent (c.in_ok-first.ensures.entered c.in_default.is);
      rest = sym (clash_absent c.args.files.now c.loop-at.at file c.loop-at.places c.loop-at-test.true c.index-files-at.is c.loop-at.invariant.places absent) ∙ c.loop-at.invariant.rest;
    }
