use Rattle.std.proofs.Common.{◌≡◌, ◌∙◌, sym, ap, inr, Some, None}
use Rattle.std.specs.BTreeMap.{get}
use Rattle.std.specs.Cmp.Lexicographic.{slice_cmp}
use Rattle.std.specs.Ordering.{nat_cmp}
use Rattle.release_file.proofs.SumLines.{stops_at_none, stops_at_other, goes_on, ends}
use Rattle.release_file.specs.Release.{listed_of_line}
use Rattle.release_file.proofs.sums.line_files.Goals as goal

pub returns-in_default : goal.returns-in_default
returns-in_default c =
    let loop = c.loop-line in
    let none : None ≡ listed_of_line c.line-item.result = sym c.in_default.is ∙ c.in_ok-listed.ensures ∙ ap listed_of_line c.as_bytes.ensures in
    inr (stops_at_none c.args.at c.args.lines.now loop.line-index loop.at loop.files (get (slice_cmp nat_cmp) loop.sums) c.line-item.result loop.invariant c.loop-line-test.true c.line-item.is none)

pub returns-then-not-branch : goal.returns-then-not-branch
returns-then-not-branch c =
    let loop = c.loop-line in
    let some : Some c.in-Some.listed ≡ listed_of_line c.line-item.result = sym c.in-Some.is ∙ c.in_ok-listed.ensures ∙ ap listed_of_line c.as_bytes.ensures in
    inr (stops_at_other c.args.at c.args.lines.now loop.line-index loop.at loop.files (get (slice_cmp nat_cmp) loop.sums) c.line-item.result c.in-Some.listed loop.invariant c.loop-line-test.true c.line-item.is some (sym c.if-not-branch.true ∙ c.in_ok-add_file.ensures.agrees))

pub returns : goal.returns
returns c =
    let loop = c.loop-line in
    inr (ends c.args.at c.args.lines.now loop.line-index loop.at loop.files (get (slice_cmp nat_cmp) loop.sums) loop.invariant c.loop-line-test.false)

pub loop-line-preserved : goal.loop-line-preserved
loop-line-preserved c =
    let loop = c.loop-line in
    let step = c.in_ok-add_file.ensures in
    let some : Some c.in-Some.listed ≡ listed_of_line c.line-item.result = sym c.in-Some.is ∙ c.in_ok-listed.ensures ∙ ap listed_of_line c.as_bytes.ensures in
    (goes_on c.args.at c.args.lines.now loop.line-index loop.at loop.files c.add_file.new.files (get (slice_cmp nat_cmp) loop.sums) (get (slice_cmp nat_cmp) c.add_file.new.sums) c.line-item.result c.in-Some.listed loop.invariant c.loop-line-test.true c.line-item.is some (sym c.if-not-branch.false ∙ step.agrees) step.files step.sums)
