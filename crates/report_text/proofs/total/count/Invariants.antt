use Rattle.std.proofs.Common.{◌≡◌, ◌+◌, ◌≤◌, length}
use Rattle.report_text.specs.Report.{count_told}
use Rattle.report_text.proofs.total.count.Given as goal

abbrev pub invariant-loop-verdict : goal.invariant-loop-verdict
invariant-loop-verdict l = record {
  counted : l.count + count_told l.word l.rest ≡ count_told l.word l.verdicts;
  few : l.count + length l.rest ≤ length l.verdicts;
}

abbrev pub decreases-loop-verdict : goal.decreases-loop-verdict
decreases-loop-verdict l = length l.rest
