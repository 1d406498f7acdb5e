use Rattle.std.proofs.Common.{◌≡◌, ◌++◌, length}
use Rattle.report_text.specs.Report.{all_lines}
use Rattle.report_text.proofs.whole.append_sources.Given as goal

abbrev pub invariant-loop-source : goal.invariant-loop-source
invariant-loop-source l = l.text ++ all_lines l.left l.told ≡ l.fn.text ++ all_lines l.sources l.verdicts

abbrev pub decreases-loop-source : goal.decreases-loop-source
decreases-loop-source l = length l.left
