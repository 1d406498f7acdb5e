use Rattle.std.proofs.Common.{◌≡◌, length}
use Rattle.acq_base.specs.Words.{trimmed_start}
use Rattle.acq_base.proofs.blank.trim_blanks_start.Given as goal

abbrev pub invariant-loop-kept : goal.invariant-loop-kept
invariant-loop-kept l = trimmed_start l.kept ≡ trimmed_start l.text

abbrev pub decreases-loop-kept : goal.decreases-loop-kept
decreases-loop-kept l = length l.kept
