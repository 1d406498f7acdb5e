use Rattle.std.proofs.Common.{◌≡◌, length}
use Rattle.acq_base.specs.Words.{trimmed_end}
use Rattle.acq_base.proofs.blank.trim_blanks_end.Given as goal

abbrev pub invariant-loop-kept : goal.invariant-loop-kept
invariant-loop-kept l = trimmed_end l.kept ≡ trimmed_end l.text

abbrev pub decreases-loop-kept : goal.decreases-loop-kept
decreases-loop-kept l = length l.kept
