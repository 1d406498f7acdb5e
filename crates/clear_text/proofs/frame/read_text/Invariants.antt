use Rattle.std.proofs.Common.{◌≡◌, ◌+◌, length}
use Rattle.clear_text.specs.Lines.{IsCounted, with_front}
use Rattle.clear_text.specs.Unframed.{in_text}
use Rattle.clear_text.proofs.frame.read_text.Given as goal

abbrev pub invariant-loop-line : goal.invariant-loop-line
invariant-loop-line l =
    IsCounted l.lines.above l.lines.lines
    × (with_front l.text (in_text (l.lines.above + 1) l.lines.lines) ≡ in_text (l.initial.lines.above + 1) l.initial.lines.lines)

abbrev pub decreases-loop-line : goal.decreases-loop-line
decreases-loop-line l = length l.lines.lines
