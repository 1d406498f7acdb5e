use Rattle.std.proofs.Common.{◌≡◌, ◌+◌, ◌≤◌, length}
use Rattle.std.specs.Str.Lines.{lines as text_lines}
use Rattle.deb822_text.specs.Control.{lines_from, lines_of}
use Rattle.deb822_text.specs.Names.{repeated}
use Rattle.deb822_text.specs.Scan.{unless, scan, start, state_of}
use Rattle.deb822_text.proofs.reading.scanned.Given as goal

abbrev pub invariant-loop-rest : goal.invariant-loop-rest
invariant-loop-rest l =
    (l.at + length l.rest ≤ length l.bytes)
    × (unless (repeated (state_of l.reading).fields) (scan (state_of l.reading) (lines_from l.comments (l.at + 1) (text_lines l.rest))) ≡ scan start (lines_of l.comments l.bytes))

abbrev pub decreases-loop-rest : goal.decreases-loop-rest
decreases-loop-rest l = length l.rest
