use Rattle.std.proofs.Common.{◌≡◌, ◌+◌, ◌≤◌, length}
use Rattle.ed_apply.specs.Edits.{file_lines}
use Rattle.ed_apply.specs.Grammar.{scanned, start}
use Rattle.ed_apply.proofs.reading.read_lines.Given as goal

abbrev pub invariant-loop-rest : goal.invariant-loop-rest
invariant-loop-rest l =
    (l.at + length l.rest ≤ length l.bytes)
    × (scanned (record { hunks = l.hunks; phase = l.phase }) (l.at + 1) (file_lines l.rest) ≡ scanned start 1 (file_lines l.bytes))

abbrev pub decreases-loop-rest : goal.decreases-loop-rest
decreases-loop-rest l = length l.rest
