use Rattle.std.proofs.Common.{◌≡◌, false, take}
use Rattle.std.specs.List.{list_any}
use Rattle.http_wire.specs.Forms.{is_line_feed}
use Rattle.http_wire.proofs.lines.line_of.Given as goal

abbrev pub invariant-loop-i : goal.invariant-loop-i
invariant-loop-i l = list_any is_line_feed (take l.i l.piece) ≡ false
