use Rattle.std.proofs.Common.{◌≡◌, ◌+◌, drop}
use Rattle.std.specs.List.{prefix_len}
use Rattle.httparse.specs.Pieces.{is_newline}
use Rattle.http_wire.proofs.reading.blank_len.Given as goal

abbrev pub invariant-loop-i : goal.invariant-loop-i
invariant-loop-i l = prefix_len is_newline l.text ≡ l.i + prefix_len is_newline (drop l.i l.text)
