-- No byte so far is a colon.
use Rattle.std.proofs.Common.{◌≡◌, ◌+◌, drop}
use Rattle.std.specs.List.{position_or_len}
use Rattle.uri_names.specs.Reading.{is_colon}
use Rattle.uri_names.proofs.reading.first_colon.Given as goal

abbrev pub invariant-loop-i : goal.invariant-loop-i
invariant-loop-i l = l.i + position_or_len is_colon (drop l.i l.text) ≡ position_or_len is_colon l.text
