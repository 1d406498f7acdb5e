use Rattle.std.proofs.Common.{◌≤◌, take}
use Rattle.http_wire.specs.Plain.{StartsLine}
use Rattle.http_wire.proofs.runs.lines_len.Given as goal

abbrev pub invariant-loop-i : goal.invariant-loop-i
invariant-loop-i l = record {
  within : l.len ≤ l.i;
  starts : StartsLine (take l.len l.text);
}
