use Rattle.std.proofs.Common.{◌≡◌, ◌+◌, ◌==◌, not, drop}
use Rattle.std.specs.List.{prefix_len}
use Rattle.http_wire.proofs.fields.place_of.Given as goal

abbrev pub invariant-loop-i : goal.invariant-loop-i
invariant-loop-i l = prefix_len (λ c. not (c == l.mark)) l.text ≡ l.i + prefix_len (λ c. not (c == l.mark)) (drop l.i l.text)
