use Rattle.std.proofs.Common.{◌≡◌, drop}
use Rattle.http_requests.specs.Asked.{from_slash}
use Rattle.http_requests.proofs.asked.from_slash.Given as goal

abbrev pub invariant-loop-i : goal.invariant-loop-i
invariant-loop-i l = from_slash l.text ≡ from_slash (drop l.i l.text)
