use Rattle.std.proofs.Common.{◌≡◌, ◌≤◌, ◌+◌, length}
use Rattle.http_requests.specs.Heads.{behind_blank}
use Rattle.http_requests.proofs.limits.behind_blank.Given as goal

abbrev pub invariant-loop : goal.invariant-loop
invariant-loop l = record { same : behind_blank l.text ≡ behind_blank l.rest; left : length l.rest + l.counter ≤ length l.text }
