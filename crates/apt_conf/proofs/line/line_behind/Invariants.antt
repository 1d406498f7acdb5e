use Rattle.std.proofs.Common.{◌≡◌, ◌+◌, ◌≤◌, length}
use Rattle.apt_conf.specs.Tokens.{line_behind}
use Rattle.apt_conf.proofs.line.line_behind.Given as goal

abbrev pub invariant-loop-rest : goal.invariant-loop-rest
invariant-loop-rest l = record {
  read : line_behind l.reached l.rest ≡ line_behind l.line l.bytes;
  within : l.reached + length l.rest ≤ l.line + length l.bytes;
}

abbrev pub decreases-loop-rest : goal.decreases-loop-rest
decreases-loop-rest l = length l.rest
