use Rattle.std.proofs.Common.{◌≡◌, ◌+◌, length}
use Rattle.apt_conf.specs.Keys.{common_length}
use Rattle.apt_conf.proofs.lookup.common_length.Given as goal

abbrev pub invariant-loop-left : goal.invariant-loop-left
invariant-loop-left l = record {
  read : l.count + common_length l.left l.right ≡ common_length l.first l.second;
  within : l.count + length l.left ≡ length l.first;
  within_second : l.count + length l.right ≡ length l.second;
}

abbrev pub decreases-loop-left : goal.decreases-loop-left
decreases-loop-left l = length l.left
