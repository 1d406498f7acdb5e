use Rattle.std.proofs.Common.{◌≡◌, ◌≤◌, drop, length}
use Rattle.mirror_maker.specs.Lists.{script_from}
use Rattle.mirror_maker.proofs.lists.script.Given as goal

abbrev pub invariant-loop-place : goal.invariant-loop-place
invariant-loop-place l = record {
  text : l.text ≡ script_from l.place (drop l.place l.packages);
  place : l.place ≤ length l.packages;
}

abbrev pub decreases-loop-place : goal.decreases-loop-place
decreases-loop-place l = l.place
