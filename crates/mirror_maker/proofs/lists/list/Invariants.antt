use Rattle.std.proofs.Common.{◌≡◌, ◌+◌, ◌++◌, length}
use Rattle.mirror_maker.specs.Lists.{list_from}
use Rattle.mirror_maker.proofs.lists.list.Given as goal

abbrev pub invariant-loop-left : goal.invariant-loop-left
invariant-loop-left l = record {
  text : l.text ++ list_from l.day l.place l.left ≡ list_from l.day 0 l.packages;
  place : l.place + length l.left ≡ length l.packages;
}

abbrev pub decreases-loop-left : goal.decreases-loop-left
decreases-loop-left l = length l.left
