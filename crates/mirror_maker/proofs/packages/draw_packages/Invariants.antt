use Rattle.std.proofs.Common.{◌≡◌, ◌+◌, ◌++◌, length}
use Rattle.mirror_maker.specs.Packages.{behind, packages}
use Rattle.mirror_maker.proofs.packages.draw_packages.Given as goal

abbrev pub invariant-loop-left : goal.invariant-loop-left
invariant-loop-left l = record {
  packages : l.drawn ++ packages l.left l.draws.state ≡ packages l.count l.fn.draws.state;
  state : behind l.left l.draws.state ≡ behind l.count l.fn.draws.state;
  few : length l.drawn + l.left ≡ l.count;
}

abbrev pub decreases-loop-left : goal.decreases-loop-left
decreases-loop-left l = l.left
