use Rattle.std.proofs.Common.{◌≡◌, ◌-◌, ◌≤◌}
use Rattle.mirror_maker.specs.Made.{first_before, second_before, state_of}
use Rattle.mirror_maker.proofs.made.make.Given as goal

abbrev pub invariant-loop-source : goal.invariant-loop-source
invariant-loop-source l = record {
  state : l.draws.state ≡ state_of l.fn.n l.source;
  first : l.first ≡ first_before l.fn.n l.source;
  second : l.second ≡ second_before l.fn.n l.source;
  within : l.source ≤ 4;
}

abbrev pub decreases-loop-source : goal.decreases-loop-source
decreases-loop-source l = 4 - l.source
