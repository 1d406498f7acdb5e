use Rattle.std.proofs.Common.{◌≡◌, ◌++◌, map, vec_len}
use Rattle.std.specs.Prelude.{reverse}
use Rattle.board_model.specs.Settling.{end_in}
use Rattle.board_source.specs.Listed.{standings}
use Rattle.board_slot.proofs.ends.ends.Given as goal

-- the ends so far, and those of the rest
abbrev pub invariant-loop-item : goal.invariant-loop-item
invariant-loop-item l = l.ends.items ++ map end_in (standings (reverse l.rest.items)) ≡ map end_in (standings l.fn.items.items)

abbrev pub decreases-loop-item : goal.decreases-loop-item
decreases-loop-item l = vec_len l.rest
