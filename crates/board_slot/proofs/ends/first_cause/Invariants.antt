use Rattle.std.proofs.Common.{◌≡◌, drop}
use Rattle.board_slot.specs.Ended.{all_had_in}
use Rattle.board_slot.proofs.ends.first_cause.Given as goal

-- none before has a cause
abbrev pub invariant-loop-end : goal.invariant-loop-end
invariant-loop-end l = all_had_in (drop l.end-index l.ends) ≡ all_had_in l.ends
