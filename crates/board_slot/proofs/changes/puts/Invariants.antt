use Rattle.std.proofs.Common.{◌≡◌, ◌++◌, drop}
use Rattle.std.specs.Prelude.{reverse}
use Rattle.board_slot.specs.Ended.{puts_in}
use Rattle.board_slot.proofs.changes.puts.Given as goal

-- the files so far, and those of the other targets
abbrev pub invariant-loop-target : goal.invariant-loop-target
invariant-loop-target l = l.puts ++ puts_in (drop l.target-index l.targets) (reverse l.rest.items) ≡ puts_in l.targets l.fn.ends.items
