-- The entries so far stand behind those from before.
use Rattle.std.proofs.Common.{◌≡◌, ◌++◌, take}
use Rattle.configuration.proofs.lists.add_entries.Given as goal

abbrev pub invariant-loop-entry : goal.invariant-loop-entry
invariant-loop-entry l = l.entries ≡ l.fn.entries ++ take l.entry-index l.found
