use Rattle.std.proofs.Common.{◌≡◌, ◌++◌, take}
use Rattle.journal_model.specs.Spelling.{groups_bytes}
use Rattle.journal_model.proofs.writing.write_groups.Given as goal

abbrev pub invariant-loop-group : goal.invariant-loop-group
invariant-loop-group l = l.body ≡ l.fn.body ++ groups_bytes (take l.group-index l.groups)
