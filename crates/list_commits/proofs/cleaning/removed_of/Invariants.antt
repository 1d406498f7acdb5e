use Rattle.std.proofs.Common.{◌≡◌, ◌++◌, drop}
use Rattle.list_commits.specs.Loose.{removed_names}
use Rattle.list_commits.proofs.cleaning.removed_of.Given as goal

-- the names so far, and those among the rest
abbrev pub invariant-loop-name : goal.invariant-loop-name
invariant-loop-name l = l.removed ++ removed_names (drop l.name-index l.names) ≡ removed_names l.names
