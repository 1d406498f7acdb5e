use Rattle.std.proofs.Common.{◌≡◌, ◌++◌, vec_len}
use Rattle.std.specs.Prelude.{reverse}
use Rattle.list_commits.specs.Changes.{drops_for}
use Rattle.list_commits.proofs.cleaning.drops_of.Given as goal

-- the changes so far, and those of the other names
abbrev pub invariant-loop-name : goal.invariant-loop-name
invariant-loop-name l = l.changes ++ drops_for (reverse l.rest.items) ≡ drops_for l.fn.names

abbrev pub decreases-loop-name : goal.decreases-loop-name
decreases-loop-name l = vec_len l.rest
