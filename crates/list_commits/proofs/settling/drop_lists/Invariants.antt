use Rattle.std.proofs.Common.{◌≡◌, ◌++◌, vec_len}
use Rattle.std.specs.Prelude.{map, reverse}
use Rattle.list_commits.specs.Changes.{drop_for}
use Rattle.list_commits.proofs.settling.drop_lists.Given as goal

-- the changes so far, and those of the other lists
abbrev pub invariant-loop-name : goal.invariant-loop-name
invariant-loop-name l = l.changes ++ map drop_for (reverse l.rest.items) ≡ l.fn.changes ++ map drop_for l.fn.drops

abbrev pub decreases-loop-name : goal.decreases-loop-name
decreases-loop-name l = vec_len l.rest
