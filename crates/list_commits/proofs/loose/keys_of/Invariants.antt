use Rattle.std.proofs.Common.{◌≡◌, ◌++◌}
use Rattle.std.specs.BTreeSet.{btree_set_len}
use Rattle.list_commits.proofs.loose.keys_of.Given as goal

-- the keys so far, and the rest
abbrev pub invariant-loop-name : goal.invariant-loop-name
invariant-loop-name l = l.row ++ l.rest.keys ≡ l.fn.set.keys

abbrev pub decreases-loop-name : goal.decreases-loop-name
decreases-loop-name l = btree_set_len l.rest
