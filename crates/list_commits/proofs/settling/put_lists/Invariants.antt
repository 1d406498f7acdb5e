use Rattle.std.proofs.Common.{◌≡◌, ◌++◌, vec_len}
use Rattle.std.specs.Prelude.{map, reverse}
use Rattle.list_commits.specs.Changes.{put_for}
use Rattle.list_commits.proofs.settling.put_lists.Given as goal

-- the changes so far, and those of the other lists
abbrev pub invariant-loop-name : goal.invariant-loop-name
invariant-loop-name l = l.changes ++ map put_for (reverse l.rest.items) ≡ l.fn.changes ++ map put_for l.fn.puts

abbrev pub decreases-loop-name : goal.decreases-loop-name
decreases-loop-name l = vec_len l.rest
