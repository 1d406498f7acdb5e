use Rattle.std.proofs.Common.{◌≡◌, ◌++◌, vec_len}
use Rattle.std.specs.Prelude.{filter, reverse}
use Rattle.list_commits.specs.Loose.{is_loose}
use Rattle.list_commits.proofs.loose.without.Given as goal

-- the names so far, and the others among the rest
abbrev pub invariant-loop-name : goal.invariant-loop-name
invariant-loop-name l =
    l.others ++ filter (is_loose l.kept) (reverse l.rest.items) ≡ filter (is_loose l.kept) l.fn.names

abbrev pub decreases-loop-name : goal.decreases-loop-name
decreases-loop-name l = vec_len l.rest
