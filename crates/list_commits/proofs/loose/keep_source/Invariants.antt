use Rattle.std.proofs.Common.{◌≡◌, ◌++◌, drop}
use Rattle.std.specs.Prelude.{map}
use Rattle.list_commits.specs.Loose.{kept_of, with_parts}
use Rattle.list_commits.proofs.loose.keep_source.Given as goal

-- the names so far, and those of the other lists
abbrev pub invariant-loop-target : goal.invariant-loop-target
invariant-loop-target l = l.kept ++ with_parts (map (λ target. target.name.0) (drop l.target-index l.source.targets)) ≡ l.fn.kept ++ kept_of l.source
