use Rattle.std.proofs.Common.{◌≡◌, ◌++◌, drop}
use Rattle.std.specs.List.{flat_map}
use Rattle.list_commits.specs.Loose.{kept_names, kept_of}
use Rattle.list_commits.proofs.loose.kept_row.Given as goal

-- the names so far, and those of the other sources
abbrev pub invariant-loop-source : goal.invariant-loop-source
invariant-loop-source l = l.kept ++ flat_map kept_of (drop l.source-index l.sources) ≡ kept_names l.sources
