use Rattle.std.proofs.Common.{◌≡◌, map, drop}
use Rattle.target_plan.specs.Drafts.{by_hash_of}
use Rattle.target_plan.specs.Seen.{seen_entry}
use Rattle.target_plan.proofs.draft.by_hash.Given as goal

abbrev pub invariant-loop-entry : goal.invariant-loop-entry
invariant-loop-entry l = by_hash_of l.setting (map seen_entry (drop l.entry-index l.entries)) ≡ by_hash_of l.setting (map seen_entry l.entries)
