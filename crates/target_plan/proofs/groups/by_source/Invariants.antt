use Rattle.std.proofs.Common.{map, take}
use Rattle.target_plan.specs.Drafts.{is_same_source}
use Rattle.target_plan.specs.Seen.{key_of, key_cmp, seen_entry, seen_group}
use Rattle.target_plan.proofs.Grouping.{AreGrouped}
use Rattle.target_plan.proofs.GroupLemmas.{key_total, same_key}
use Rattle.target_plan.proofs.groups.by_source.Given as goal

abbrev pub invariant-loop-entry : goal.invariant-loop-entry
invariant-loop-entry l = AreGrouped is_same_source key_cmp key_total key_of same_key l.places (map (seen_group seen_entry) l.groups.items) (take l.entry-index l.entries)
