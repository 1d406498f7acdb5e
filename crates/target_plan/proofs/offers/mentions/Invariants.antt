use Rattle.std.proofs.Common.{◌≡◌, map, take}
use Rattle.std.specs.List.{flat_map}
use Rattle.target_plan.specs.Offers.{mentions_of}
use Rattle.target_plan.specs.Seen.{seen_entry, seen_mention}
use Rattle.target_plan.proofs.offers.mentions.Given as goal

abbrev pub invariant-loop-entry : goal.invariant-loop-entry
invariant-loop-entry l = map seen_mention l.mentions.items ≡ flat_map mentions_of (map seen_entry (take l.entry-index l.entries))
