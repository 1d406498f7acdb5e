use Rattle.std.proofs.Common.{◌≡◌, map, take}
use Rattle.std.specs.List.{flat_map}
use Rattle.target_plan.specs.Offers.{asked_by}
use Rattle.target_plan.specs.Seen.{seen_asked, seen_mention}
use Rattle.target_plan.proofs.architectures.asked_in.Given as goal

abbrev pub invariant-loop-mention : goal.invariant-loop-mention
invariant-loop-mention l = map seen_asked l.asked.items ≡ flat_map (asked_by l.settings) (map seen_mention (take l.mention-index l.mentions))
