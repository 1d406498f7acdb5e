use Rattle.std.proofs.Common.{◌≡◌, map, drop}
use Rattle.target_plan.specs.Offers.{translation_offers}
use Rattle.target_plan.specs.Seen.{seen_mention}
use Rattle.target_plan.proofs.offers.all_translations.Given as goal

abbrev pub invariant-loop-mention : goal.invariant-loop-mention
invariant-loop-mention l = record {
  same : l.offers.items ≡ l.fn.offers.items;
  rest : translation_offers l.settings l.component (map seen_mention (drop l.mention-index l.mentions)) ≡ translation_offers l.settings l.component (map seen_mention l.mentions);
}
