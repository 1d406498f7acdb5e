use Rattle.std.proofs.Common.{◌≡◌, ◌∙◌, List, ◌++◌, map, ap, append_assoc}
use Rattle.target_plan.specs.Offers.{component_offers, packages_offers, sources_offers, translation_offers}
use Rattle.target_plan.specs.Seen.{seen_mention}
use Rattle.target_plan.proofs.offers.component_offers.Goals as goal

three_more : {X : Type 0} (old a b c one two three : List X) → one ≡ old ++ a → two ≡ one ++ b → three ≡ two ++ c → three ≡ old ++ (a ++ b ++ c)
three_more {X} old a b c one two three first second third =
    third ∙ ap (λ (xs : List X). xs ++ c) (second ∙ ap (λ (xs : List X). xs ++ b) first) ∙ ap (λ (xs : List X). xs ++ c) (append_assoc old a b) ∙ append_assoc old (a ++ b) c

pub returns : goal.returns
unfolding component_offers
returns c =
    let settings = c.args.settings.now in
    let component = c.as_bytes-component.ensures in
    three_more _ _ _ _ _ _ _
    (c.in_ok-all_packages.ensures ∙ (λ i. c.args.offers.now.items ++ packages_offers settings (component i) (map seen_mention (c.as_slice.ensures.value i))))
    (c.in_ok-all_sources.ensures ∙ (λ i. c.all_packages.new.offers.items ++ sources_offers (component i) (map seen_mention (c.as_slice-2.ensures.value i))))
    (c.in_ok-all_translations.ensures ∙ (λ i. c.all_sources.new.offers.items ++ translation_offers settings (component i) (map seen_mention (c.as_slice-3.ensures.value i))))
