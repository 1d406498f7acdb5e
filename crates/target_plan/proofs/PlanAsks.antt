-- Each target of a plan is asked for by some entry.
use Rattle.std.proofs.Common.{◌≡◌, ℕ, inl, inr, true, false, List, map, get_or, refl, sym, subst}
use Rattle.std.specs.Prelude.{Contains}
use Rattle.std.specs.List.{All, filter}
use Rattle.std.proofs.lemmas.List.{get_or_default}
use Rattle.std.proofs.lemmas.List.Elements.{All-weaker}
use Rattle.acq_base.specs.declared.plan.Source.{Source}
use Rattle.acq_base.specs.declared.settings.Pick.{Pick}
use Rattle.acq_base.specs.declared.settings.Settings.{Settings}
use Rattle.kept_hooks.specs.Picking.{is_picked}
use Rattle.source_lists.specs.declared.entry.Entry.{Entry}
use Rattle.target_plan.specs.declared.offers.Offer.{Offer}
use Rattle.target_plan.specs.declared.draft.Planned.{Planned}
use Rattle.target_plan.specs.Groups.{first_of_each, together}
use Rattle.target_plan.specs.Offers.{is_exact, architectures, packages_of, translation_of, offers_of}
use Rattle.target_plan.specs.Drafts.{is_same_source, planned_of, is_same_name, picked_of, lists_of, source_of, draft_of, target_in, finished}
use Rattle.target_plan.specs.Asked.{Asks, IsAskedFor}
use Rattle.target_plan.proofs.PlanTargets.{all-first, all-map-from, all-filter, all-kept}
use Rattle.target_plan.proofs.EachOffer.{all-both, GivesExact, GivesOf, GivesEach, offers_all}

contained : {X : Type 0} (xs : List X) → All (Contains xs) xs
contained xs = λ k d within. (k, within, get_or_default xs k (get_or xs k d) d within)

module _ (settings : Settings) (entries : List Entry) (first : Entry) where
  abbrev OfSource : Entry → Type 0
  OfSource entry = Contains entries entry × (is_same_source first entry ≡ true)

  -- some entry of the source asks for the list
  record IsAskedHere (offer : Offer) : Type 0 where
    entry : Entry
    stands : Contains entries entry
    named : is_same_source first entry ≡ true
    asks : Asks settings first.suite entry offer.path offer.kind

  exact_asked : is_exact first.suite ≡ true → (entry : Entry) → OfSource entry → GivesExact settings IsAskedHere entry
  exact_asked exact entry of = record {
    packages = λ b. record { entry = entry; stands = of.0; named = of.1; asks = inl (exact, inl (b, refl, refl)) };
    sources = λ s. record { entry = entry; stands = of.0; named = of.1; asks = inl (exact, inr (s, refl, refl)) };
  }

  part_asked : is_exact first.suite ≡ false → (entry : Entry) → OfSource entry → (component : List ℕ) → Contains entry.components component → GivesOf settings IsAskedHere entry component
  part_asked other entry of component part = record {
    packages = λ b. All-weaker (Contains (architectures settings entry)) (λ arch. IsAskedHere (packages_of component entry arch))
        (λ arch there. record { entry = entry; stands = of.0; named = of.1; asks = inr (other, (component, part, inl (b, arch, there, refl, refl))) })
        (architectures settings entry) (contained (architectures settings entry));
    sources = λ s. record { entry = entry; stands = of.0; named = of.1; asks = inr (other, (component, part, inr (inl (s, refl, refl)))) };
    translations = λ b. All-weaker (Contains settings.langs) (λ language. IsAskedHere (translation_of component entry language))
        (λ language there. record { entry = entry; stands = of.0; named = of.1; asks = inr (other, (component, part, inr (inr (b, language, there, refl, refl)))) })
        settings.langs (contained settings.langs);
  }

  parts_asked : is_exact first.suite ≡ false → (entry : Entry) → OfSource entry → GivesEach settings IsAskedHere entry
  parts_asked other entry of = All-weaker (Contains entry.components) (GivesOf settings IsAskedHere entry) (part_asked other entry of) entry.components (contained entry.components)

  members_of : All OfSource (filter (is_same_source first) entries)
  members_of = all-both (Contains entries) (λ entry. is_same_source first entry ≡ true) (filter (is_same_source first) entries) (all-filter (Contains entries) (is_same_source first) entries (contained entries)) (all-kept (is_same_source first) entries)

  offers_asked : All IsAskedHere (offers_of settings first.suite (filter (is_same_source first) entries))
  offers_asked =
      offers_all settings IsAskedHere first.suite (filter (is_same_source first) entries)
      (λ exact. All-weaker OfSource (GivesExact settings IsAskedHere) (exact_asked exact) (filter (is_same_source first) entries) members_of)
      (λ other. All-weaker OfSource (GivesEach settings IsAskedHere) (parts_asked other) (filter (is_same_source first) entries) members_of)

  module _ (pick : Pick) where
    abbrev source : Source
    source = finished (draft_of pick settings (first, filter (is_same_source first) entries))

    asked_target : (offer : Offer) → IsAskedHere offer → IsAskedFor settings entries source (planned_of first offer).target
    unfolding finished draft_of source_of is_same_source
    asked_target offer here = record { entry = here.entry; stands = here.stands; named = here.named; asks = here.asks }

    lists_asked : All (λ (planned : Planned). IsAskedFor settings entries source planned.target) (lists_of pick first (offers_of settings first.suite (filter (is_same_source first) entries)))
    unfolding lists_of
    lists_asked =
        let P = λ (planned : Planned). IsAskedFor settings entries source planned.target in
        let offers = offers_of settings first.suite (filter (is_same_source first) entries) in
        all-first P is_same_name (picked_of pick first offers)
        (all-filter P (λ (planned : Planned). is_picked pick planned.target) (map (planned_of first) offers)
        (all-map-from P (planned_of first) offers (All-weaker IsAskedHere (λ offer. P (planned_of first offer)) asked_target offers offers_asked)))

    source_asked : All (IsAskedFor settings entries source) source.targets
    unfolding finished draft_of
    source_asked = all-map-from (IsAskedFor settings entries source) target_in (lists_of pick first (offers_of settings first.suite (filter (is_same_source first) entries))) lists_asked

pub all_asked : (pick : Pick) (settings : Settings) (entries : List Entry) (sources : List Source) → sources ≡ map finished (map (draft_of pick settings) (together is_same_source entries)) → All (λ source. All (IsAskedFor settings entries source) source.targets) sources
unfolding together
all_asked pick settings entries sources are =
    let P = λ (source : Source). All (IsAskedFor settings entries source) source.targets in
    let group : Entry → Entry × List Entry = λ first. (first, filter (is_same_source first) entries) in
    let firsts = first_of_each is_same_source entries in
    subst (All P) (sym are)
    (all-map-from P finished (map (draft_of pick settings) (map group firsts))
    (all-map-from (λ draft. P (finished draft)) (draft_of pick settings) (map group firsts)
    (all-map-from (λ g. P (finished (draft_of pick settings g))) group firsts (λ k d within. source_asked settings entries _ pick))))
