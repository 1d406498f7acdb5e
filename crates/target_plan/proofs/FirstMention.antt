-- The first mention by an entry of a type.
use Rattle.std.proofs.Common.{◌≡◌, ◌∙◌, ℕ, ◌+◌, ◌<◌, ◌≤◌, Bool, true, length, drop, slice_index_or, List, [], ◌∷◌, map, sym, ap}
use Rattle.std.specs.Prelude.{if◌then◌else◌}
use Rattle.std.proofs.lemmas.List.{drop_more, drop_all}
use Rattle.acq_base.specs.declared.settings.Settings.{Settings}
use Rattle.target_plan.specs.declared.groups.Mention.{Mention}
use Rattle.target_plan.specs.Offers.{sources_of, translation_of, sources_offers, translation_offers}
use Rattle.target_plan.specs.Seen.{seen_mention}

from_here : (mentions : List Mention) (at : ℕ) (x : Mention) → at < length mentions → x ≡ slice_index_or mentions at x → drop at mentions ≡ x ∷ drop (at + 1) mentions
from_here mentions at x within is = drop_more mentions at x within ∙ ap (λ (y : Mention). y ∷ drop (at + 1) mentions) (sym is)

module _ (component : List ℕ) (mentions : List Mention) where
  pub sources_here : (at : ℕ) (x : Mention) → at < length mentions → x ≡ slice_index_or mentions at x → x.entry.now.source ≡ true → sources_offers component (map seen_mention (drop at mentions)) ≡ sources_of component x.entry.now ∷ []
  unfolding sources_offers
  sources_here at x within is source =
      ap (λ (ms : List Mention). sources_offers component (map seen_mention ms)) (from_here mentions at x within is)
      ∙ ap (λ (b : Bool). if b then sources_of component x.entry.now ∷ [] else sources_offers component (map seen_mention (drop (at + 1) mentions))) source

  pub sources_end : (at : ℕ) → length mentions ≤ at → sources_offers component (map seen_mention (drop at mentions)) ≡ []
  unfolding sources_offers
  sources_end at past = ap (λ (ms : List Mention). sources_offers component (map seen_mention ms)) (drop_all at mentions past)

  module _ (settings : Settings) where
    pub translations_here : (at : ℕ) (x : Mention) → at < length mentions → x ≡ slice_index_or mentions at x → x.entry.now.binary ≡ true
        → translation_offers settings component (map seen_mention (drop at mentions)) ≡ map (translation_of component x.entry.now) settings.langs
    unfolding translation_offers
    translations_here at x within is binary =
        ap (λ (ms : List Mention). translation_offers settings component (map seen_mention ms)) (from_here mentions at x within is)
        ∙ ap (λ (b : Bool). if b then map (translation_of component x.entry.now) settings.langs else translation_offers settings component (map seen_mention (drop (at + 1) mentions))) binary

    pub translations_end : (at : ℕ) → length mentions ≤ at → translation_offers settings component (map seen_mention (drop at mentions)) ≡ []
    unfolding translation_offers
    translations_end at past = ap (λ (ms : List Mention). translation_offers settings component (map seen_mention ms)) (drop_all at mentions past)
