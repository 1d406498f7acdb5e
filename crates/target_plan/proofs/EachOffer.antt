-- What holds of each list that entries offer.
use Rattle.std.proofs.Common.{◌≡◌, ℕ, Bool, true, false, List, [], ◌∷◌, ◌++◌, map, refl, sym, subst, codes}
use Rattle.std.specs.Prelude.{if◌then◌else◌}
use Rattle.std.specs.List.{All, flat_map, filter}
use Rattle.std.proofs.lemmas.List.Elements.{All-nil, All-cons, All-head, All-tail, All-append, All-weaker}
use Rattle.std.proofs.lemmas.Slice.Eq.{bytes_eq-Decides}
use Rattle.acq_base.specs.declared.plan.Kind.TheVariants.{Packages, Sources}
use Rattle.acq_base.specs.declared.settings.Settings.{Settings}
use Rattle.source_lists.specs.declared.entry.Entry.{Entry}
use Rattle.target_plan.specs.declared.offers.Offer.{Offer}
use Rattle.target_plan.specs.Groups.{first_of_each, together}
use Rattle.target_plan.specs.Offers.{Asked, Mention, offer, is_exact, architectures, packages_of, sources_of, translation_of, asked_by_entry, asked_by, asked_in, is_same_arch, packages_offers, sources_offers, translation_offers, component_offers, mentions_of, mentions_in, is_same_component, suite_offers, exact_packages, exact_sources, exact_offers, offers_of}
use Rattle.target_plan.proofs.PlanTargets.{all-first, all-map-from, all-filter, all-kept}

pub all-flat-map : {X Y : Type 0} (R : X → Type 0) (P : Y → Type 0) (f : X → List Y) (xs : List X) → ((x : X) → R x → All P (f x)) → All R xs → All P (flat_map f xs)
all-flat-map R P f [] each all = All-nil P
all-flat-map R P f (x ∷ xs) each all = All-append P (f x) (flat_map f xs) (each x (All-head R x xs all)) (all-flat-map R P f xs each (All-tail R x xs all))

pub all-both : {X : Type 0} (P Q : X → Type 0) (xs : List X) → All P xs → All Q xs → All (λ x. P x × Q x) xs
all-both P Q xs p q = λ k d within. (p k d within, q k d within)

all-if : {X : Type 0} (P : X → Type 0) (b : Bool) (xs : List X) → (b ≡ true → All P xs) → All P (if b then xs else [])
all-if P true xs each = each refl
all-if P false xs each = All-nil P

all-one : {X : Type 0} (P : X → Type 0) (x : X) → P x → All P (x ∷ [])
all-one P x p = All-cons P x [] p (All-nil P)

module _ (settings : Settings) (P : Offer → Type 0) where
  -- it holds of what an entry offers of an exact path
  pub record GivesExact (entry : Entry) : Type 0 where
    pub packages : entry.binary ≡ true → P (offer (codes "Packages") (Packages settings.arch) entry)
    pub sources : entry.source ≡ true → P (offer (codes "Sources") Sources entry)

  -- it holds of what an entry offers of a component
  pub record GivesOf (entry : Entry) (component : List ℕ) : Type 0 where
    pub packages : entry.binary ≡ true → All (λ arch. P (packages_of component entry arch)) (architectures settings entry)
    pub sources : entry.source ≡ true → P (sources_of component entry)
    pub translations : entry.binary ≡ true → All (λ language. P (translation_of component entry language)) settings.langs

  abbrev pub GivesEach : Entry → Type 0
  GivesEach entry = All (GivesOf entry) entry.components

  exact_all : (entries : List Entry) → All GivesExact entries → All P (exact_offers settings entries)
  unfolding exact_offers
  exact_all entries all =
      All-append P (flat_map (exact_packages settings) entries) (flat_map exact_sources entries)
      (all-flat-map GivesExact P (exact_packages settings) entries (λ entry gives. all-if P entry.binary _ (λ is. all-one P _ (gives.packages is))) all)
      (all-flat-map GivesExact P exact_sources entries (λ entry gives. all-if P entry.source _ (λ is. all-one P _ (gives.sources is))) all)

  module _ (component : List ℕ) where
    abbrev GivesIt : Mention → Type 0
    GivesIt mention = GivesOf mention.1 component

    abbrev OfAsked : Asked → Type 0
    OfAsked asked = P (packages_of component asked.1 asked.0)

    asked_all : (entry : Entry) → GivesOf entry component → All OfAsked (asked_by_entry settings entry)
    asked_all entry gives =
        all-if OfAsked entry.binary (map (λ arch. (arch, entry)) (architectures settings entry)) (λ is. all-map-from OfAsked (λ (arch : List ℕ). (arch, entry)) (architectures settings entry) (gives.packages is))

    packages_all : (mentions : List Mention) → All GivesIt mentions → All P (packages_offers settings component mentions)
    unfolding packages_offers asked_in
    packages_all mentions all =
        all-map-from P (λ (asked : Asked). packages_of component asked.1 asked.0) (first_of_each is_same_arch (asked_in settings mentions))
        (all-first OfAsked is_same_arch (asked_in settings mentions) (all-flat-map GivesIt OfAsked (asked_by settings) mentions (λ mention gives. asked_all mention.1 gives) all))

    sources_all : (mentions : List Mention) → All GivesIt mentions → All P (sources_offers component mentions)
    unfolding sources_offers
    sources_all [] all = All-nil P
    sources_all (mention ∷ mentions) all = by mention.1.source (All-head GivesIt mention mentions all).sources (sources_all mentions (All-tail GivesIt mention mentions all)) where
      by : (b : Bool) → (b ≡ true → P (sources_of component mention.1)) → All P (sources_offers component mentions) → All P (if b then sources_of component mention.1 ∷ [] else sources_offers component mentions)
      by true here rest = all-one P (sources_of component mention.1) (here refl)
      by false here rest = rest

    translations_all : (mentions : List Mention) → All GivesIt mentions → All P (translation_offers settings component mentions)
    unfolding translation_offers
    translations_all [] all = All-nil P
    translations_all (mention ∷ mentions) all = by mention.1.binary (All-head GivesIt mention mentions all).translations (translations_all mentions (All-tail GivesIt mention mentions all)) where
      by : (b : Bool) → (b ≡ true → All (λ language. P (translation_of component mention.1 language)) settings.langs) → All P (translation_offers settings component mentions)
          → All P (if b then map (translation_of component mention.1) settings.langs else translation_offers settings component mentions)
      by true here rest = all-map-from P (translation_of component mention.1) settings.langs (here refl)
      by false here rest = rest

    mentions_all : (mentions : List Mention) → All GivesIt mentions → (first : Mention) → first.0 ≡ component → All P (component_offers settings (first, mentions))
    unfolding component_offers
    mentions_all mentions all first is =
        subst (λ (c : List ℕ). All P (packages_offers settings c mentions ++ sources_offers c mentions ++ translation_offers settings c mentions)) (sym is)
        (All-append P (packages_offers settings component mentions ++ sources_offers component mentions) (translation_offers settings component mentions)
        (All-append P (packages_offers settings component mentions) (sources_offers component mentions) (packages_all mentions all) (sources_all mentions all)) (translations_all mentions all))

  abbrev GivesMentioned : Mention → Type 0
  GivesMentioned mention = GivesOf mention.1 mention.0

  same_mention : (first other : Mention) → GivesMentioned other × (is_same_component first other ≡ true) → GivesOf other.1 first.0
  same_mention first other (gives, same) = subst (GivesOf other.1) (sym ((bytes_eq-Decides first.0 other.0).0 same)) gives

  group_all : (mentions : List Mention) → All GivesMentioned mentions → (first : Mention) → All P (component_offers settings (first, filter (is_same_component first) mentions))
  group_all mentions all first =
      let members = filter (is_same_component first) mentions in
      let Q = λ (m : Mention). is_same_component first m ≡ true in
      mentions_all first.0 members
      (All-weaker (λ (m : Mention). GivesMentioned m × Q m) (GivesIt first.0) (same_mention first) members (all-both GivesMentioned Q members (all-filter GivesMentioned (is_same_component first) mentions all) (all-kept (is_same_component first) mentions)))
      first refl

  suite_all : (entries : List Entry) → All GivesEach entries → All P (suite_offers settings entries)
  unfolding suite_offers mentions_in together
  suite_all entries all =
      let mentions = mentions_in entries in
      let of_each = all-flat-map GivesEach GivesMentioned mentions_of entries (λ entry gives. all-map-from GivesMentioned (λ (component : List ℕ). (component, entry)) entry.components gives) all in
      let groups : Mention → Mention × List Mention = λ first. (first, filter (is_same_component first) mentions) in
      all-flat-map (λ group. All P (component_offers settings group)) P (component_offers settings) (map groups (first_of_each is_same_component mentions)) (λ group each. each)
      (all-map-from (λ group. All P (component_offers settings group)) groups (first_of_each is_same_component mentions) (λ k d within. group_all mentions of_each _))

  pub offers_all : (suite : List ℕ) (entries : List Entry) → (is_exact suite ≡ true → All GivesExact entries) → (is_exact suite ≡ false → All GivesEach entries) → All P (offers_of settings suite entries)
  unfolding offers_of
  offers_all suite entries exact other = by (is_exact suite) exact other where
    by : (b : Bool) → (b ≡ true → All GivesExact entries) → (b ≡ false → All GivesEach entries) → All P (if b then exact_offers settings entries else suite_offers settings entries)
    by true e o = exact_all entries (e refl)
    by false e o = suite_all entries (o refl)
