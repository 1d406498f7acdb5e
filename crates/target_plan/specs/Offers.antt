-- What the entries of one source offer (sources.list(5)): lists by their paths below the folder of the Release.
use Rattle.std.specs.Prelude.{ℕ, ◌==◌, Bool, if◌then◌else◌, List, [], ◌∷◌, ◌++◌, map, codes, bytes_eq, unwrap_or}
use Rattle.std.specs.List.{flat_map, ends_with}
use Rattle.acq_base.specs.declared.plan.Kind.{Kind}
use Rattle.acq_base.specs.declared.plan.Kind.TheVariants.{Packages, Sources, Translation}
use Rattle.acq_base.specs.declared.settings.Settings.{Settings}
use Rattle.source_lists.specs.declared.entry.Entry.{Entry}
use Rattle.target_plan.specs.declared.error.Place.{Place}
use Rattle.target_plan.specs.declared.offers.Offer.{Offer}
use Rattle.target_plan.specs.Groups.{first_of_each, together}

-- the suite is the exact path of a folder
abbrev pub is_exact : List ℕ → Bool
is_exact suite = ends_with (λ a b. a == b) suite (codes "/")

abbrev pub place_of : Entry → Place
place_of entry = record { file = entry.file; line = entry.line }

-- an entry gives a list
abbrev pub offer : List ℕ → Kind → Entry → Offer
offer path kind entry = record { path = path; kind = kind; origin = place_of entry }

-- the architectures that an entry names, or the setting's
abbrev pub architectures : Settings → Entry → List (List ℕ)
architectures settings entry = unwrap_or entry.archs settings.archs

-- ---- an exact path

abbrev pub exact_packages : Settings → Entry → List Offer
exact_packages settings entry = if entry.binary then offer (codes "Packages") (Packages settings.arch) entry ∷ [] else []

abbrev pub exact_sources : Entry → List Offer
exact_sources entry = if entry.source then offer (codes "Sources") Sources entry ∷ [] else []

unfoldable pub exact_offers : Settings → List Entry → List Offer
exact_offers settings entries = flat_map (exact_packages settings) entries ++ flat_map exact_sources entries

-- ---- components

abbrev pub packages_of : List ℕ → Entry → List ℕ → Offer
packages_of component entry arch = offer (component ++ codes "/binary-" ++ arch ++ codes "/Packages") (Packages arch) entry

abbrev pub sources_of : List ℕ → Entry → Offer
sources_of component entry = offer (component ++ codes "/source/Sources") Sources entry

abbrev pub translation_of : List ℕ → Entry → List ℕ → Offer
translation_of component entry language = offer (component ++ codes "/i18n/Translation-" ++ language) (Translation language) entry

-- a component that an entry names
abbrev pub Mention : Type 0
Mention = List ℕ × Entry

abbrev pub mentions_of : Entry → List Mention
mentions_of entry = map (λ component. (component, entry)) entry.components

unfoldable pub mentions_in : List Entry → List Mention
mentions_in entries = flat_map mentions_of entries

abbrev pub is_same_component : Mention → Mention → Bool
is_same_component a b = bytes_eq a.0 b.0

-- an architecture that an entry asks for
abbrev pub Asked : Type 0
Asked = List ℕ × Entry

-- those of an entry of the type `deb`
abbrev pub asked_by_entry : Settings → Entry → List Asked
asked_by_entry settings entry = if entry.binary then map (λ arch. (arch, entry)) (architectures settings entry) else []

abbrev pub asked_by : Settings → Mention → List Asked
asked_by settings mention = asked_by_entry settings mention.1

unfoldable pub asked_in : Settings → List Mention → List Asked
asked_in settings mentions = flat_map (asked_by settings) mentions

abbrev pub is_same_arch : Asked → Asked → Bool
is_same_arch a b = bytes_eq a.0 b.0

-- binary packages, for each architecture in the order in which the entries first ask for it
unfoldable pub packages_offers : Settings → List ℕ → List Mention → List Offer
packages_offers settings component mentions = map (λ asked. packages_of component asked.1 asked.0) (first_of_each is_same_arch (asked_in settings mentions))

-- source packages, where an entry has them
unfoldable pub sources_offers : List ℕ → List Mention → List Offer
sources_offers component [] = []
sources_offers component (mention ∷ mentions) = if mention.1.source then sources_of component mention.1 ∷ [] else sources_offers component mentions

-- descriptions in each language, where an entry has binary packages
unfoldable pub translation_offers : Settings → List ℕ → List Mention → List Offer
translation_offers settings component [] = []
translation_offers settings component (mention ∷ mentions) =
    if mention.1.binary then map (translation_of component mention.1) settings.langs else translation_offers settings component mentions

-- what the entries that name a component offer of it
unfoldable pub component_offers : Settings → Mention × List Mention → List Offer
component_offers settings group =
    packages_offers settings group.0.0 group.1 ++ sources_offers group.0.0 group.1 ++ translation_offers settings group.0.0 group.1

-- component by component, in the order in which the entries first name them
unfoldable pub suite_offers : Settings → List Entry → List Offer
suite_offers settings entries = flat_map (component_offers settings) (together is_same_component (mentions_in entries))

-- what the entries of a source offer, in plan order; the same list may come more than once
unfoldable pub offers_of : Settings → List ℕ → List Entry → List Offer
offers_of settings suite entries = if is_exact suite then exact_offers settings entries else suite_offers settings entries
