-- A plan of sound entries and settings is sound.
use Rattle.std.proofs.Common.{◌≡◌, ◌≢◌, ℕ, ◌≤◌, ◌==◌, inl, inr, Bool, true, false, List, [], ◌∷◌, ◌++◌, length, map, IsTrue, refl, sym, subst, codes, arith}
use Rattle.std.specs.Prelude.{◌&&◌, ◌||◌, not, if◌then◌else◌, bytes_eq, IfSome, Some, None, Option, unwrap_or}
use Rattle.std.specs.List.{All, AllPairs, flat_map, filter, list_all, list_any}
use Rattle.std.specs.Char.{is_ascii_alphanumeric}
use Rattle.std.proofs.lemmas.Bool.{and_parts, or_cases, or_left, or_right, eqb-true}
use Rattle.std.proofs.lemmas.List.Elements.{All-nil, All-cons, All-head, All-tail, All-append, All-weaker}
use Rattle.acq_base.specs.declared.plan.Plan.{Plan}
use Rattle.acq_base.specs.declared.plan.Source.{Source}
use Rattle.acq_base.specs.declared.plan.Target.{Target}
use Rattle.acq_base.specs.declared.settings.Pick.{Pick}
use Rattle.acq_base.specs.declared.settings.Settings.{Settings}
use Rattle.acq_base.specs.declared.uri.Uri.{Uri}
use Rattle.acq_base.specs.Plan.{IsSoundTarget, IsSoundSource, names_of, plan_names, IsSound}
use Rattle.acq_base.specs.Settings.{is_architecture, is_architecture_character, is_language, is_language_character, IsArchitecture, IsLanguage, IsSound as IsSoundSettings}
use Rattle.acq_base.specs.Uri.{IsSound as IsSoundUri, list_name}
use Rattle.uri_names.specs.Folder.{below_of, is_below_character, AreBelowCharacters}
use Rattle.kept_hooks.specs.Picking.{is_picked}
use Rattle.source_lists.specs.declared.entry.Entry.{Entry}
use Rattle.source_lists.specs.Values.{is_name_character, is_path_character, is_path, is_component, is_empty, leads_up, begins_with_slash, ends_with_slash}
use Rattle.source_lists.specs.Sound.{IsPath, IsComponent, AreArchitectures, IsSound as IsSoundEntry}
use Rattle.target_plan.specs.declared.offers.Offer.{Offer}
use Rattle.target_plan.specs.declared.draft.Planned.{Planned}
use Rattle.target_plan.specs.Groups.{first_of_each, together}
use Rattle.target_plan.specs.Offers.{is_exact, architectures, packages_of, translation_of, offers_of}
use Rattle.target_plan.specs.Drafts.{is_same_source, folder_of, file_uri, planned_of, is_same_name, picked_of, lists_of, source_of, draft_of, drafts_of, target_in, finished}
use Rattle.target_plan.proofs.PlanTargets.{all-first, all-map-from, all-filter}
use Rattle.target_plan.proofs.EachOffer.{GivesExact, GivesOf, GivesEach, offers_all}

-- ---- characters

any_more : (xs ys : List ℕ) (c : ℕ) → list_any (λ d. c == d) xs ≡ true → list_any (λ d. c == d) (xs ++ ys) ≡ true
any_more [] ys c e = absurd (cc)
any_more (x ∷ xs) ys c e =
    elim (or_cases (c == x) (list_any (λ d. c == d) xs) e) [
      | inl here ↦ or_left (c == x) (list_any (λ d. c == d) (xs ++ ys)) here
      | inr later ↦ or_right (c == x) (list_any (λ d. c == d) (xs ++ ys)) (any_more xs ys c later)
    ]

slash_below : is_below_character 47 ≡ true
slash_below = refl

underscore_below : is_below_character 95 ≡ true
underscore_below = refl

minus_below : is_below_character 45 ≡ true
minus_below = refl

name_below : (c : ℕ) → is_name_character c ≡ true → is_below_character c ≡ true
name_below c e =
    elim (or_cases (is_ascii_alphanumeric c) (list_any (λ d. c == d) (codes "._-+~:")) e) [
      | inl letter ↦ or_left (is_ascii_alphanumeric c) (list_any (λ d. c == d) (codes "._-+~:/")) letter
      | inr mark ↦ or_right (is_ascii_alphanumeric c) (list_any (λ d. c == d) (codes "._-+~:/")) (any_more (codes "._-+~:") (codes "/") c mark)
    ]

path_below : (c : ℕ) → is_path_character c ≡ true → is_below_character c ≡ true
path_below c e =
    elim (or_cases (is_name_character c) (c == 47) e) [
      | inl name ↦ name_below c name
      | inr slash ↦ subst (λ d. is_below_character d ≡ true) (sym (eqb-true c 47 slash)) slash_below
    ]

language_below : (c : ℕ) → is_language_character c ≡ true → is_below_character c ≡ true
language_below c e =
    elim (or_cases (is_ascii_alphanumeric c || c == 95) (c == 45) e) [
      | inl first ↦
          elim (or_cases (is_ascii_alphanumeric c) (c == 95) first) [
            | inl letter ↦ or_left (is_ascii_alphanumeric c) (list_any (λ d. c == d) (codes "._-+~:/")) letter
            | inr underscore ↦ subst (λ d. is_below_character d ≡ true) (sym (eqb-true c 95 underscore)) underscore_below
          ]
      | inr minus ↦ subst (λ d. is_below_character d ≡ true) (sym (eqb-true c 45 minus)) minus_below
    ]

chars : (test : ℕ → Bool) → ((c : ℕ) → test c ≡ true → is_below_character c ≡ true) → (text : List ℕ) → list_all test text ≡ true → AreBelowCharacters text
chars test each [] e = All-nil (λ c. IsTrue (is_below_character c))
chars test each (c ∷ text) e =
    let parts = and_parts (test c) (list_all test text) e in
    All-cons (λ d. IsTrue (is_below_character d)) c text (each c parts.0) (chars test each text parts.1)

joined : (a b : List ℕ) → AreBelowCharacters a → AreBelowCharacters b → AreBelowCharacters (a ++ b)
joined a b = All-append (λ c. IsTrue (is_below_character c)) a b

fixed : (text : List ℕ) → list_all is_below_character text ≡ true → AreBelowCharacters text
fixed text e = chars is_below_character (λ c is. is) text e

path_chars : (text : List ℕ) → IsPath text → AreBelowCharacters text
unfolding is_path
path_chars text e =
    let front = and_parts (not (is_empty text) && list_all is_path_character text) (not (leads_up text)) e in
    chars is_path_character path_below text (and_parts (not (is_empty text)) (list_all is_path_character text) front.0).1

component_chars : (text : List ℕ) → IsComponent text → AreBelowCharacters text
unfolding is_component
component_chars text e =
    let front = and_parts (is_path text && not (begins_with_slash text)) (not (ends_with_slash text)) e in
    path_chars text (and_parts (is_path text) (not (begins_with_slash text)) front.0).0

arch_chars : (text : List ℕ) → IsArchitecture text → AreBelowCharacters text
unfolding is_architecture
arch_chars text e =
    let front = and_parts (not (length text == 0) && list_all is_architecture_character text) (not (bytes_eq text (codes ".."))) e in
    chars is_architecture_character name_below text (and_parts (not (length text == 0)) (list_all is_architecture_character text) front.0).1

language_chars : (text : List ℕ) → IsLanguage text → AreBelowCharacters text
unfolding is_language
language_chars text e = chars is_language_character language_below text (and_parts (not (length text == 0)) (list_all is_language_character text) e).1

folder_chars : (suite : List ℕ) → IsPath suite → AreBelowCharacters (folder_of suite)
unfolding folder_of
folder_chars suite path = by (bytes_eq suite (codes "/")) (is_exact suite) where
  by : (base exact : Bool) → AreBelowCharacters (if base then [] else if exact then suite else codes "dists/" ++ suite ++ codes "/")
  by true exact = All-nil (λ c. IsTrue (is_below_character c))
  by false true = path_chars suite path
  by false false = joined (codes "dists/" ++ suite) (codes "/") (joined (codes "dists/") suite (fixed (codes "dists/") refl) (path_chars suite path)) (fixed (codes "/") refl)

-- ---- what entries offer

abbrev HasChars : Offer → Type 0
HasChars offer = AreBelowCharacters offer.path

module _ (settings : Settings) (sound : IsSoundSettings settings) where
  archs_sound : (entry : Entry) → IsSoundEntry entry → All IsArchitecture (architectures settings entry)
  archs_sound entry is = by entry.archs is.archs where
    by : (o : Option (List (List ℕ))) → IfSome o AreArchitectures → All IsArchitecture (unwrap_or o settings.archs)
    by (Some archs) are = are.all
    by None are = sound.archs

  gives_exact : (entry : Entry) → IsSoundEntry entry → GivesExact settings HasChars entry
  gives_exact entry is = record { packages = λ b. fixed (codes "Packages") refl; sources = λ s. fixed (codes "Sources") refl }

  gives_of : (entry : Entry) → IsSoundEntry entry → (component : List ℕ) → IsComponent component → GivesOf settings HasChars entry component
  gives_of entry is component part =
      let own = component_chars component part in
      record {
        packages = λ b. All-weaker IsArchitecture (λ arch. HasChars (packages_of component entry arch))
            (λ arch fits. joined (component ++ codes "/binary-" ++ arch) (codes "/Packages") (joined (component ++ codes "/binary-") arch (joined component (codes "/binary-") own (fixed (codes "/binary-") refl)) (arch_chars arch fits)) (fixed (codes "/Packages") refl))
            (architectures settings entry) (archs_sound entry is);
        sources = λ s. joined component (codes "/source/Sources") own (fixed (codes "/source/Sources") refl);
        translations = λ b. All-weaker IsLanguage (λ language. HasChars (translation_of component entry language))
            (λ language fits. joined (component ++ codes "/i18n/Translation-") language (joined component (codes "/i18n/Translation-") own (fixed (codes "/i18n/Translation-") refl)) (language_chars language fits))
            settings.langs sound.langs;
      }

  gives_each : (entry : Entry) → IsSoundEntry entry → GivesEach settings HasChars entry
  gives_each entry is = All-weaker IsComponent (GivesOf settings HasChars entry) (gives_of entry is) entry.components is.components

  offers_chars : (suite : List ℕ) (entries : List Entry) → All IsSoundEntry entries → All HasChars (offers_of settings suite entries)
  offers_chars suite entries all =
      offers_all settings HasChars suite entries (λ exact. All-weaker IsSoundEntry (GivesExact settings HasChars) gives_exact entries all) (λ other. All-weaker IsSoundEntry (GivesEach settings HasChars) gives_each entries all)

-- ---- URIs

-- what uri_names says of files below a base
abbrev pub FilesAreSound : Type 0
FilesAreSound = (base : Uri) (path : List ℕ) → IsSoundUri base → AreBelowCharacters path → length (list_name (below_of base path)) ≤ 16377 → IsSoundUri (below_of base path)

-- the URI is sound, if its list name isn't long
abbrev IsSoundIfShort : Uri → Type 0
IsSoundIfShort uri = length (list_name uri) ≤ 240 → IsSoundUri uri

record IsTargetIfShort (target : Target) : Type 0 where
  uri : IsSoundIfShort target.uri
  named : target.name.0 ≡ list_name target.uri

record IsSourceIfShort (source : Source) : Type 0 where
  base : IsSoundUri source.base
  release : IsSoundIfShort source.release
  named : source.release_name.0 ≡ list_name source.release
  targets : All IsTargetIfShort source.targets

module _ (files : FilesAreSound) where
  file_sound : (entry : Entry) (path : List ℕ) → IsSoundEntry entry → AreBelowCharacters path → IsSoundIfShort (file_uri entry path)
  file_sound entry path is own short = files entry.uri (folder_of entry.suite ++ path) is.uri.sound (joined (folder_of entry.suite) path (folder_chars entry.suite is.suite) own) (omega (arith, short))

  module _ (pick : Pick) (settings : Settings) (sound : IsSoundSettings settings) where
    lists_sound : (entry : Entry) (entries : List Entry) → IsSoundEntry entry → All IsSoundEntry entries → All (λ (planned : Planned). IsTargetIfShort planned.target) (lists_of pick entry (offers_of settings entry.suite entries))
    unfolding lists_of
    lists_sound entry entries is all =
        let P = λ (planned : Planned). IsTargetIfShort planned.target in
        let offers = offers_of settings entry.suite entries in
        all-first P is_same_name (picked_of pick entry offers)
        (all-filter P (λ (planned : Planned). is_picked pick planned.target) (map (planned_of entry) offers)
        (all-map-from P (planned_of entry) offers
        (All-weaker HasChars (λ offer. P (planned_of entry offer)) (λ offer own. record { uri = file_sound entry offer.path is own; named = refl }) offers (offers_chars settings sound entry.suite entries all))))

    group_sound : (entry : Entry) (entries : List Entry) → IsSoundEntry entry → All IsSoundEntry entries → IsSourceIfShort (finished (draft_of pick settings (entry, entries)))
    unfolding finished draft_of source_of
    group_sound entry entries is all = record {
      base = is.uri.sound;
      release = file_sound entry (codes "Release") is (fixed (codes "Release") refl);
      named = refl;
      targets = all-map-from IsTargetIfShort target_in (lists_of pick entry (offers_of settings entry.suite entries)) (lists_sound entry entries is all);
    }

    sources_sound : (entries : List Entry) → All IsSoundEntry entries → All IsSourceIfShort (map finished (drafts_of pick settings entries))
    unfolding drafts_of together
    sources_sound entries all =
        let group : Entry → Entry × List Entry = λ first. (first, filter (is_same_source first) entries) in
        let firsts = first_of_each is_same_source entries in
        all-map-from IsSourceIfShort finished (map (draft_of pick settings) (map group firsts))
        (all-map-from (λ draft. IsSourceIfShort (finished draft)) (draft_of pick settings) (map group firsts)
        (all-map-from (λ g. IsSourceIfShort (finished (draft_of pick settings g))) group firsts
        (All-weaker IsSoundEntry (λ first. IsSourceIfShort (finished (draft_of pick settings (group first)))) (λ first is. group_sound first (filter (is_same_source first) entries) is (all-filter IsSoundEntry (is_same_source first) entries all)) firsts
        (all-first IsSoundEntry is_same_source entries all))))

-- ---- names that are short

abbrev IsShort : List ℕ → Type 0
IsShort name = length name ≤ 240

all-left : {X : Type 0} (P : X → Type 0) (xs ys : List X) → All P (xs ++ ys) → All P xs
all-left P [] ys all = All-nil P
all-left P (x ∷ xs) ys all = All-cons P x xs (All-head P x (xs ++ ys) all) (all-left P xs ys (All-tail P x (xs ++ ys) all))

all-right : {X : Type 0} (P : X → Type 0) (xs ys : List X) → All P (xs ++ ys) → All P ys
all-right P [] ys all = all
all-right P (x ∷ xs) ys all = all-right P xs ys (All-tail P x (xs ++ ys) all)

target_short : (target : Target) → IsTargetIfShort target → IsShort target.name.0 → IsSoundTarget target
target_short target is short = record { uri = is.uri (subst IsShort is.named short); named = is.named }

targets_short : (targets : List Target) → All IsTargetIfShort targets → All IsShort (map (λ target. target.name.0) targets) → All IsSoundTarget targets
targets_short [] all short = All-nil IsSoundTarget
targets_short (target ∷ targets) all short =
    All-cons IsSoundTarget target targets (target_short target (All-head IsTargetIfShort target targets all) (All-head IsShort target.name.0 (map (λ t. t.name.0) targets) short))
    (targets_short targets (All-tail IsTargetIfShort target targets all) (All-tail IsShort target.name.0 (map (λ t. t.name.0) targets) short))

source_short : (source : Source) → IsSourceIfShort source → All IsShort (names_of source) → IsSoundSource source
source_short source is short =
    let names = map (λ target. target.name.0) source.targets in
    record {
      base = is.base;
      release = is.release (subst IsShort is.named (All-head IsShort source.release_name.0 names short));
      named = is.named;
      targets = targets_short source.targets is.targets (All-tail IsShort source.release_name.0 names short);
    }

sources_short : (sources : List Source) → All IsSourceIfShort sources → All IsShort (flat_map names_of sources) → All IsSoundSource sources
sources_short [] all short = All-nil IsSoundSource
sources_short (source ∷ sources) all short =
    All-cons IsSoundSource source sources (source_short source (All-head IsSourceIfShort source sources all) (all-left IsShort (names_of source) (flat_map names_of sources) short))
    (sources_short sources (All-tail IsSourceIfShort source sources all) (all-right IsShort (names_of source) (flat_map names_of sources) short))

pub plan_sound : FilesAreSound → (pick : Pick) (settings : Settings) (entries : List Entry) (plan : Plan) → plan.sources ≡ map finished (drafts_of pick settings entries) → All IsSoundEntry entries → IsSoundSettings settings
    → AllPairs (λ a b. a ≢ b) (plan_names plan) → All IsShort (plan_names plan) → length (plan_names plan) ≤ 4096 → IsSound plan
plan_sound files pick settings entries plan are all sound distinct short few = record {
  sources = sources_short plan.sources (subst (All IsSourceIfShort) (sym are) (sources_sound files pick settings sound entries all)) short;
  distinct = distinct;
  short = short;
  few = few;
}
