-- Two entries that offer the same of a component have the same tails.
use Rattle.std.proofs.Common.{◌≡◌, ℕ, Bool, true, false, not, cond, Option, List, [], ◌∷◌, ◌++◌, map, refl, sym, ap, ◌∙◌, subst, codes}
use Rattle.std.specs.Prelude.{if◌then◌else◌, bytes_eq, unwrap_or}
use Rattle.std.specs.List.{All, filter}
use Rattle.std.proofs.lemmas.List.{append-nil, map-append}
use Rattle.acq_base.specs.declared.plan.Kind.{Kind}
use Rattle.acq_base.specs.declared.plan.Kind.TheVariants.{Packages, Sources, Translation}
use Rattle.acq_base.specs.declared.settings.Pick.{Pick}
use Rattle.acq_base.specs.declared.settings.Settings.{Settings}
use Rattle.kept_hooks.specs.Picking.{is_switched_on}
use Rattle.source_lists.specs.declared.entry.Entry.{Entry}
use Rattle.target_plan.specs.declared.draft.Planned.{Planned}
use Rattle.target_plan.specs.declared.offers.Offer.{Offer}
use Rattle.target_plan.specs.Groups.{first_of_each}
use Rattle.target_plan.specs.Offers.{Asked, architectures, packages_of, sources_of, translation_of, asked_in, is_same_arch, packages_offers, sources_offers, translation_offers, component_offers}
use Rattle.target_plan.specs.Drafts.{planned_of, picked_of}
use Rattle.target_plan.specs.Marks.{IsPlain, escaped, bare_offers, path_of, tails_of, AreTails, IsAlike}

abbrev Stripped : Type 0
Stripped = List ℕ × Kind

abbrev strip : Offer → Stripped
strip offer = (offer.path, offer.kind)

abbrev paths_picked : Pick → List Stripped → List (List ℕ)
paths_picked pick [] = []
paths_picked pick (s ∷ ss) = cond (is_switched_on pick s.1) (s.0 ∷ paths_picked pick ss) (paths_picked pick ss)

picked-paths : (pick : Pick) (entry : Entry) (os : List Offer) → map path_of (picked_of pick entry os) ≡ paths_picked pick (map strip os)
picked-paths pick entry [] = refl
picked-paths pick entry (o ∷ os) = by (is_switched_on pick o.kind) (picked_of pick entry os) (picked-paths pick entry os) where
  by : (b : Bool) (ps : List Planned) → map path_of ps ≡ paths_picked pick (map strip os) → map path_of (cond b (planned_of entry o ∷ ps) ps) ≡ cond b (o.path ∷ paths_picked pick (map strip os)) (paths_picked pick (map strip os))
  by true ps rest = ap (λ (r : List (List ℕ)). o.path ∷ r) rest
  by false ps rest = rest

-- ---- the parts of what an entry offers

abbrev pair_with : Entry → List ℕ → Asked
pair_with entry arch = (arch, entry)

left-pairs : (entry : Entry) (x : List ℕ) (xs : List (List ℕ)) → filter (λ (other : Asked). not (is_same_arch (pair_with entry x) other)) (map (pair_with entry) xs) ≡ map (pair_with entry) (filter (λ (other : List ℕ). not (bytes_eq x other)) xs)
left-pairs entry x [] = refl
left-pairs entry x (y ∷ ys) =
    by (not (bytes_eq x y)) (filter (λ (other : Asked). not (is_same_arch (pair_with entry x) other)) (map (pair_with entry) ys)) (filter (λ (other : List ℕ). not (bytes_eq x other)) ys) (left-pairs entry x ys) where
      by : (b : Bool) (ps : List Asked) (qs : List (List ℕ)) → ps ≡ map (pair_with entry) qs → cond b (pair_with entry y ∷ ps) ps ≡ map (pair_with entry) (cond b (y ∷ qs) qs)
      by true ps qs rest = ap (λ (r : List Asked). pair_with entry y ∷ r) rest
      by false ps qs rest = rest

first-pairs : (entry : Entry) (xs : List (List ℕ)) → first_of_each is_same_arch (map (pair_with entry) xs) ≡ map (pair_with entry) (first_of_each bytes_eq xs)
unfolding first_of_each
first-pairs entry [] = refl
first-pairs entry (x ∷ xs) =
    ap (λ (r : List Asked). pair_with entry x ∷ r)
    (ap (filter (λ (other : Asked). not (is_same_arch (pair_with entry x) other))) (first-pairs entry xs) ∙ left-pairs entry x (first_of_each bytes_eq xs))

map-twice : {A B C : Type 0} (f : B → C) (g : A → B) (h : A → C) → ((x : A) → f (g x) ≡ h x) → (xs : List A) → map f (map g xs) ≡ map h xs
map-twice f g h same [] = refl
map-twice f g h same (x ∷ xs) = λ i. same x i ∷ map-twice f g h same xs i

abbrev stripped_package : List ℕ → Stripped
stripped_package arch = (codes "/binary-" ++ arch ++ codes "/Packages", Packages arch)

abbrev stripped_translation : List ℕ → Stripped
stripped_translation language = (codes "/i18n/Translation-" ++ language, Translation language)

abbrev packages_with : Bool → List (List ℕ) → List Stripped
packages_with binary archs = map stripped_package (first_of_each bytes_eq (if binary then archs else []))

module _ (settings : Settings) (entry : Entry) where
  stripped-packages : map strip (packages_offers settings [] (([], entry) ∷ [])) ≡ packages_with entry.binary (architectures settings entry)
  unfolding packages_offers asked_in
  stripped-packages =
      map-twice strip (λ (a : Asked). packages_of [] a.1 a.0) (λ (a : Asked). stripped_package a.0) (λ a. refl) (first_of_each is_same_arch (asked_in settings (([], entry) ∷ [])))
      ∙ ap (λ (asked : List Asked). map (λ (a : Asked). stripped_package a.0) (first_of_each is_same_arch asked)) (by entry.binary)
      ∙ ap (map (λ (a : Asked). stripped_package a.0)) (first-pairs entry (if entry.binary then architectures settings entry else []))
      ∙ map-twice (λ (a : Asked). stripped_package a.0) (pair_with entry) stripped_package (λ x. refl) (first_of_each bytes_eq (if entry.binary then architectures settings entry else []))
    where
      by : (b : Bool) → (if b then map (pair_with entry) (architectures settings entry) else []) ++ [] ≡ map (pair_with entry) (if b then architectures settings entry else [])
      by true = append-nil (map (pair_with entry) (architectures settings entry))
      by false = refl

  abbrev sources_with : Bool → List Stripped
  sources_with source = if source then (codes "/source/Sources", Sources) ∷ [] else []

  stripped-sources : map strip (sources_offers [] (([], entry) ∷ [])) ≡ sources_with entry.source
  unfolding sources_offers
  stripped-sources = by entry.source where
    by : (b : Bool) → map strip (if b then sources_of [] entry ∷ [] else []) ≡ sources_with b
    by true = refl
    by false = refl

  abbrev translations_with : Bool → List Stripped
  translations_with binary = if binary then map stripped_translation settings.langs else []

  stripped-translations : map strip (translation_offers settings [] (([], entry) ∷ [])) ≡ translations_with entry.binary
  unfolding translation_offers
  stripped-translations = by entry.binary where
    by : (b : Bool) → map strip (if b then map (translation_of [] entry) settings.langs else []) ≡ translations_with b
    by true = map-twice strip (translation_of [] entry) stripped_translation (λ x. refl) settings.langs
    by false = refl

abbrev stripped_with : Settings → Bool → Bool → List (List ℕ) → List Stripped
stripped_with settings binary source archs =
    packages_with binary archs ++ (if source then (codes "/source/Sources", Sources) ∷ [] else []) ++ (if binary then map stripped_translation settings.langs else [])

stripped-bare : (settings : Settings) (entry : Entry) → map strip (bare_offers settings entry) ≡ stripped_with settings entry.binary entry.source (architectures settings entry)
unfolding component_offers
stripped-bare settings entry =
    let p = packages_offers settings [] (([], entry) ∷ []) in
    let s = sources_offers [] (([], entry) ∷ []) in
    let t = translation_offers settings [] (([], entry) ∷ []) in
    map-append strip (p ++ s) t ∙ ap (λ (front : List Stripped). front ++ map strip t) (map-append strip p s)
    ∙ (λ i. stripped-packages settings entry i ++ stripped-sources settings entry i ++ stripped-translations settings entry i)

alike-tails : (pick : Pick) (settings : Settings) (a b : Entry) → IsAlike a b → tails_of pick settings a ≡ tails_of pick settings b
alike-tails pick settings a b same =
    let archs : architectures settings a ≡ architectures settings b = ap (λ (o : Option (List (List ℕ))). unwrap_or o settings.archs) (same.one ∙ sym same.other) in
    picked-paths pick a (bare_offers settings a)
    ∙ ap (paths_picked pick) (stripped-bare settings a ∙ (λ i. stripped_with settings (same.binary i) (same.source i) (archs i)) ∙ sym (stripped-bare settings b))
    ∙ sym (picked-paths pick b (bare_offers settings b))

pub tails_of_alike : (pick : Pick) (settings : Settings) (a b : Entry) (tails : List (List ℕ)) → IsAlike a b → AreTails pick settings a tails → AreTails pick settings b tails
tails_of_alike pick settings a b tails same of_a = record {
  are = of_a.are ∙ ap (map escaped) (alike-tails pick settings a b same);
  plain = subst (All IsPlain) (alike-tails pick settings a b same) of_a.plain;
}
