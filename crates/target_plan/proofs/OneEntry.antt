-- The names of a source with one entry, whose components differ.
use Rattle.std.proofs.Common.{◌≡◌, ◌≢◌, ℕ, Bool, true, false, cond, List, [], ◌∷◌, ◌++◌, map, refl, sym, ap, ◌∙◌, subst, codes, append_assoc}
use Rattle.std.specs.Prelude.{if◌then◌else◌}
use Rattle.std.specs.List.{All, AllPairs, filter, flat_map}
use Rattle.std.proofs.lemmas.List.{append-nil, map-append}
use Rattle.std.proofs.lemmas.List.Concat.{flat_map-append}
use Rattle.std.proofs.lemmas.List.Elements.{All-head, All-tail, filter-append}
use Rattle.std.proofs.lemmas.Slice.Eq.{bytes_eq-Decides}
use Rattle.acq_base.specs.declared.plan.Kind.TheVariants.{Packages, Translation}
use Rattle.acq_base.specs.declared.settings.Pick.{Pick}
use Rattle.acq_base.specs.declared.settings.Settings.{Settings}
use Rattle.acq_base.specs.Uri.{list_name, name_byte}
use Rattle.kept_hooks.specs.Picking.{is_switched_on, is_picked}
use Rattle.source_lists.specs.declared.entry.Entry.{Entry}
use Rattle.target_plan.specs.declared.draft.Planned.{Planned}
use Rattle.target_plan.specs.declared.marks.Mark.{Mark}
use Rattle.target_plan.specs.declared.offers.Offer.{Offer}
use Rattle.target_plan.specs.Groups.{first_of_each, together}
use Rattle.target_plan.specs.Offers.{Asked, Mention, offer, is_exact, packages_of, sources_of, translation_of, asked_in, is_same_arch, packages_offers, sources_offers, translation_offers, component_offers, mentions_in, is_same_component, suite_offers, exact_offers, offers_of}
use Rattle.target_plan.specs.Drafts.{folder_of, file_uri, planned_of, name_of, picked_of}
use Rattle.target_plan.specs.Marks.{AreMarked, IsPlain, plain_from, escaped, names_of, bare_offers, path_of, tails_of, AreTails, names_behind, names_below, MarksFiles, IsFolderMark}
use Rattle.target_plan.proofs.PlainPaths.{name_in_folder, plain_append}
use Rattle.target_plan.proofs.Lone.{Lone, single, lone_from, lone_groups}

-- ---- offers of a component are those of the component without a name, behind its name

abbrev shifted : List ℕ → Offer → Offer
shifted c o = record o { path = c ++ o.path }

map-both : {A B C : Type 0} (f : A → C) (g : B → C) (h : A → B) → ((x : A) → f x ≡ g (h x)) → (xs : List A) → map f xs ≡ map g (map h xs)
map-both f g h same [] = refl
map-both f g h same (x ∷ xs) = λ i. same x i ∷ map-both f g h same xs i

module _ (settings : Settings) (entry : Entry) (c : List ℕ) where
  binary-path : (arch : List ℕ) → c ++ codes "/binary-" ++ arch ++ codes "/Packages" ≡ c ++ (codes "/binary-" ++ arch ++ codes "/Packages")
  binary-path arch = ap (λ (l : List ℕ). l ++ codes "/Packages") (append_assoc c (codes "/binary-") arch) ∙ append_assoc c (codes "/binary-" ++ arch) (codes "/Packages")

  shifted-packages : packages_offers settings c ((c, entry) ∷ []) ≡ map (shifted c) (packages_offers settings [] (([], entry) ∷ []))
  unfolding packages_offers asked_in
  shifted-packages =
      map-both (λ (a : Asked). packages_of c a.1 a.0) (shifted c) (λ (a : Asked). packages_of [] a.1 a.0) (λ a. ap (λ (p : List ℕ). offer p (Packages a.0) a.1) (binary-path a.0))
      (first_of_each is_same_arch (asked_in settings ((c, entry) ∷ [])))

  shifted-sources : sources_offers c ((c, entry) ∷ []) ≡ map (shifted c) (sources_offers [] (([], entry) ∷ []))
  unfolding sources_offers
  shifted-sources = by entry.source where
    by : (b : Bool) → (if b then sources_of c entry ∷ [] else []) ≡ map (shifted c) (if b then sources_of [] entry ∷ [] else [])
    by true = refl
    by false = refl

  shifted-translations : translation_offers settings c ((c, entry) ∷ []) ≡ map (shifted c) (translation_offers settings [] (([], entry) ∷ []))
  unfolding translation_offers
  shifted-translations = by entry.binary where
    by : (b : Bool) → (if b then map (translation_of c entry) settings.langs else []) ≡ map (shifted c) (if b then map (translation_of [] entry) settings.langs else [])
    by true = map-both (translation_of c entry) (shifted c) (translation_of [] entry) (λ language. ap (λ (p : List ℕ). offer p (Translation language) entry) (append_assoc c (codes "/i18n/Translation-") language)) settings.langs
    by false = refl

  shifted-component : component_offers settings ((c, entry), (c, entry) ∷ []) ≡ map (shifted c) (bare_offers settings entry)
  unfolding component_offers
  shifted-component =
      let p = packages_offers settings [] (([], entry) ∷ []) in
      let s = sources_offers [] (([], entry) ∷ []) in
      let t = translation_offers settings [] (([], entry) ∷ []) in
      (λ i. shifted-packages i ++ shifted-sources i ++ shifted-translations i)
      ∙ sym (map-append (shifted c) (p ++ s) t ∙ ap (λ (front : List Offer). front ++ map (shifted c) t) (map-append (shifted c) p s))

-- ---- names

picked-append : (pick : Pick) (entry : Entry) (a b : List Offer) → picked_of pick entry (a ++ b) ≡ picked_of pick entry a ++ picked_of pick entry b
picked-append pick entry a b =
    ap (filter (λ (planned : Planned). is_picked pick planned.target)) (map-append (planned_of entry) a b)
    ∙ filter-append (λ (planned : Planned). is_picked pick planned.target) (map (planned_of entry) a) (map (planned_of entry) b)

module _ (pick : Pick) (settings : Settings) (first entry : Entry) (base : IsPlain first.uri.path) (folder : IsPlain (folder_of first.suite)) where
  abbrev front : List ℕ
  front = list_name (file_uri first [])

  module _ (c : List ℕ) (plain : IsPlain c) where
    one-name : (path : List ℕ) → IsPlain path → list_name (file_uri first (c ++ path)) ≡ front ++ escaped c ++ escaped path
    one-name path of_path =
        name_in_folder first (c ++ path) base folder (plain_append c path plain of_path) ∙ ap (λ (e : List ℕ). front ++ e) (flat_map-append name_byte c path) ∙ sym (append_assoc front (escaped c) (escaped path))

    names-more : (b : Bool) (o : Offer) (ofs oes : List Planned) → (All IsPlain (map path_of oes) → map name_of ofs ≡ names_behind (front ++ escaped c) (map escaped (map path_of oes)))
        → All IsPlain (map path_of (cond b (planned_of entry o ∷ oes) oes))
        → map name_of (cond b (planned_of first (shifted c o) ∷ ofs) ofs) ≡ names_behind (front ++ escaped c) (map escaped (map path_of (cond b (planned_of entry o ∷ oes) oes)))
    names-more true o ofs oes rest all = λ i. one-name o.path (All-head IsPlain o.path (map path_of oes) all) i ∷ rest (All-tail IsPlain o.path (map path_of oes) all) i
    names-more false o ofs oes rest all = rest all

    shifted-names : (os : List Offer) → All IsPlain (map path_of (picked_of pick entry os)) → map name_of (picked_of pick first (map (shifted c) os)) ≡ names_behind (front ++ escaped c) (map escaped (map path_of (picked_of pick entry os)))
    shifted-names [] all = refl
    shifted-names (o ∷ os) all = names-more (is_switched_on pick o.kind) o (picked_of pick first (map (shifted c) os)) (picked_of pick entry os) (shifted-names os) all

    component-names : All IsPlain (tails_of pick settings entry) → map name_of (picked_of pick first (component_offers settings ((c, entry), (c, entry) ∷ []))) ≡ names_behind (front ++ escaped c) (map escaped (tails_of pick settings entry))
    component-names all = ap (λ (os : List Offer). map name_of (picked_of pick first os)) (shifted-component settings entry c) ∙ shifted-names (bare_offers settings entry) all

  abbrev with_entry : List ℕ → Mention
  with_entry c = (c, entry)

  all-names : (cs : List (List ℕ)) → All IsPlain cs → All IsPlain (tails_of pick settings entry)
      → map name_of (picked_of pick first (flat_map (component_offers settings) (map single (map with_entry cs)))) ≡ flat_map (λ (c : List ℕ). names_behind (front ++ escaped c) (map escaped (tails_of pick settings entry))) cs
  all-names [] plain tails = refl
  all-names (c ∷ cs) plain tails =
      let here = component_offers settings ((c, entry), (c, entry) ∷ []) in
      let rest = flat_map (component_offers settings) (map single (map with_entry cs)) in
      ap (map name_of) (picked-append pick first here rest) ∙ map-append name_of (picked_of pick first here) (picked_of pick first rest)
      ∙ (λ i. component-names c (All-head IsPlain c cs plain) tails i ++ all-names cs (All-tail IsPlain c cs plain) tails i)

  components-of : (cs : List (List ℕ)) → map (λ (m : Mention). m.0) (map with_entry cs) ≡ cs
  components-of [] = refl
  components-of (c ∷ cs) = ap (λ (r : List (List ℕ)). c ∷ r) (components-of cs)

  lone-mentions : (cs : List (List ℕ)) → AllPairs (λ (a b : List ℕ). a ≢ b) cs → Lone is_same_component (map with_entry cs)
  lone-mentions cs apart =
      lone_from is_same_component (λ (m : Mention). m.0) (λ a b e. (bytes_eq-Decides a.0 b.0).0 e) (map with_entry cs) (subst (AllPairs (λ (a b : List ℕ). a ≢ b)) (sym (components-of cs)) apart)

  one-offers : AllPairs (λ (a b : List ℕ). a ≢ b) entry.components → suite_offers settings (entry ∷ []) ≡ flat_map (component_offers settings) (map single (map with_entry entry.components))
  unfolding suite_offers mentions_in
  one-offers apart =
      ap (λ (ms : List Mention). flat_map (component_offers settings) (together is_same_component ms)) (append-nil (map with_entry entry.components))
      ∙ ap (flat_map (component_offers settings)) (lone_groups is_same_component (λ m. (bytes_eq-Decides m.0 m.0).1 refl) (map with_entry entry.components) (lone-mentions entry.components apart))

  offers-one : is_exact first.suite ≡ false → offers_of settings first.suite (entry ∷ []) ≡ suite_offers settings (entry ∷ [])
  unfolding offers_of
  offers-one e = ap (λ (b : Bool). if b then exact_offers settings (entry ∷ []) else suite_offers settings (entry ∷ [])) e

  names-of-one : is_exact first.suite ≡ false → AllPairs (λ (a b : List ℕ). a ≢ b) entry.components → All IsPlain entry.components → All IsPlain (tails_of pick settings entry)
      → names_of pick settings (first, entry ∷ []) ≡ names_below front entry.components (map escaped (tails_of pick settings entry))
  unfolding plain_from
  names-of-one exact apart plain tails =
      λ i. name_in_folder first (codes "Release") base folder refl i
      ∷ (ap (λ (os : List Offer). map name_of (picked_of pick first os)) (offers-one exact ∙ one-offers apart) ∙ all-names entry.components plain tails) i

pub one_marked : (pick : Pick) (settings : Settings) (first entry : Entry) (folder : Mark) (tails : List (List ℕ)) (old new : List ℕ) → IsFolderMark first folder → AllPairs (λ (a b : List ℕ). a ≢ b) entry.components
    → AreTails pick settings entry tails → MarksFiles folder entry.components tails old new → AreMarked (names_of pick settings (first, entry ∷ [])) old new
one_marked pick settings first entry folder tails old new of_folder apart of_tails files =
    subst (λ (names : List (List ℕ)). AreMarked names old new)
    (ap (names_below (list_name (file_uri first [])) entry.components) of_tails.are ∙ sym (names-of-one pick settings first entry of_folder.base of_folder.folder of_folder.suite apart files.plain of_tails.plain))
    (files.marked (list_name (file_uri first [])) of_folder.is)
