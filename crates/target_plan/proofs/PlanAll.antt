-- Whatever an entry asks for is planned, where its kind is switched on.
use Rattle.std.proofs.Common.{◌≡◌, ℕ, zero, suc, inl, inr, Bool, true, false, List, [], ◌∷◌, ◌++◌, map, refl, sym, ap, ◌∙◌, subst, codes, arith}
use Rattle.std.specs.Prelude.{◌&&◌, ◌||◌, not, if◌then◌else◌, bytes_eq, Contains}
use Rattle.std.specs.List.{All, filter, flat_map, list_any}
use Rattle.std.proofs.lemmas.Bool.{or_left, or_right}
use Rattle.std.proofs.lemmas.List.Folds.{list_any-append}
use Rattle.acq_base.specs.declared.plan.Kind.{Kind}
use Rattle.acq_base.specs.declared.plan.Kind.TheVariants.{Packages, Sources, Translation}
use Rattle.acq_base.specs.declared.plan.Source.{Source}
use Rattle.acq_base.specs.declared.settings.Pick.{Pick}
use Rattle.acq_base.specs.declared.settings.Settings.{Settings}
use Rattle.acq_base.specs.Uri.{list_name}
use Rattle.acq_base.proofs.Lists.{map_in}
use Rattle.acq_base.proofs.Texts.{bytes_eq-true, bytes_eq-refl}
use Rattle.uri_names.specs.Folder.{below_of}
use Rattle.kept_hooks.specs.Picking.{is_switched_on, is_picked}
use Rattle.source_lists.specs.declared.entry.Entry.{Entry}
use Rattle.target_plan.specs.declared.offers.Offer.{Offer}
use Rattle.target_plan.specs.declared.draft.Planned.{Planned}
use Rattle.target_plan.specs.Groups.{first_of_each, together}
use Rattle.target_plan.specs.Offers.{Asked, Mention, offer, architectures, packages_of, sources_of, translation_of, asked_by, asked_in, is_same_arch, packages_offers, sources_offers, translation_offers, component_offers, mentions_of, mentions_in, is_same_component, suite_offers, exact_packages, exact_sources, exact_offers, offers_of}
use Rattle.target_plan.specs.Drafts.{is_same_source, folder_of, planned_of, is_same_name, picked_of, lists_of, source_of, draft_of, target_in, finished}
use Rattle.target_plan.specs.Asked.{AsksExact, AsksOf, Asks, PlansAll}
use Rattle.target_plan.proofs.PlanTargets.{all-map-from}

-- ---- tests that some item passes

module _ {X : Type 0} (u : X → Bool) where
  any_there : (xs : List X) (x : X) → Contains xs x → u x ≡ true → list_any u xs ≡ true
  any_there [] x at e = absurd (let below = at.1 in omega (arith, below))
  any_there (y ∷ ys) x (zero, below, is) e = or_left (u y) (list_any u ys) (ap u is ∙ e)
  any_there (y ∷ ys) x (suc k, below, is) e = or_right (u y) (list_any u ys) (any_there ys x (k, omega (arith, below), is) e)

  any_map : {Y : Type 0} (f : Y → X) (ys : List Y) → list_any u (map f ys) ≡ list_any (λ y. u (f y)) ys
  any_map f [] = refl
  any_map f (y ∷ ys) = ap (λ b. u (f y) || b) (any_map f ys)

  any_flat : {Y : Type 0} (f : Y → List X) (ys : List Y) → list_any u (flat_map f ys) ≡ list_any (λ y. list_any u (f y)) ys
  any_flat f [] = refl
  any_flat f (y ∷ ys) = list_any-append u (f y) (flat_map f ys) ∙ ap (λ b. list_any u (f y) || b) (any_flat f ys)

  any_filter : (p : X → Bool) (xs : List X) → list_any u (filter p xs) ≡ list_any (λ x. p x && u x) xs
  any_filter p [] = refl
  any_filter p (x ∷ xs) = by (p x) refl (any_filter p xs) where
    by : (b : Bool) → p x ≡ b → list_any u (filter p xs) ≡ list_any (λ y. p y && u y) xs → list_any u (filter p (x ∷ xs)) ≡ ((p x && u x) || list_any (λ y. p y && u y) xs)
    by true e rest = rw e (ap (λ b. u x || b) rest)
    by false e rest = rw e rest

  module _ (same : X → X → Bool) (respects : (x y : X) → same x y ≡ true → u x ≡ u y) where
    any_left : (x : X) → u x ≡ false → (fs : List X) → list_any u (filter (λ other. not (same x other)) fs) ≡ list_any u fs
    any_left x e [] = refl
    any_left x e (f ∷ fs) = by (same x f) refl (any_left x e fs) where
      by : (b : Bool) → same x f ≡ b → list_any u (filter (λ other. not (same x other)) fs) ≡ list_any u fs → list_any u (filter (λ other. not (same x other)) (f ∷ fs)) ≡ (u f || list_any u fs)
      by true s rest = rw s (rest ∙ ap (λ b. b || list_any u fs) (sym e ∙ respects x f s))
      by false s rest = rw s (ap (λ b. u f || b) rest)

    any_first : (xs : List X) → list_any u (first_of_each same xs) ≡ list_any u xs
    unfolding first_of_each
    any_first [] = refl
    any_first (x ∷ xs) = by (u x) refl (any_first xs) (any_left x) where
      by : (b : Bool) → u x ≡ b → list_any u (first_of_each same xs) ≡ list_any u xs
          → (u x ≡ false → (fs : List X) → list_any u (filter (λ other. not (same x other)) fs) ≡ list_any u fs)
          → (u x || list_any u (filter (λ other. not (same x other)) (first_of_each same xs))) ≡ (u x || list_any u xs)
      by true e rest left = rw e refl
      by false e rest left = ap (λ b. u x || b) (left e (first_of_each same xs) ∙ rest)

-- ---- offers

abbrev pair_with : Entry → List ℕ → Asked
pair_with entry arch = (arch, entry)

module _ (settings : Settings) (t : List ℕ → Kind → Bool) where
  abbrev passes : Offer → Bool
  passes offer = t offer.path offer.kind

  module _ (component : List ℕ) where
    abbrev asked_passes : Asked → Bool
    asked_passes asked = t (component ++ codes "/binary-" ++ asked.0 ++ codes "/Packages") (Packages asked.0)

    packages_any : (mentions : List Mention) (entry : Entry) (shown : List ℕ) (arch : List ℕ) → Contains mentions (shown, entry) → entry.binary ≡ true → Contains (architectures settings entry) arch → asked_passes (arch, entry) ≡ true → list_any passes (packages_offers settings component mentions) ≡ true
    unfolding packages_offers asked_in
    packages_any mentions entry shown arch there binary named e =
        let asked = flat_map (asked_by settings) mentions in
        let own : list_any asked_passes (asked_by settings (shown, entry)) ≡ true =
        ap (λ (b : Bool). list_any asked_passes (if b then map (pair_with entry) (architectures settings entry) else [])) binary
        ∙ any_map asked_passes (pair_with entry) (architectures settings entry) ∙ any_there (λ (a : List ℕ). asked_passes (pair_with entry a)) (architectures settings entry) arch named e in
        any_map passes (λ (a : Asked). packages_of component a.1 a.0) (first_of_each is_same_arch asked)
        ∙ any_first asked_passes is_same_arch (λ a b s. ap (λ (arch : List ℕ). t (component ++ codes "/binary-" ++ arch ++ codes "/Packages") (Packages arch)) (bytes_eq-true a.0 b.0 s)) asked
        ∙ any_flat asked_passes (asked_by settings) mentions
        ∙ any_there (λ (m : Mention). list_any asked_passes (asked_by settings m)) mentions (shown, entry) there own

    sources_any : (mentions : List Mention) → list_any (λ m. m.1.source) mentions ≡ true → t (component ++ codes "/source/Sources") Sources ≡ true → list_any passes (sources_offers component mentions) ≡ true
    unfolding sources_offers
    sources_any [] some e = absurd (cc)
    sources_any (m ∷ ms) some e = by m.1.source some (λ rest. sources_any ms rest e) where
      by : (b : Bool) → (b || list_any (λ m. m.1.source) ms) ≡ true → (list_any (λ m. m.1.source) ms ≡ true → list_any passes (sources_offers component ms) ≡ true)
          → list_any passes (if b then sources_of component m.1 ∷ [] else sources_offers component ms) ≡ true
      by true some rest = or_left (t (component ++ codes "/source/Sources") Sources) false e
      by false some rest = rest some

    translations_any : (mentions : List Mention) (language : List ℕ) → list_any (λ m. m.1.binary) mentions ≡ true → Contains settings.langs language → t (component ++ codes "/i18n/Translation-" ++ language) (Translation language) ≡ true
        → list_any passes (translation_offers settings component mentions) ≡ true
    unfolding translation_offers
    translations_any [] language some named e = absurd (cc)
    translations_any (m ∷ ms) language some named e = by m.1.binary some (λ rest. translations_any ms language rest named e) where
      by : (b : Bool) → (b || list_any (λ m. m.1.binary) ms) ≡ true → (list_any (λ m. m.1.binary) ms ≡ true → list_any passes (translation_offers settings component ms) ≡ true)
          → list_any passes (if b then map (translation_of component m.1) settings.langs else translation_offers settings component ms) ≡ true
      by true some rest =
          any_map passes (translation_of component m.1) settings.langs
          ∙ any_there (λ (l : List ℕ). t (component ++ codes "/i18n/Translation-" ++ l) (Translation l)) settings.langs language named e
      by false some rest = rest some

    component_any : (mentions : List Mention) (entry : Entry) (shown path : List ℕ) (kind : Kind) → Contains mentions (shown, entry) → AsksOf settings entry component path kind → t path kind ≡ true
        → list_any passes (packages_offers settings component mentions ++ sources_offers component mentions ++ translation_offers settings component mentions) ≡ true
    component_any mentions entry shown path kind there asks e =
        let front = list_any-append passes (packages_offers settings component mentions) (sources_offers component mentions) in
        let whole = list_any-append passes (packages_offers settings component mentions ++ sources_offers component mentions) (translation_offers settings component mentions) in
        let a = list_any passes (packages_offers settings component mentions) in
        let b = list_any passes (sources_offers component mentions) in
        let c = list_any passes (translation_offers settings component mentions) in
        whole ∙ ap (λ x. x || c) front ∙ elim asks [
          | inl (binary, arch, named, is_path, is_kind) ↦
              or_left (a || b) c (or_left a b (packages_any mentions entry shown arch there binary named ((λ i. t (sym is_path i) (sym is_kind i)) ∙ e)))
          | inr (inl (source, is_path, is_kind)) ↦
              or_left (a || b) c (or_right a b (sources_any mentions (any_there (λ (m : Mention). m.1.source) mentions (shown, entry) there source) ((λ i. t (sym is_path i) (sym is_kind i)) ∙ e)))
          | inr (inr (binary, language, named, is_path, is_kind)) ↦
              or_right (a || b) c (translations_any mentions language (any_there (λ (m : Mention). m.1.binary) mentions (shown, entry) there binary) named ((λ i. t (sym is_path i) (sym is_kind i)) ∙ e))
        ]

-- ---- what a list contains

module _ {X : Type 0} where
  contains_behind : (y : X) (ys : List X) (x : X) → Contains ys x → Contains (y ∷ ys) x
  contains_behind y ys x at = let below = at.1 in (suc at.0, omega (arith, below), at.2)

  contains_left : (xs ys : List X) (x : X) → Contains xs x → Contains (xs ++ ys) x
  contains_left [] ys x at = absurd (let below = at.1 in omega (arith, below))
  contains_left (y ∷ xs) ys x (zero, below, is) = (zero, omega arith, is)
  contains_left (y ∷ xs) ys x (suc k, below, is) = contains_behind y (xs ++ ys) x (contains_left xs ys x (k, omega (arith, below), is))

  contains_right : (xs ys : List X) (x : X) → Contains ys x → Contains (xs ++ ys) x
  contains_right [] ys x at = at
  contains_right (y ∷ xs) ys x at = contains_behind y (xs ++ ys) x (contains_right xs ys x at)

  contains_filter : (p : X → Bool) (xs : List X) (x : X) → Contains xs x → p x ≡ true → Contains (filter p xs) x
  contains_filter p [] x at e = absurd (let below = at.1 in omega (arith, below))
  contains_filter p (y ∷ ys) x (zero, below, is) e = rw (ap p is ∙ e) (zero, omega arith, is)
  contains_filter p (y ∷ ys) x (suc k, below, is) e = by (p y) refl (contains_filter p ys x (k, omega (arith, below), is) e) where
    by : (b : Bool) → p y ≡ b → Contains (filter p ys) x → Contains (filter p (y ∷ ys)) x
    by true s at = rw s (contains_behind y (filter p ys) x at)
    by false s at = rw s at

contains_flat : {X Y : Type 0} (f : X → List Y) (xs : List X) (x : X) (y : Y) → Contains xs x → Contains (f x) y → Contains (flat_map f xs) y
contains_flat f [] x y at of = absurd (let below = at.1 in omega (arith, below))
contains_flat f (z ∷ zs) x y (zero, below, is) of = contains_left (f z) (flat_map f zs) y (subst (λ w. Contains (f w) y) (sym is) of)
contains_flat f (z ∷ zs) x y (suc k, below, is) of = contains_right (f z) (flat_map f zs) y (contains_flat f zs x y (k, omega (arith, below), is) of)

-- ---- offers of a source

module _ (settings : Settings) (t : List ℕ → Kind → Bool) where
  abbrev of_component : List Mention → List ℕ → Bool
  of_component mentions c =
      let members = filter (λ (m : Mention). bytes_eq c m.0) mentions in
      list_any (passes settings t) (packages_offers settings c members ++ sources_offers c members ++ translation_offers settings c members)

  suite_any : (entries : List Entry) (entry : Entry) (component path : List ℕ) (kind : Kind) → Contains entries entry → Contains entry.components component → AsksOf settings entry component path kind → t path kind ≡ true → list_any (passes settings t) (suite_offers settings entries) ≡ true
  unfolding suite_offers mentions_in together component_offers
  suite_any entries entry component path kind there part asks e =
      let mentions = flat_map mentions_of entries in
      let group : Mention → Mention × List Mention = λ first. (first, filter (is_same_component first) mentions) in
      let firsts = first_of_each is_same_component mentions in
      let mention : Contains mentions (component, entry) = contains_flat mentions_of entries entry (component, entry) there (map_in (λ (c : List ℕ). (c, entry)) entry.components component part) in
      any_flat (passes settings t) (component_offers settings) (map group firsts)
      ∙ any_map (λ g. list_any (passes settings t) (component_offers settings g)) group firsts
      ∙ any_first (λ (m : Mention). of_component mentions m.0) is_same_component (λ a b s. ap (of_component mentions) (bytes_eq-true a.0 b.0 s)) mentions
      ∙ any_there (λ (m : Mention). of_component mentions m.0) mentions (component, entry) mention
      (component_any settings t component (filter (λ (m : Mention). bytes_eq component m.0) mentions) entry component path kind (contains_filter (λ (m : Mention). bytes_eq component m.0) mentions (component, entry) mention (bytes_eq-refl component)) asks e)

  exact_any : (entries : List Entry) (entry : Entry) (path : List ℕ) (kind : Kind) → Contains entries entry → AsksExact settings entry path kind → t path kind ≡ true → list_any (passes settings t) (exact_offers settings entries) ≡ true
  unfolding exact_offers
  exact_any entries entry path kind there asks e =
      let P = passes settings t in
      let a = list_any P (flat_map (exact_packages settings) entries) in
      let b = list_any P (flat_map exact_sources entries) in
      list_any-append P (flat_map (exact_packages settings) entries) (flat_map exact_sources entries) ∙ elim asks [
        | inl (binary, is_path, is_kind) ↦
            or_left a b (any_flat P (exact_packages settings) entries ∙ any_there (λ (x : Entry). list_any P (exact_packages settings x)) entries entry there (rw binary (or_left (t (codes "Packages") (Packages settings.arch)) false ((λ i. t (sym is_path i) (sym is_kind i)) ∙ e))))
        | inr (source, is_path, is_kind) ↦
            or_right a b (any_flat P exact_sources entries ∙ any_there (λ (x : Entry). list_any P (exact_sources x)) entries entry there (rw source (or_left (t (codes "Sources") Sources) false ((λ i. t (sym is_path i) (sym is_kind i)) ∙ e))))
      ]

  offers_any : (suite : List ℕ) (entries : List Entry) (entry : Entry) (path : List ℕ) (kind : Kind) → Contains entries entry → Asks settings suite entry path kind → t path kind ≡ true → list_any (passes settings t) (offers_of settings suite entries) ≡ true
  unfolding offers_of
  offers_any suite entries entry path kind there (inl (exact, asks)) e = rw exact (exact_any entries entry path kind there asks e)
  offers_any suite entries entry path kind there (inr (other, (component, part, asks))) e = rw other (suite_any entries entry component path kind there part asks e)

-- ---- a source

module _ (pick : Pick) (first : Entry) (name : List ℕ) where
  abbrev is_wanted : List ℕ → Kind → Bool
  is_wanted path kind = is_switched_on pick kind && bytes_eq (list_name (below_of first.uri (folder_of first.suite ++ path))) name

  abbrev has_name : Planned → Bool
  has_name planned = bytes_eq planned.target.name.0 name

  lists_any : (settings : Settings) (offers : List Offer) → list_any (passes settings is_wanted) offers ≡ true → list_any has_name (lists_of pick first offers) ≡ true
  unfolding lists_of
  lists_any settings offers e =
      any_first has_name is_same_name (λ a b s. ap (λ (n : List ℕ). bytes_eq n name) (bytes_eq-true a.target.name.0 b.target.name.0 s)) (picked_of pick first offers)
      ∙ any_filter has_name (λ (planned : Planned). is_picked pick planned.target) (map (planned_of first) offers)
      ∙ any_map (λ (planned : Planned). is_picked pick planned.target && has_name planned) (planned_of first) offers
      ∙ e

source_all : (pick : Pick) (settings : Settings) (entries : List Entry) (first : Entry) → PlansAll pick settings entries (finished (draft_of pick settings (first, filter (is_same_source first) entries)))
unfolding finished draft_of source_of is_same_source
source_all pick settings entries first entry path kind stands named asks on =
    let members = filter (is_same_source first) entries in
    let offers = offers_of settings first.suite members in
    let name = list_name (below_of first.uri (folder_of first.suite ++ path)) in
    any_map (λ target. bytes_eq target.name.0 name) target_in (lists_of pick first offers)
    ∙ lists_any pick first name settings offers
    (offers_any settings (is_wanted pick first name) first.suite members entry path kind (contains_filter (is_same_source first) entries entry stands named) asks (λ i. on i && bytes_eq-refl name i))

pub all_planned : (pick : Pick) (settings : Settings) (entries : List Entry) (sources : List Source) → sources ≡ map finished (map (draft_of pick settings) (together is_same_source entries)) → All (PlansAll pick settings entries) sources
unfolding together
all_planned pick settings entries sources are =
    let P = PlansAll pick settings entries in
    let group : Entry → Entry × List Entry = λ first. (first, filter (is_same_source first) entries) in
    let firsts = first_of_each is_same_source entries in
    subst (All P) (sym are)
    (all-map-from P finished (map (draft_of pick settings) (map group firsts))
    (all-map-from (λ draft. P (finished draft)) (draft_of pick settings) (map group firsts)
    (all-map-from (λ g. P (finished (draft_of pick settings g))) group firsts (λ k d within. source_all pick settings entries _))))
