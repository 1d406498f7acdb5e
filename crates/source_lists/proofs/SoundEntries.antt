-- Entries that are read are sound: what their words say of them.
use Rattle.std.proofs.Common.{◌≡◌, ℕ, Bool, true, false, List, [], ◌∷◌, ◌++◌, map, Option, Some, None, Result, Ok, Err, refl, sym, subst, codes}
use Rattle.std.specs.Prelude.{◌&&◌, ◌||◌, not, IfSome, option_map, ok_or, bytes_eq, if◌then◌else◌}
use Rattle.std.specs.List.{All, list_all, list_any, flat_map, slice_split, before_first, after_first}
use Rattle.std.proofs.lemmas.Bool.{and_parts, true≢false}
use Rattle.std.proofs.lemmas.List.Elements.{All-nil, All-cons, All-head, All-tail, All-append}
use Rattle.acq_base.specs.Settings.{is_architecture}
use Rattle.acq_base.specs.Words.{is_blank, words}
use Rattle.acq_base.specs.declared.uri.Uri.{Uri}
use Rattle.deb822_text.specs.Control.{field_named}
use Rattle.deb822_text.specs.declared.paragraph.Field.{Field}
use Rattle.source_lists.specs.declared.entry.Entry.{Entry}
use Rattle.source_lists.specs.declared.error.ListError.{ListError}
use Rattle.source_lists.specs.declared.error.ListError.TheVariants.{BadLine, NoComponent, LooseComponent, Operator}
use Rattle.source_lists.specs.declared.one_line.Place.{Place}
use Rattle.source_lists.specs.declared.options.Choice.{Choice}
use Rattle.source_lists.specs.declared.options.Choice.TheVariants.{Archs, Hashes, Patches, Nothing}
use Rattle.source_lists.specs.declared.options.Options.{Options}
use Rattle.source_lists.specs.declared.stanza.Stanza.{Stanza}
use Rattle.source_lists.specs.Steps.{each}
use Rattle.source_lists.specs.Values.{is_path, is_component, is_exact, is_empty, suite_at, without_slashes, replaced, components_at, architectures, by_hash_of, boolean_of, types_at, base_at}
use Rattle.source_lists.specs.OneLine.{is_comma, is_equals, has_operator, choice_of, choice_at, archs_in, later, last_said, options_in, options_at, place_at, closed_at, is_closed, first_word, behind_first, options_text, source_text, entry_of, entry_at}
use Rattle.source_lists.specs.Stanzas.{field_words, first_at, if_there, types_of, uris_of, suites_of, some_words, components_of, words_in, line_of, architectures_of, hashes_of, truth_of, options_of, stanza_of, entry_for, entries_of_uri, entries_for}
use Rattle.source_lists.specs.Sound.{IsReadBase, IsPath, IsComponent, AreArchitectures, IsSound}
use Rattle.source_lists.proofs.Laws.{bind_ok}
use Rattle.source_lists.proofs.Loops.{Gives, worked}

-- ---- words

each_has : {X Y : Type 0} (P : Y → Type 0) (read : X → Result Y ListError) (items : List X) (found : List Y) → ((x : X) (y : Y) → read x ≡ Ok y → P y) → each read items ≡ Ok found → All P found
unfolding each
each_has P read [] found has e = let none : [] ≡ found = cc in rw (← none) (All-nil P)
each_has P read (x ∷ xs) found has e =
    let first = bind_ok (read x) _ found e in
    let rest = bind_ok (each read xs) _ found first.2 in
    let same : first.0 ∷ rest.0 ≡ found = cc in
    rw (← same) (All-cons P first.0 rest.0 (has x first.0 first.1) (each_has P read xs rest.0 has rest.1))

all_of : {X : Type 0} (test : X → Bool) (xs : List X) → list_all test xs ≡ true → All (λ x. test x ≡ true) xs
all_of test [] e = All-nil (λ x. test x ≡ true)
all_of test (x ∷ xs) e =
    let parts = and_parts (test x) (list_all test xs) e in
    All-cons (λ y. test y ≡ true) x xs parts.0 (all_of test xs parts.1)

none_of : {X : Type 0} (test : X → Bool) (xs : List X) → list_any test xs ≡ false → All (λ x. test x ≡ false) xs
none_of test [] e = All-nil (λ x. test x ≡ false)
none_of test (x ∷ xs) e = by (test x) refl e (none_of test xs) where
  by : (b : Bool) → test x ≡ b → (b || list_any test xs) ≡ false → (list_any test xs ≡ false → All (λ y. test y ≡ false) xs) → All (λ y. test y ≡ false) (x ∷ xs)
  by true is rest others = absurd (true≢false rest)
  by false is rest others = All-cons (λ y. test y ≡ false) x xs is (others rest)

suite_path : (arch : List ℕ) (at : ℕ) (word suite : List ℕ) → suite_at arch at word ≡ Ok suite → IsPath suite
unfolding suite_at
suite_path arch at word suite e = by (is_path text) refl e where
  text : List ℕ
  text = without_slashes (replaced arch word)

  by : (b : Bool) → is_path (without_slashes (replaced arch word)) ≡ b → (if b then Ok (without_slashes (replaced arch word)) else Err (BadLine at)) ≡ Ok suite → IsPath suite
  by true is e = let same : without_slashes (replaced arch word) ≡ suite = cc in rw (← same) is
  by false is e = absurd (cc)

-- components fit the suites that they stand beside
pub record FitSuites (suites components : List (List ℕ)) : Type 0 where
  pub all : All IsComponent components
  pub exact : All (λ suite. is_exact suite ≡ is_empty components) suites

components_fit : (at : ℕ) (suites words found : List (List ℕ)) → components_at at suites words ≡ Ok found → FitSuites suites found
unfolding components_at
components_fit at suites words found e =
    by (is_empty words) refl (list_all is_exact suites) refl (list_any is_exact suites) refl (list_all is_component words) refl e where
      by : (none : Bool) → is_empty words ≡ none → (exact : Bool) → list_all is_exact suites ≡ exact → (some : Bool) → list_any is_exact suites ≡ some → (all : Bool) → list_all is_component words ≡ all
          → (if none && not exact then Err (NoComponent at) else if not none && some then Err (LooseComponent at) else if all then Ok words else Err (BadLine at)) ≡ Ok found → FitSuites suites found
      by true n true x some s true a e = let same : words ≡ found = cc in subst (FitSuites suites) same (record { all = all_of is_component words a; exact = subst (λ b. All (λ suite. is_exact suite ≡ b) suites) (sym n) (all_of is_exact suites x) })
      by true n true x some s false a e = absurd (cc)
      by true n false x some s all a e = absurd (cc)
      by false n exact x false s true a e = let same : words ≡ found = cc in subst (FitSuites suites) same (record { all = all_of is_component words a; exact = subst (λ b. All (λ suite. is_exact suite ≡ b) suites) (sym n) (none_of is_exact suites s) })
      by false n exact x false s false a e = absurd (cc)
      by false n exact x true s all a e = absurd (cc)

are_architectures : (words archs : List (List ℕ)) → architectures words ≡ Some archs → AreArchitectures archs
unfolding architectures
are_architectures [] archs e = absurd (cc)
are_architectures (word ∷ others) archs e = by (not (is_empty (word ∷ others)) && list_all is_architecture (word ∷ others)) refl e where
  by : (b : Bool) → (not (is_empty (word ∷ others)) && list_all is_architecture (word ∷ others)) ≡ b → (if b then Some (word ∷ others) else None) ≡ Some archs → AreArchitectures archs
  by true is e =
      let same : word ∷ others ≡ archs = cc in
      rw (← same) (record { some = λ none. cc; all = all_of is_architecture (word ∷ others) (and_parts (not (is_empty (word ∷ others))) (list_all is_architecture (word ∷ others)) is).1 })
  by false is e = absurd (cc)

-- ---- options

abbrev SaysSound : Choice → Type 0
SaysSound choice = IfSome (archs_in choice) AreArchitectures

archs_sound : (words : List (List ℕ)) (choice : Choice) → option_map Archs (architectures words) ≡ Some choice → SaysSound choice
archs_sound words choice e = by (architectures words) refl e where
  by : (o : Option (List (List ℕ))) → architectures words ≡ o → option_map Archs o ≡ Some choice → SaysSound choice
  by (Some archs) is e = let same : Archs archs ≡ choice = cc in rw (← same) (are_architectures words archs is)
  by None is e = absurd (cc)

hashes_sound : (found : Option _) (choice : Choice) → option_map Hashes found ≡ Some choice → SaysSound choice
hashes_sound (Some x) choice e = let same : Hashes x ≡ choice = cc in rw (← same) tt
hashes_sound None choice e = absurd (cc)

patches_sound : (found : Option Bool) (choice : Choice) → option_map Patches found ≡ Some choice → SaysSound choice
patches_sound (Some x) choice e = let same : Patches x ≡ choice = cc in rw (← same) tt
patches_sound None choice e = absurd (cc)

nothing_sound : (choice : Choice) → Some Nothing ≡ Some choice → SaysSound choice
nothing_sound choice e = let same : Nothing ≡ choice = cc in rw (← same) tt

choice_sound : (name value : List ℕ) (choice : Choice) → choice_of name value ≡ Some choice → SaysSound choice
unfolding choice_of
choice_sound name value choice e = by (bytes_eq name (codes "arch")) (bytes_eq name (codes "by-hash")) (bytes_eq name (codes "pdiffs")) e where
  by : (a b c : Bool)
      → (if a then option_map Archs (architectures (slice_split is_comma value)) else if b then option_map Hashes (by_hash_of value) else if c then option_map Patches (boolean_of value) else Some Nothing) ≡ Some choice → SaysSound choice
  by true b c e = archs_sound (slice_split is_comma value) choice e
  by false true c e = hashes_sound (by_hash_of value) choice e
  by false false true e = patches_sound (boolean_of value) choice e
  by false false false e = nothing_sound choice e

word_sound : (at : ℕ) (word : List ℕ) (choice : Choice) → choice_at at word ≡ Ok choice → SaysSound choice
unfolding choice_at
word_sound at word choice e = by (has_operator word) (list_any is_equals word) e where
  said : (found : Option Choice) → choice_of (before_first is_equals word) (after_first is_equals word) ≡ found → ok_or found (BadLine at) ≡ Ok choice → SaysSound choice
  said (Some x) is e = let same : x ≡ choice = cc in rw (← same) (choice_sound (before_first is_equals word) (after_first is_equals word) x is)
  said None is e = absurd (cc)

  by : (o q : Bool) → (if o then Err (Operator at) else if q then ok_or (choice_of (before_first is_equals word) (after_first is_equals word)) (BadLine at) else Err (BadLine at)) ≡ Ok choice → SaysSound choice
  by true q e = absurd (cc)
  by false true e = said (choice_of (before_first is_equals word) (after_first is_equals word)) refl e
  by false false e = absurd (cc)

last_sound : (choices : List Choice) → All SaysSound choices → IfSome (last_said archs_in choices) AreArchitectures
last_sound [] all = tt
last_sound (choice ∷ choices) all = by (last_said archs_in choices) (last_sound choices (All-tail SaysSound choice choices all)) where
  by : (o : Option (List (List ℕ))) → IfSome o AreArchitectures → IfSome (later o (archs_in choice)) AreArchitectures
  by (Some archs) is = is
  by None is = All-head SaysSound choice choices all

options_sound : (at : ℕ) (words : List (List ℕ)) (options : Options) → options_at at words ≡ Ok options → IfSome options.archs AreArchitectures
unfolding options_at options_in
options_sound at words options e =
    let choices = bind_ok (each (choice_at at) words) _ options e in
    let same : last_said archs_in choices.0 ≡ options.archs = cc in
    rw (← same) (last_sound choices.0 (each_has SaysSound (choice_at at) words choices.0 (word_sound at) choices.1))

-- ---- a line

-- what an entry's words say of it, its URI aside
pub record IsFormed (named : List ℕ) (parts : List (List ℕ)) (own : Option (List (List ℕ))) : Type 0 where
  pub suite : IsPath named
  pub exact : is_exact named ≡ is_empty parts
  pub components : All IsComponent parts
  pub archs : IfSome own AreArchitectures

record IsPlaced (place : Place) : Type 0 where
  suite : IsPath place.suite
  fit : FitSuites (place.suite ∷ []) place.components

place_sound : (arch : List ℕ) (at : ℕ) (words : List (List ℕ)) (place : Place) → place_at arch at words ≡ Ok place → IsPlaced place
unfolding place_at
place_sound arch at [] place e = absurd (cc)
place_sound arch at (word ∷ []) place e = let uri = bind_ok (base_at at word) _ place e in let bad = uri.2 in absurd (cc)
place_sound arch at (word ∷ second ∷ others) place e =
    let uri = bind_ok (base_at at word) _ place e in
    let suite = bind_ok (suite_at arch at second) _ place uri.2 in
    let components = bind_ok (components_at at (suite.0 ∷ []) others) _ place suite.2 in
    let same : record { uri = uri.0; suite = suite.0; components = components.0 } ≡ place = cc in
    subst IsPlaced same (record {
      suite = suite_path arch at second suite.0 suite.1;
      fit = components_fit at (suite.0 ∷ []) others components.0 components.1;
    })

pub entry_formed : (file arch : List ℕ) (at : ℕ) (text : List ℕ) (entry : Entry) → entry_at file arch at text ≡ Ok entry → IsFormed entry.suite entry.components entry.archs
unfolding entry_at
entry_formed file arch at text entry e =
    let types = bind_ok (types_at at (first_word text ∷ [])) _ entry e in
    let options = bind_ok (options_at at (words is_blank (options_text (behind_first text)))) _ entry types.2 in
    let closed = bind_ok (closed_at at (is_closed (behind_first text))) _ entry options.2 in
    let place = bind_ok (place_at arch at (words is_blank (source_text (behind_first text)))) _ entry closed.2 in
    let placed = place_sound arch at (words is_blank (source_text (behind_first text))) place.0 place.1 in
    let same : entry_of file at types.0 place.0 options.0 ≡ entry = cc in
    subst (λ e. IsFormed e.suite e.components e.archs) same (record {
      suite = placed.suite;
      exact = All-head (λ suite. is_exact suite ≡ is_empty place.0.components) place.0.suite [] placed.fit.exact;
      components = placed.fit.all;
      archs = options_sound at (words is_blank (options_text (behind_first text))) options.0 options.1;
    })

pub line_sound : (file arch : List ℕ) (at : ℕ) (text : List ℕ) (entry : Entry) → Gives (Ok entry) (entry_at file arch at text) → IsReadBase entry.uri → IsSound entry
line_sound file arch at text entry given base =
    let formed = entry_formed file arch at text entry (worked entry (entry_at file arch at text) given) in
    record { uri = base; suite = formed.suite; exact = formed.exact; components = formed.components; archs = formed.archs }

-- ---- a stanza

field_sound : (field : Field) (archs : List (List ℕ)) → architectures_of field ≡ Ok archs → AreArchitectures archs
unfolding architectures_of
field_sound field archs e = by (architectures (field_words field)) refl e where
  by : (o : Option (List (List ℕ))) → architectures (field_words field) ≡ o → ok_or o (BadLine field.at) ≡ Ok archs → AreArchitectures archs
  by (Some found) is e = let same : found ≡ archs = cc in rw (← same) (are_architectures (field_words field) found is)
  by None is e = absurd (cc)

if_there_sound : (field : Option Field) (archs : Option (List (List ℕ))) → if_there architectures_of field ≡ Ok archs → IfSome archs AreArchitectures
if_there_sound None archs e = let same : None ≡ archs = cc in rw (← same) tt
if_there_sound (Some field) archs e =
    let found = bind_ok (architectures_of field) _ archs e in
    let same : Some found.0 ≡ archs = cc in
    rw (← same) (field_sound field found.0 found.1)

fields_sound : (fields : List Field) (options : Options) → options_of fields ≡ Ok options → IfSome options.archs AreArchitectures
unfolding options_of
fields_sound fields options e =
    let archs = bind_ok (if_there architectures_of (field_named fields (codes "Architectures"))) _ options e in
    let hashes = bind_ok (if_there hashes_of (field_named fields (codes "By-Hash"))) _ options archs.2 in
    let patches = bind_ok (if_there truth_of (field_named fields (codes "PDiffs"))) _ options hashes.2 in
    let same : archs.0 ≡ options.archs = cc in
    rw (← same) (if_there_sound (field_named fields (codes "Architectures")) archs.0 archs.1)

-- what a stanza's words say of its entries, their URIs aside
pub record IsFormedStanza (stanza : Stanza) : Type 0 where
  pub suites : All IsPath stanza.suites
  pub fit : FitSuites stanza.suites stanza.components
  pub archs : IfSome stanza.options.archs AreArchitectures

suites_sound : (arch : List ℕ) (first : ℕ) (field : Option Field) (suites : List (List ℕ)) → suites_of arch first field ≡ Ok suites → All IsPath suites
unfolding suites_of
suites_sound arch first field suites e =
    let found = bind_ok (some_words first field) _ suites e in
    each_has IsPath (suite_at arch (line_of first field)) found.0 suites (suite_path arch (line_of first field)) found.2

fits : (first : ℕ) (suites : List (List ℕ)) (field : Option Field) (components : List (List ℕ)) → components_of first suites field ≡ Ok components → FitSuites suites components
unfolding components_of
fits first suites field components e = components_fit (line_of first field) suites (words_in field) components e

pub stanza_formed : (arch : List ℕ) (fields : List Field) (stanza : Stanza) → stanza_of arch fields ≡ Ok stanza → IsFormedStanza stanza
unfolding stanza_of
stanza_formed arch fields stanza e =
    let types = bind_ok (types_of (first_at fields) (field_named fields (codes "Types"))) _ stanza e in
    let uris = bind_ok (uris_of (first_at fields) (field_named fields (codes "URIs"))) _ stanza types.2 in
    let suites = bind_ok (suites_of arch (first_at fields) (field_named fields (codes "Suites"))) _ stanza uris.2 in
    let components = bind_ok (components_of (first_at fields) suites.0 (field_named fields (codes "Components"))) _ stanza suites.2 in
    let options = bind_ok (options_of fields) _ stanza components.2 in
    let same : record { types = types.0; uris = uris.0; suites = suites.0; components = components.0; options = options.0 } ≡ stanza = cc in
    subst IsFormedStanza same (record {
      suites = suites_sound arch (first_at fields) (field_named fields (codes "Suites")) suites.0 suites.1;
      fit = fits (first_at fields) suites.0 (field_named fields (codes "Components")) components.0 components.1;
      archs = fields_sound fields options.0 options.1;
    })

-- ---- the entries of a stanza

module _ (file : List ℕ) (at : ℕ) (stanza : Stanza) (formed : IsFormedStanza stanza) where
  entry_sound : (uri : Uri) (suite : List ℕ) → IsReadBase uri → IsPath suite → is_exact suite ≡ is_empty stanza.components → IsSound (entry_for file at stanza uri suite)
  entry_sound uri suite base path exact = record { uri = base; suite = path; exact = exact; components = formed.fit.all; archs = formed.archs }

  of_suites : (uri : Uri) (suites : List (List ℕ)) → IsReadBase uri → All IsPath suites → All (λ suite. is_exact suite ≡ is_empty stanza.components) suites → All IsSound (map (λ suite. entry_for file at stanza uri suite) suites)
  of_suites uri [] base paths exact = All-nil IsSound
  of_suites uri (suite ∷ suites) base paths exact =
      All-cons IsSound (entry_for file at stanza uri suite) (map (λ s. entry_for file at stanza uri s) suites)
      (entry_sound uri suite base (All-head IsPath suite suites paths) (All-head (λ s. is_exact s ≡ is_empty stanza.components) suite suites exact))
      (of_suites uri suites base (All-tail IsPath suite suites paths) (All-tail (λ s. is_exact s ≡ is_empty stanza.components) suite suites exact))

  of_uris : (uris : List Uri) → All IsReadBase uris → All IsSound (flat_map (λ uri. entries_of_uri file at stanza uri) uris)
  of_uris [] bases = All-nil IsSound
  of_uris (uri ∷ uris) bases =
      All-append IsSound (entries_of_uri file at stanza uri) (flat_map (λ u. entries_of_uri file at stanza u) uris)
      (of_suites uri stanza.suites (All-head IsReadBase uri uris bases) formed.suites formed.fit.exact)
      (of_uris uris (All-tail IsReadBase uri uris bases))

  pub stanza_sound : All IsReadBase stanza.uris → All IsSound (entries_for file at stanza)
  unfolding entries_for
  stanza_sound bases = of_uris stanza.uris bases

-- entries that are there, and those of a stanza behind them
pub more_sound : (file : List ℕ) (at : ℕ) (arch : List ℕ) (fields : List Field) (stanza : Stanza) (old new : List Entry) → Gives (Ok stanza) (stanza_of arch fields) → All IsReadBase stanza.uris → All IsSound old → new ≡ old ++ entries_for file at stanza → All IsSound new
more_sound file at arch fields stanza old new given bases all more =
    let formed = stanza_formed arch fields stanza (worked stanza (stanza_of arch fields) given) in
    rw more (All-append IsSound old (entries_for file at stanza) all (stanza_sound file at stanza formed bases))
