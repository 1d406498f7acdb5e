-- The files of a folder read one after another.
use Rattle.std.proofs.Common.{◌≡◌, ◌∙◌, refl, sym, ap, ap₂, subst, inl, inr, ◌⊎◌, arith, ℕ, suc, ◌+◌, ◌<◌, ◌≤◌, List, [], ◌∷◌, ◌++◌, length, take, drop, map, get_or, drop-cons, append_assoc, Option, Some, None, Result, Ok, Err}
use Rattle.std.proofs.lemmas.List.{append-nil, map-append, take_all, take_more, take-append-drop}
use Rattle.acq_outside.specs.Etc.{EtcFiles}
use Rattle.acq_outside.specs.declared.etc.Place.{Place}
use Rattle.configuration.specs.declared.error.ConfigurationError.{ConfigurationError}
use Rattle.configuration.specs.Answers.{Adds, AddsParts, AddsText, AreParts, IsOutside, IsText, part_names}
use Rattle.configuration.specs.Configured.{◌>>=◌, all_of}
use Rattle.configuration.specs.Folder.{FolderFile, parts_at}
use Rattle.configuration.proofs.Order.{Name}

-- ---- texts one behind another

module _ {X Y : Type 0} where
  pub all_append : (read : X → Result (List Y) ConfigurationError) (a b : List X) (found more : List Y) → all_of read a ≡ Ok found → all_of read b ≡ Ok more → all_of read (a ++ b) ≡ Ok (found ++ more)
  unfolding all_of
  all_append read [] b found more first second = let none : [] ≡ found = cc in second ∙ ap (λ (xs : List Y). Ok (xs ++ more)) none
  all_append read (x ∷ a) b found more first second = go (read x) (all_of read a) refl first (λ (others : List Y) (e : all_of read a ≡ Ok others). all_append read a b others more e second)
    where
      go : (here rest : Result (List Y) ConfigurationError) → all_of read a ≡ rest → (here >>= λ xs. rest >>= λ ys. Ok (xs ++ ys)) ≡ Ok found
          → ((others : List Y) → all_of read a ≡ Ok others → all_of read (a ++ b) ≡ Ok (others ++ more))
          → (here >>= λ xs. all_of read (a ++ b) >>= λ ys. Ok (xs ++ ys)) ≡ Ok (found ++ more)
      go (Ok xs) (Ok ys) e is later = let joined : xs ++ ys ≡ found = cc in rw (later ys e) (ap Ok (sym (append_assoc xs ys more)) ∙ ap (λ (zs : List Y). Ok (zs ++ more)) joined)
      go (Ok xs) (Err refusal) e is later = absurd (cc)
      go (Err refusal) rest e is later = absurd (cc)

  pub all_stops : (read : X → Result (List Y) ConfigurationError) (a b : List X) (found : List Y) (refusal : ConfigurationError) → all_of read a ≡ Ok found → all_of read b ≡ Err refusal → all_of read (a ++ b) ≡ Err refusal
  unfolding all_of
  all_stops read [] b found refusal first second = second
  all_stops read (x ∷ a) b found refusal first second = go (read x) (all_of read a) refl first (λ (others : List Y) (e : all_of read a ≡ Ok others). all_stops read a b others refusal e second)
    where
      go : (here rest : Result (List Y) ConfigurationError) → all_of read a ≡ rest → (here >>= λ xs. rest >>= λ ys. Ok (xs ++ ys)) ≡ Ok found
          → ((others : List Y) → all_of read a ≡ Ok others → all_of read (a ++ b) ≡ Err refusal)
          → (here >>= λ xs. all_of read (a ++ b) >>= λ ys. Ok (xs ++ ys)) ≡ Err refusal
      go (Ok xs) (Ok ys) e is later = rw (later ys e) refl
      go (Ok xs) (Err other) e is later = absurd (cc)
      go (Err other) rest e is later = absurd (cc)

  pub all_one : (read : X → Result (List Y) ConfigurationError) (x : X) (found : List Y) → read x ≡ Ok found → all_of read (x ∷ []) ≡ Ok found
  unfolding all_of
  all_one read x found is = rw is (ap Ok (append-nil found))

  pub first_stops : (read : X → Result (List Y) ConfigurationError) (x : X) (xs : List X) (refusal : ConfigurationError) → read x ≡ Err refusal → all_of read (x ∷ xs) ≡ Err refusal
  unfolding all_of
  first_stops read x xs refusal is = rw is refl

  pub all_none : (read : X → Result (List Y) ConfigurationError) → all_of read [] ≡ Ok []
  unfolding all_of
  all_none read = refl

-- ---- the parts that names stand for

parts_append : (told : Option EtcFiles) (place : Place) (a b : List Name) (p q : List FolderFile) → AreParts told place a p → AreParts told place b q → AreParts told place (a ++ b) (p ++ q)
parts_append (Some files) place a b p q first second = ap₂ (λ (x y : List FolderFile). x ++ y) first second ∙ sym (map-append _ a b)
parts_append None place a b p q first second = map-append _ p q ∙ ap₂ (λ (x y : List Name). x ++ y) first second

parts_nil : (told : Option EtcFiles) (place : Place) → AreParts told place [] []
parts_nil (Some files) place = refl
parts_nil None place = refl

part_one : (told : Option EtcFiles) (place : Place) (name text : List ℕ) → IsText told place name text → AreParts told place (name ∷ []) ((name, text) ∷ [])
part_one (Some files) place name text is = ap (λ (t : List ℕ). (name, t) ∷ []) is
part_one None place name text is = refl

empty_names : (names : List Name) → part_names (map (λ name. (name, [])) names) ≡ names
empty_names [] = refl
empty_names (name ∷ names) = ap (λ (ns : List Name). name ∷ ns) (empty_names names)

pub some_parts : (told : Option EtcFiles) (place : Place) (names : List Name) → (parts : List FolderFile) × AreParts told place names parts
some_parts (Some files) place names = (parts_at files place names, refl)
some_parts None place names = (map (λ name. (name, [])) names, empty_names names)

-- ---- the loop over names

module _ {X : Type 0} (told : Option EtcFiles) (place : Place) (read : FolderFile → Result (List X) ConfigurationError) where
  -- the files of these names are read, and gave what stands behind what was there before
  pub record Progress (names : List Name) (before now : List X) : Type 0 where
    pub parts : List FolderFile
    pub are : AreParts told place names parts
    pub more : List X
    pub read_all : all_of read parts ≡ Ok more
    pub is : now ≡ before ++ more

  abbrev pub AddsOne : Name → List X → List X → Result (Unit {0}) ConfigurationError → Type 0
  AddsOne name before after result = AddsText told place name (λ text. read (name, text)) before after result

  pub begins : (before : List X) → Progress [] before before
  begins before = record { parts = []; are = parts_nil told place; more = []; read_all = all_none read; is = sym (append-nil before) }

  goes_behind : (names : List Name) (name : Name) (before now after : List X) (done : Unit {0}) → Progress names before now → AddsOne name now after (Ok done) → Progress (names ++ name ∷ []) before after
  goes_behind names name before now after done so_far (text, is, (found, gives, behind)) = record {
    parts = so_far.parts ++ (name, text) ∷ [];
    are = parts_append told place names (name ∷ []) so_far.parts ((name, text) ∷ []) so_far.are (part_one told place name text is);
    more = so_far.more ++ found;
    read_all = all_append read so_far.parts ((name, text) ∷ []) so_far.more found so_far.read_all (all_one read (name, text) found gives);
    is = behind ∙ ap (λ (xs : List X). xs ++ found) so_far.is ∙ append_assoc before so_far.more found;
  }

  pub goes : (names : List Name) (i : ℕ) (name : Name) (before now after : List X) (done : Unit {0}) → Progress (take i names) before now → i < length names → name ≡ get_or names i name → AddsOne name now after (Ok done) → Progress (take (i + 1) names) before after
  goes names i name before now after done so_far within at adds =
      subst (λ (ns : List Name). Progress ns before after) (sym (take_more names i name within ∙ ap (λ (n : Name). take i names ++ n ∷ []) (sym at)))
      (goes_behind (take i names) name before now after done so_far adds)

  split_at : (names : List Name) (i : ℕ) (name : Name) → i < length names → name ≡ get_or names i name → take i names ++ (name ∷ drop (i + 1) names) ≡ names
  split_at names i name within at =
      let next : suc i ≡ i + 1 = omega arith in
      ap (λ (n : ℕ). take i names ++ (name ∷ drop n names)) (sym next)
      ∙ ap (λ (n : Name). take i names ++ (n ∷ drop (suc i) names)) at
      ∙ ap (λ (ns : List Name). take i names ++ ns) (sym (drop-cons names i name within))
      ∙ take-append-drop i names

  pub stops : (names : List Name) (i : ℕ) (name : Name) (before now after later : List X) (refusal : ConfigurationError) → Progress (take i names) before now → i < length names → name ≡ get_or names i name → AddsOne name now after (Err refusal)
      → AddsParts told place names read before later (Err refusal)
  stops names i name before now after later refusal so_far within at (text, is, adds) =
      let rest = some_parts told place (drop (i + 1) names) in
      let behind = (name, text) ∷ rest.0 in
      let are = parts_append told place (take i names) (name ∷ drop (i + 1) names) so_far.parts behind so_far.are (parts_append told place (name ∷ []) (drop (i + 1) names) ((name, text) ∷ []) rest.0 (part_one told place name text is) rest.1) in
      (so_far.parts ++ behind, subst (λ (ns : List Name). AreParts told place ns (so_far.parts ++ behind)) (split_at names i name within at) are, go adds)
    where
      go : IsOutside refusal ⊎ (read (name, text) ≡ Err refusal) → IsOutside refusal ⊎ (all_of read (so_far.parts ++ (name, text) ∷ (some_parts told place (drop (i + 1) names)).0) ≡ Err refusal)
      go (inl outside) = inl outside
      go (inr refused) = inr (all_stops read so_far.parts _ so_far.more refusal so_far.read_all (first_stops read (name, text) _ refusal refused))

  pub ends : (names : List Name) (i : ℕ) (before now : List X) (done : Unit {0}) → Progress (take i names) before now → length names ≤ i → AddsParts told place names read before now (Ok done)
  ends names i before now done so_far past =
      let whole = subst (λ (ns : List Name). AreParts told place ns so_far.parts) (take_all i names past) so_far.are in
      (so_far.parts, whole, (so_far.more, so_far.read_all, so_far.is))

-- ---- the loop over words

module _ {W X : Type 0} (read : W → Result (List X) ConfigurationError) where
  -- these words are read, and gave what stands behind what was there before
  pub record Said (words : List W) (before now : List X) : Type 0 where
    pub more : List X
    pub read_all : all_of read words ≡ Ok more
    pub is : now ≡ before ++ more

  pub said_begins : (before : List X) → Said [] before before
  said_begins before = record { more = []; read_all = all_none read; is = sym (append-nil before) }

  pub said_goes : (words : List W) (i : ℕ) (word : W) (before now after : List X) (done : Unit {0}) → Said (take i words) before now → i < length words → word ≡ get_or words i word → Adds (read word) now after (Ok done)
      → Said (take (i + 1) words) before after
  said_goes words i word before now after done so_far within at (found, gives, behind) =
      subst (λ (ws : List W). Said ws before after) (sym (take_more words i word within ∙ ap (λ (w : W). take i words ++ w ∷ []) (sym at))) (record {
        more = so_far.more ++ found;
        read_all = all_append read (take i words) (word ∷ []) so_far.more found so_far.read_all (all_one read word found gives);
        is = behind ∙ ap (λ (xs : List X). xs ++ found) so_far.is ∙ append_assoc before so_far.more found;
      })

  word_split : (words : List W) (i : ℕ) (word : W) → i < length words → word ≡ get_or words i word → take i words ++ (word ∷ drop (i + 1) words) ≡ words
  word_split words i word within at =
      let next : suc i ≡ i + 1 = omega arith in
      ap (λ (n : ℕ). take i words ++ (word ∷ drop n words)) (sym next)
      ∙ ap (λ (w : W). take i words ++ (w ∷ drop (suc i) words)) at
      ∙ ap (λ (ws : List W). take i words ++ ws) (sym (drop-cons words i word within))
      ∙ take-append-drop i words

  pub said_stops : (words : List W) (i : ℕ) (word : W) (before now after later : List X) (refusal : ConfigurationError) → Said (take i words) before now → i < length words → word ≡ get_or words i word → Adds (read word) now after (Err refusal)
      → Adds (all_of read words) before later (Err refusal)
  said_stops words i word before now after later refusal so_far within at (inl outside) = inl outside
  said_stops words i word before now after later refusal so_far within at (inr refused) =
      inr (ap (all_of read) (sym (word_split words i word within at)) ∙ all_stops read (take i words) (word ∷ drop (i + 1) words) so_far.more refusal so_far.read_all (first_stops read word (drop (i + 1) words) refusal refused))

  pub said_ends : (words : List W) (i : ℕ) (before now : List X) (done : Unit {0}) → Said (take i words) before now → length words ≤ i → Adds (all_of read words) before now (Ok done)
  said_ends words i before now done so_far past = (so_far.more, ap (all_of read) (sym (take_all i words past)) ∙ so_far.read_all, so_far.is)

-- ---- the same where what is told is said of another state of the folder

module _ {X : Type 0} (told : Option EtcFiles) (place : Place) (read : FolderFile → Result (List X) ConfigurationError) where
  pub begins_at : (names : List Name) (before : List X) → Progress told place read (take 0 names) before before
  begins_at [] before = begins told place read before
  begins_at (name ∷ names) before = begins told place read before

  pub goes_at : (told1 : Option EtcFiles) → told1 ≡ told → (names : List Name) (i : ℕ) (name : Name) (before now after : List X) (done : Unit {0}) → Progress told place read (take i names) before now → i < length names → name ≡ get_or names i name
      → AddsText told1 place name (λ text. read (name, text)) now after (Ok done) → Progress told place read (take (i + 1) names) before after
  goes_at told1 same names i name before now after done so_far within at adds =
      goes told place read names i name before now after done so_far within at (subst (λ (t : Option EtcFiles). AddsText t place name (λ text. read (name, text)) now after (Ok done)) same adds)

  pub stops_at : (told1 : Option EtcFiles) → told1 ≡ told → (names : List Name) (i : ℕ) (name : Name) (before now after later : List X) (refusal : ConfigurationError) → Progress told place read (take i names) before now → i < length names → name ≡ get_or names i name
      → AddsText told1 place name (λ text. read (name, text)) now after (Err refusal) → AddsParts told place names read before later (Err refusal)
  stops_at told1 same names i name before now after later refusal so_far within at adds =
      stops told place read names i name before now after later refusal so_far within at (subst (λ (t : Option EtcFiles). AddsText t place name (λ text. read (name, text)) now after (Err refusal)) same adds)
