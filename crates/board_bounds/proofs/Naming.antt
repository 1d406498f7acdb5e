-- The list name of a sound URI has a `_`, no `/` and no NUL, so it is the name of a file in the folder, neither `lock` nor
-- `journal`, and nothing in `partial/`.
use Rattle.std.proofs.Common.{◌≡◌, ◌≢◌, ◌≤◌, ◌∙◌, ℕ, zero, suc, ◌+◌, ◌==◌, ◌||◌, ◌/◌, ◌%◌, nat_eq, nat_lt, Bool, true, false, List, [], ◌∷◌, ◌++◌, length, map, take, get_or, codes, All, Contains, Some, refl, sym, ap, subst, arith}
use Rattle.std.specs.Prelude.{if◌then◌else◌, slice_get}
use Rattle.std.specs.Fmt.{digit_glyph}
use Rattle.std.specs.List.{flat_map, list_any}
use Rattle.std.proofs.lemmas.Bool.{false≢true, ne_eqb, or_right}
use Rattle.std.proofs.lemmas.List.Elements.{All-cons, All-map}
use Rattle.std.proofs.lemmas.List.Folds.{list_any-append}
use Rattle.std.proofs.lemmas.Option.{same_Some}
use Rattle.acq_base.specs.Plan.{IsPlanned, IsSoundTarget, names_of}
use Rattle.acq_base.specs.Uri.{IsSound, is_alphanumeric, list_name, name_byte, name_of_parts, port_text}
use Rattle.acq_base.specs.declared.plan.Source.{Source}
use Rattle.acq_base.specs.declared.plan.Target.{Target}
use Rattle.acq_base.specs.declared.uri.Scheme.{Scheme}
use Rattle.acq_base.specs.declared.uri.Scheme.TheVariants.{Http, File}
use Rattle.acq_base.specs.declared.uri.Uri.{Uri}
use Rattle.acq_outside.specs.Disk.{IsName, same_name}
use Rattle.journal_model.specs.Names.{IsPutName, ends_file_name, is_file_name, is_installed_name, is_partial, journal, lock, partial}
use Rattle.journal_model.proofs.FolderNames.{list_if}
use Rattle.journal_model.proofs.Twice.{other_name}
use Rattle.board_bounds.specs.Names.{PartialNamesAreOthers, PlannedNamesAreLists, PlannedNamesArePutNames}

has_bar : List ℕ → Bool
has_bar name = list_any (λ c. c == 95) name

has_slash : List ℕ → Bool
has_slash name = list_any ends_file_name name

-- ---- no slash, and no NUL

ends-neither : (c : ℕ) → (c == 47) ≡ false → (c == 0) ≡ false → ends_file_name c ≡ false
ends-neither c slash nul = rw (slash, nul) refl

glyph-flat : (d : ℕ) → ends_file_name (digit_glyph false d) ≡ false
glyph-flat d = one (nat_lt d 10)
  where
    one : (t : Bool) → ends_file_name (if t then 48 + d else (if false then 55 + d else 87 + d)) ≡ false
    one true = ends-neither (48 + d) (ne_eqb (48 + d) 47 (λ e. omega (arith, e))) (ne_eqb (48 + d) 0 (λ e. omega (arith, e)))
    one false = ends-neither (87 + d) (ne_eqb (87 + d) 47 (λ e. omega (arith, e))) (ne_eqb (87 + d) 0 (λ e. omega (arith, e)))

-- a byte that stands for itself
stands : ℕ → Bool
stands c = is_alphanumeric c || list_any (λ d. c == d) (codes ".-+:")

no-nul : (c : ℕ) → stands c ≡ true → (c == 0) ≡ false
unfolding stands
no-nul c is = ne_eqb c 0 (λ nul. false≢true (subst (λ (n : ℕ). (is_alphanumeric n || list_any (λ d. n == d) (codes ".-+:")) ≡ true) nul is))

byte-flat : (c : ℕ) → has_slash (name_byte c) ≡ false
unfolding has_slash stands
byte-flat c = one (c == 47) refl (stands c) refl
  where
    one : (t : Bool) → (c == 47) ≡ t → (u : Bool) → stands c ≡ u
        → list_any ends_file_name (if t then 95 ∷ [] else if u then c ∷ [] else 37 ∷ digit_glyph false (c / 16) ∷ digit_glyph false (c % 16) ∷ []) ≡ false
    one true is u what = refl
    one false is true what = rw (ends-neither c is (no-nul c what)) refl
    one false is false what = rw (glyph-flat (c / 16), glyph-flat (c % 16)) refl

text-flat : (text : List ℕ) → has_slash (flat_map name_byte text) ≡ false
unfolding has_slash
text-flat [] = refl
text-flat (c ∷ text) =
    list_any-append ends_file_name (name_byte c) (flat_map name_byte text)
    ∙ ap (λ (b : Bool). b || has_slash (flat_map name_byte text)) (byte-flat c) ∙ text-flat text

parts-flat : (scheme : Scheme) (host : List ℕ) (port : ℕ) (path : List ℕ) → has_slash (name_of_parts scheme host port path) ≡ false
unfolding name_of_parts
parts-flat Http host port path = text-flat (host ++ port_text port ++ path)
parts-flat File host port path = text-flat path

-- ---- a bar

text-barred : (front path : List ℕ) → slice_get path 0 ≡ Some 47 → has_bar (flat_map name_byte (front ++ path)) ≡ true
unfolding has_bar
text-barred [] [] rooted = absurd (cc)
text-barred [] (c ∷ path) rooted = let slash : c ≡ 47 = same_Some c 47 rooted in subst (λ d. list_any (λ c. c == 95) (flat_map name_byte (d ∷ path)) ≡ true) (sym slash) refl
text-barred (c ∷ front) path rooted =
    list_any-append (λ d. d == 95) (name_byte c) (flat_map name_byte (front ++ path))
    ∙ ap (λ (b : Bool). list_any (λ d. d == 95) (name_byte c) || b) (text-barred front path rooted) ∙ or_right (list_any (λ d. d == 95) (name_byte c)) true refl

parts-barred : (scheme : Scheme) (host : List ℕ) (port : ℕ) (path : List ℕ) → slice_get path 0 ≡ Some 47 → has_bar (name_of_parts scheme host port path) ≡ true
unfolding name_of_parts
parts-barred Http host port path rooted = text-barred (host ++ port_text port) path rooted
parts-barred File host port path rooted = text-barred [] path rooted

-- ---- the names of a source

-- a name of a sound URI
abbrev IsListName : List ℕ → Type 0
IsListName name = (has_bar name ≡ true) × (has_slash name ≡ false)

list-named : (uri : Uri) (name : List ℕ) → IsSound uri → name ≡ list_name uri → IsListName name
list-named uri name sound is = subst IsListName (sym is) (parts-barred uri.scheme uri.host uri.port uri.path sound.rooted, parts-flat uri.scheme uri.host uri.port uri.path)

names-named : (source : Source) → IsPlanned source → All IsListName (names_of source)
names-named source planned =
    All-cons IsListName source.release_name.0 (map (λ (t : Target). t.name.0) source.targets)
    (list-named source.release source.release_name.0 planned.sound.release planned.sound.named)
    (All-map IsListName (λ (t : Target). t.name.0) source.targets (λ i d below. one (get_or source.targets i d) (planned.sound.targets i d below)))
  where
    one : (target : Target) → IsSoundTarget target → IsListName target.name.0
    one target sound = list-named target.uri target.name.0 sound.uri sound.named

-- no name with a bar is one without
other-name : (name fixed : List ℕ) → has_bar name ≡ true → has_bar fixed ≡ false → name ≢ fixed
other-name name fixed barred plain same = false≢true (sym plain ∙ ap has_bar (sym same) ∙ barred)

lock-plain : has_bar lock ≡ false
unfolding has_bar
lock-plain = refl

journal-plain : has_bar journal ≡ false
unfolding has_bar
journal-plain = refl

put-name : (name : List ℕ) → IsName name → length name ≤ 240 → IsListName name → IsPutName name
put-name name named short is = record {
  named = named;
  short = omega (arith, short);
  not_lock = other-name name lock is.0 lock-plain;
  not_journal = other-name name journal is.0 journal-plain;
}

pub put-names : ((source : Source) → IsPlanned source → All IsName (names_of source)) → PlannedNamesArePutNames
put-names law source planned i d below =
    put-name (get_or (names_of source) i d) (law source planned i d below) (planned.short i d below) (names-named source planned i d below)

take-flat : (n : ℕ) (xs : List ℕ) → has_slash xs ≡ false → has_slash (take n xs) ≡ false
unfolding has_slash
take-flat n [] h = one n
  where
    one : (n : ℕ) → list_any ends_file_name (take n []) ≡ false
    one zero = refl
    one (suc n) = refl
take-flat zero (x ∷ xs) h = refl
take-flat (suc n) (x ∷ xs) h = one (ends_file_name x) (take-flat n xs) h
  where
    one : (c : Bool) → (list_any ends_file_name xs ≡ false → list_any ends_file_name (take n xs) ≡ false) → (c || list_any ends_file_name xs) ≡ false → (c || list_any ends_file_name (take n xs)) ≡ false
    one true rest h = h
    one false rest h = rest h

slashed : (has_slash (codes "partial/")) ≡ true
unfolding has_slash
slashed = refl

not-partial : (name : List ℕ) → has_slash name ≡ false → is_partial name ≡ false
not-partial name flat = other_name (take 8 name) (codes "partial/") (λ same. false≢true (sym (take-flat 8 name flat) ∙ ap has_slash same ∙ slashed))

here-plain : has_bar (codes ".") ≡ false
unfolding has_bar
here-plain = refl

up-plain : has_bar (codes "..") ≡ false
unfolding has_bar
up-plain = refl

has-bytes : (name : List ℕ) → has_bar name ≡ true → nat_eq (length name) 0 ≡ false
unfolding has_bar
has-bytes [] barred = absurd (cc)
has-bytes (c ∷ name) barred = ne_eqb (length (c ∷ name)) 0 (λ e. omega (arith, e))

file-name : (name : List ℕ) → IsListName name → is_file_name name ≡ true
unfolding is_file_name has_slash
file-name name is =
    let not_here : same_name name (codes ".") ≡ false = other_name name (codes ".") (other-name name (codes ".") is.0 here-plain) in
    let not_up : same_name name (codes "..") ≡ false = other_name name (codes "..") (other-name name (codes "..") is.0 up-plain) in
    rw (has-bytes name is.0, is.1, not_here, not_up) refl

is-list : (name : List ℕ) → IsListName name → is_installed_name name ≡ true
is-list name is =
    let not_journal : same_name name journal ≡ false = other_name name journal (other-name name journal is.0 journal-plain) in
    let not_lock : same_name name lock ≡ false = other_name name lock (other-name name lock is.0 lock-plain) in
    list_if name not_journal not_lock (not-partial name is.1) (file-name name is)

pub are-lists : PlannedNamesAreLists
are-lists source planned i d below = is-list (get_or (names_of source) i d) (names-named source planned i d below)

partial-slashed : (other : List ℕ) → has_slash (partial other) ≡ true
unfolding has_slash
partial-slashed other = refl

named-at : (names : List (List ℕ)) (name : List ℕ) → All IsListName names → Contains names name → IsListName name
named-at names name all among = subst IsListName among.2 (all among.0 name among.1)

pub partials-others : PartialNamesAreOthers
partials-others source planned name other among same =
    let is = named-at (names_of source) name (names-named source planned) among in
    false≢true (sym is.1 ∙ ap has_slash (sym same) ∙ partial-slashed other)
