-- The name of a package file is that of a file that can be put into a folder.
use Rattle.std.proofs.Common.{◌≡◌, ◌≢◌, ℕ, ◌<◌, ◌≤◌, ◌||◌, ◌&&◌, ◌==◌, not, nat_le, Bool, true, false, List, [], ◌∷◌, length, drop, codes, bytes_eq, refl, sym, ap, ◌∙◌, subst, arith, zero, suc, All, IsTrue}
use Rattle.std.proofs.lemmas.Bool.{and_parts, or_parts, not-true, eqb-true, leb-true, false≢true}
use Rattle.std.proofs.lemmas.Str.{IsUtf8-from_ascii}
use Rattle.std.proofs.lemmas.Str.Ascii.{IsAscii-nil, IsAscii-cons}
use Rattle.std.proofs.lemmas.List.Elements.{All-cons, All-nil}
use Rattle.std.specs.List.{list_all, list_any}
use Rattle.std.specs.Str.{IsAscii}
use Rattle.acq_base.proofs.Texts.{bytes_eq-refl}
use Rattle.acq_base.proofs.Uris.{alphanumeric_small}
use Rattle.acq_base.specs.Uri.{is_alphanumeric}
use Rattle.journal_model.specs.Names.{IsPutName, journal, lock}
use Rattle.uri_names.specs.Folder.{AreBelowCharacters, is_below_character}
use Rattle.deb_fetch.specs.Filenames.{IsDebName, file_name_of, is_deb_path, leads_up, may_name_file}

mark_small : (c : ℕ) (marks : List ℕ) → list_all (λ d. nat_le d 127) marks ≡ true → list_any (λ d. c == d) marks ≡ true → c < 128
mark_small c [] small is = absurd cc
mark_small c (d ∷ marks) small is = by (and_parts (nat_le d 127) (list_all (λ d. nat_le d 127) marks) small) (mark_small c marks) (c == d) refl is
  where
    by : (nat_le d 127 ≡ true) × (list_all (λ d. nat_le d 127) marks ≡ true)
        → (list_all (λ d. nat_le d 127) marks ≡ true → list_any (λ d. c == d) marks ≡ true → c < 128)
        → (u : Bool) → (c == d) ≡ u → (u || list_any (λ d. c == d) marks) ≡ true → c < 128
    by parts later true same others = omega (arith, leb-true d 127 parts.0, eqb-true c d same)
    by parts later false differ others = later parts.1 others

below_small : (c : ℕ) → is_below_character c ≡ true → c < 128
below_small c is = by (is_alphanumeric c) refl is
  where
    by : (t : Bool) → is_alphanumeric c ≡ t → (t || list_any (λ d. c == d) (codes "._-+~:/")) ≡ true → c < 128
    by true letter others = alphanumeric_small c letter
    by false other others = mark_small c (codes "._-+~:/") refl others

below_ascii : (text : List ℕ) → list_all is_below_character text ≡ true → IsAscii text
below_ascii [] all = IsAscii-nil
below_ascii (c ∷ text) all =
    let parts = and_parts (is_below_character c) (list_all is_below_character text) all in
    IsAscii-cons c text (below_small c parts.0) (below_ascii text parts.1)

all-drop : (n : ℕ) (text : List ℕ) → list_all is_below_character text ≡ true → list_all is_below_character (drop n text) ≡ true
all-drop zero text all = all
all-drop (suc n) [] all = refl
all-drop (suc n) (c ∷ text) all = all-drop n text (and_parts (is_below_character c) (list_all is_below_character text) all).1

pub record IsAllowed (path : List ℕ) : Type 0 where
  pub some : 1 ≤ length path
  pub few : length path ≤ 1024
  pub characters : list_all is_below_character path ≡ true
  pub file : may_name_file (file_name_of path) ≡ true

pub allowed : (path : List ℕ) → is_deb_path path ≡ true → IsAllowed path
unfolding is_deb_path
allowed path is =
    let named = and_parts (nat_le 1 (length path) && nat_le (length path) 1024 && list_all is_below_character path && not (leads_up path)) (may_name_file (file_name_of path)) is in
    let plain = and_parts (nat_le 1 (length path) && nat_le (length path) 1024 && list_all is_below_character path) (not (leads_up path)) named.0 in
    let written = and_parts (nat_le 1 (length path) && nat_le (length path) 1024) (list_all is_below_character path) plain.0 in
    let sized = and_parts (nat_le 1 (length path)) (nat_le (length path) 1024) written.0 in
    record { some = leb-true 1 (length path) sized.0; few = leb-true (length path) 1024 sized.1; characters = written.1; file = named.1 }

record IsFileName (name : List ℕ) : Type 0 where
  some : 1 ≤ length name
  few : length name ≤ 240
  not_lock : bytes_eq name (codes "lock") ≡ false
  not_journal : bytes_eq name (codes "journal") ≡ false

file_named : (name : List ℕ) → may_name_file name ≡ true → IsFileName name
unfolding may_name_file
file_named name is =
    let free = and_parts (nat_le 1 (length name) && nat_le (length name) 240) (not (bytes_eq name (codes ".") || bytes_eq name (codes "lock") || bytes_eq name (codes "journal"))) is in
    let sized = and_parts (nat_le 1 (length name)) (nat_le (length name) 240) free.0 in
    let none = or_parts (bytes_eq name (codes ".") || bytes_eq name (codes "lock")) (bytes_eq name (codes "journal")) (not-true (bytes_eq name (codes ".") || bytes_eq name (codes "lock") || bytes_eq name (codes "journal")) free.1) in
    let early = or_parts (bytes_eq name (codes ".")) (bytes_eq name (codes "lock")) none.0 in
    record { some = leb-true 1 (length name) sized.0; few = leb-true (length name) 240 sized.1; not_lock = early.1; not_journal = none.1 }

other_than : (name word : List ℕ) → bytes_eq name word ≡ false → name ≢ word
other_than name word differs same = false≢true (sym differs ∙ ap (λ (n : List ℕ). bytes_eq n word) same ∙ bytes_eq-refl word)

put_name : (path : List ℕ) → is_deb_path path ≡ true → IsPutName (file_name_of path)
put_name path is =
    let whole = allowed path is in
    let name = file_named (file_name_of path) whole.file in
    record {
      named = record {
        text = IsUtf8-from_ascii (file_name_of path) (below_ascii (file_name_of path) (all-drop _ path whole.characters));
        nonempty = name.some;
        short = omega (arith, name.few);
      };
      short = omega (arith, name.few);
      not_lock = other_than (file_name_of path) lock name.not_lock;
      not_journal = other_than (file_name_of path) journal name.not_journal;
    }

pub deb_names_are_put_names : (name : List ℕ) → IsDebName name → IsPutName name
deb_names_are_put_names name is = subst (λ (n : List ℕ). IsPutName n) (sym is.last) (put_name is.path is.allowed)

all_below : (text : List ℕ) → list_all is_below_character text ≡ true → All (λ (c : ℕ). IsTrue (is_below_character c)) text
all_below [] all = All-nil (λ (c : ℕ). IsTrue (is_below_character c))
all_below (c ∷ text) all =
    let parts = and_parts (is_below_character c) (list_all is_below_character text) all in
    All-cons (λ (c : ℕ). IsTrue (is_below_character c)) c text parts.0 (all_below text parts.1)

pub below_path : (bytes path : List ℕ) → bytes ≡ path → is_deb_path path ≡ true → AreBelowCharacters bytes
below_path bytes path same is = subst (λ (l : List ℕ). AreBelowCharacters l) (sym same) (all_below path (allowed path is).characters)
