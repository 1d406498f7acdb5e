-- The list name of a sound URI is ASCII and has a character, so a short one is a name that a disk may have.
use Rattle.std.proofs.Common.{◌≡◌, refl, sym, ap, subst, arith, ℕ, suc, ◌+◌, ◌/◌, ◌%◌, ◌<◌, ◌≤◌, ◌^◌, ◌==◌, ◌||◌, ◌&&◌, nat_lt, Bool, true, false, if◌then◌else◌, List, [], ◌∷◌, ◌++◌, length, map, get_or, slice_get, Some, All, IsTrue, codes, length-append}
use Rattle.std.proofs.lemmas.Bool.Decides.{nat_tests}
use Rattle.std.proofs.lemmas.Fmt.{IsAscii-decimal}
use Rattle.std.proofs.lemmas.List.{get_or-map, length-map}
use Rattle.std.proofs.lemmas.List.Elements.{All-head, All-tail, All-cons, All-map}
use Rattle.std.proofs.lemmas.Nat.{div_below, mod_below}
use Rattle.std.proofs.lemmas.Str.{IsAscii-append, IsUtf8-from_ascii}
use Rattle.std.proofs.lemmas.Str.Ascii.{IsAscii-nil, IsAscii-cons}
use Rattle.std.specs.Fmt.{decimal, digit_glyph}
use Rattle.std.specs.List.{list_all, list_any, flat_map}
use Rattle.std.specs.Str.{IsAscii}
use Rattle.acq_base.specs.Plan.{IsPlanned, IsSoundTarget, names_of}
use Rattle.acq_base.specs.Uri.{IsSound, IsAuthority, IsHostCharacter, is_alphanumeric, is_uri_character, port_text, name_byte, name_of_parts, list_name}
use Rattle.acq_base.specs.declared.plan.Source.{Source}
use Rattle.acq_base.specs.declared.plan.Target.{Target}
use Rattle.acq_base.specs.declared.uri.Scheme.{Scheme}
use Rattle.acq_base.specs.declared.uri.Scheme.TheVariants.{Http, File}
use Rattle.acq_base.specs.declared.uri.Uri.{Uri}
use Rattle.acq_base.proofs.Uris.{alphanumeric_small, length-name_byte}
use Rattle.acq_outside.specs.Disk.{IsName}

-- one character
one_of_small : (c : ℕ) (marks : List ℕ) → list_all (λ d. nat_lt d 128) marks ≡ true → list_any (λ d. c == d) marks ≡ true → c < 128
one_of_small c [] small is = absurd cc
one_of_small c (d ∷ marks) small is = by (one_of_small c marks) (nat_lt d 128) refl (c == d) refl small is
  where
    by : (list_all (λ d. nat_lt d 128) marks ≡ true → list_any (λ d. c == d) marks ≡ true → c < 128) → (t : Bool) → nat_lt d 128 ≡ t → (u : Bool) → (c == d) ≡ u → (t && list_all (λ d. nat_lt d 128) marks) ≡ true → (u || list_any (λ d. c == d) marks) ≡ true → c < 128
    by later true low true same others is = grind (arith, nat_tests)
    by later true low false differ others is = later others is
    by later false high u test others is = absurd cc

either_small : (c : ℕ) (marks : List ℕ) → list_all (λ d. nat_lt d 128) marks ≡ true → (is_alphanumeric c || list_any (λ d. c == d) marks) ≡ true → c < 128
either_small c marks small is = by (is_alphanumeric c) refl is
  where
    by : (t : Bool) → is_alphanumeric c ≡ t → (t || list_any (λ d. c == d) marks) ≡ true → c < 128
    by true letter is = alphanumeric_small c letter
    by false other is = one_of_small c marks small is

uri_small : (c : ℕ) → IsTrue (is_uri_character c) → c < 128
uri_small c is = either_small c (codes "-._~:/?[]@!$&'()*+,;=%") refl is

host_small : (c : ℕ) → IsHostCharacter c → c < 128
host_small c (slash, at, mark, low, high) = omega (arith, high)

-- what stands for one
glyph_small : (d : ℕ) → d < 16 → digit_glyph false d < 128
glyph_small d low = by (nat_lt d 10) refl
  where
    by : (t : Bool) → nat_lt d 10 ≡ t → (if t then 48 + d else (if false then 55 + d else 87 + d)) < 128
    by true is = omega (arith, low)
    by false is = omega (arith, low)

byte_small : (c : ℕ) → c < 128 → IsAscii (name_byte c)
byte_small c small = by (c == 47) (is_alphanumeric c || list_any (λ d. c == d) (codes ".-+:"))
  where
    high : c / 16 < 16
    high = div_below c 16 16 (omega arith) (omega (arith, small))

    low : c % 16 < 16
    low = mod_below c 16 (omega arith)

    by : (t u : Bool) → IsAscii (if t then 95 ∷ [] else if u then c ∷ [] else 37 ∷ digit_glyph false (c / 16) ∷ digit_glyph false (c % 16) ∷ [])
    by true u = IsAscii-cons 95 [] (omega arith) IsAscii-nil
    by false true = IsAscii-cons c [] small IsAscii-nil
    by false false =
        IsAscii-cons 37 (digit_glyph false (c / 16) ∷ digit_glyph false (c % 16) ∷ []) (omega arith)
        (IsAscii-cons (digit_glyph false (c / 16)) (digit_glyph false (c % 16) ∷ []) (glyph_small (c / 16) high) (IsAscii-cons (digit_glyph false (c % 16)) [] (glyph_small (c % 16) low) IsAscii-nil))

-- a text
ascii_all : {P : ℕ → Type 0} (text : List ℕ) → ((c : ℕ) → P c → c < 128) → All P text → IsAscii text
ascii_all [] small all = IsAscii-nil
ascii_all {P} (c ∷ text) small all = IsAscii-cons c text (small c (All-head P c text all)) (ascii_all text small (All-tail P c text all))

port_ascii : (port : ℕ) → port < 2 ^ 16 → IsAscii (port_text port)
port_ascii port low = by (port == 80)
  where
    by : (t : Bool) → IsAscii (if t then [] else 58 ∷ decimal port)
    by true = IsAscii-nil
    by false = IsAscii-cons 58 (decimal port) (omega arith) (IsAscii-decimal port (omega (arith, low)))

name_ascii : (text : List ℕ) → IsAscii text → IsAscii (flat_map name_byte text)
name_ascii [] ascii = IsAscii-nil
name_ascii (c ∷ text) ascii = IsAscii-append (name_byte c) (flat_map name_byte text) (byte_small c (ascii 0)) (name_ascii text (λ i. ascii (suc i)))

name_some : (text : List ℕ) → 1 ≤ length text → 1 ≤ length (flat_map name_byte text)
name_some [] some = absurd (omega arith)
name_some (c ∷ text) some = omega (arith, length-name_byte c, length-append (name_byte c) (flat_map name_byte text))

rooted_some : (path : List ℕ) → slice_get path 0 ≡ Some 47 → 1 ≤ length path
rooted_some [] rooted = absurd cc
rooted_some (c ∷ path) rooted = omega arith

-- a URI's list name
parts_ascii : (scheme : Scheme) (host : List ℕ) (port : ℕ) (path : List ℕ) → IsAuthority scheme host port → port < 2 ^ 16 → IsAscii path → IsAscii (name_of_parts scheme host port path)
unfolding name_of_parts
parts_ascii Http host port path authority low ascii =
    name_ascii (host ++ port_text port ++ path)
    (IsAscii-append (host ++ port_text port) path (IsAscii-append host (port_text port) (ascii_all host host_small authority.plain) (port_ascii port low)) ascii)
parts_ascii File host port path authority low ascii = name_ascii path ascii

parts_some : (scheme : Scheme) (host : List ℕ) (port : ℕ) (path : List ℕ) → 1 ≤ length path → 1 ≤ length (name_of_parts scheme host port path)
unfolding name_of_parts
parts_some Http host port path some = name_some (host ++ port_text port ++ path) (omega (arith, some, length-append (host ++ port_text port) path))
parts_some File host port path some = name_some path some

pub list_name_ascii : (uri : Uri) → IsSound uri → IsAscii (list_name uri)
list_name_ascii uri sound = parts_ascii uri.scheme uri.host uri.port uri.path sound.authority sound.port (ascii_all uri.path uri_small sound.path)

pub list_name_some : (uri : Uri) → IsSound uri → 1 ≤ length (list_name uri)
list_name_some uri sound = parts_some uri.scheme uri.host uri.port uri.path (rooted_some uri.path sound.rooted)

pub list_name_fits : (uri : Uri) → IsSound uri → length (list_name uri) ≤ 240 → IsName (list_name uri)
list_name_fits uri sound short = record {
  text = IsUtf8-from_ascii (list_name uri) (list_name_ascii uri sound);
  nonempty = list_name_some uri sound;
  short = omega (arith, short);
}

-- the names of a planned source
named : (name : List ℕ) (uri : Uri) → IsSound uri → name ≡ list_name uri → length name ≤ 240 → IsName name
named name uri sound is short = subst IsName (sym is) (list_name_fits uri sound (omega (arith, short, ap length is)))

pub release_fits : (source : Source) → IsPlanned source → IsName source.release_name.0
release_fits source planned = named source.release_name.0 source.release planned.sound.release planned.sound.named (planned.short 0 [] (omega arith))

pub targets_fit : (source : Source) → IsPlanned source → All (λ target. IsName target.name.0) source.targets
targets_fit source planned i d below =
    let target : Target = get_or source.targets i d in
    let sound : IsSoundTarget target = planned.sound.targets i d below in
    let name : get_or (map (λ target. target.name.0) source.targets) i [] ≡ target.name.0 = get_or-map (λ (t : Target). t.name.0) source.targets i d [] below in
    let within : length (get_or (map (λ target. target.name.0) source.targets) i []) ≤ 240 = All-tail (λ name. length name ≤ 240) source.release_name.0 (map (λ target. target.name.0) source.targets) planned.short i [] (omega (arith, below, length-map source.targets (λ (t : Target). t.name.0))) in
    named target.name.0 target.uri sound.uri sound.named (omega (arith, within, ap length name))

pub names_fit : (source : Source) → IsPlanned source → All IsName (names_of source)
names_fit source planned =
    All-cons IsName source.release_name.0 (map (λ target. target.name.0) source.targets) (release_fits source planned) (All-map IsName (λ (t : Target). t.name.0) source.targets (targets_fit source planned))
