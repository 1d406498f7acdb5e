-- Two sound URIs with one list name are one URI.
use Rattle.std.proofs.Common.{◌≡◌, ◌≢◌, ℕ, ◌+◌, ◌^◌, ◌<◌, ◌≤◌, ◌⊎◌, inl, inr, ◌==◌, List, [], ◌∷◌, ◌++◌, length, drop, All, Contains, Some, codes, flat_map, decimal, refl, sym, ap, ◌∙◌, subst, append_assoc, append-nil, length-append, lit<, drop_at, arith}
use Rattle.std.specs.List.{slice_get}
use Rattle.std.specs.Int.{IsInRange}
use Rattle.std.proofs.lemmas.Bool.{cases_eq, cond-true, cond-false, eq-eqb, ne_eqb, eqb-false}
use Rattle.std.proofs.lemmas.List.Concat.{flat_map-append}
use Rattle.std.proofs.lemmas.List.Elements.{All-nil, All-cons, All-head, All-tail, All-append, All-weaker, All-contains}
use Rattle.std.proofs.lemmas.Option.{same_Some, get_or_from_slice_get}
use Rattle.std.proofs.lemmas.Fmt.{decimal_injective}
use Rattle.url.specs.Input.{rsplit_once}
use Rattle.url.proofs.InputLemmas.{rsplit_once_at}
use Rattle.url.proofs.HostRoundTrip.{All-decimal}
use Rattle.acq_base.specs.declared.uri.Uri.{Uri}
use Rattle.acq_base.specs.declared.uri.Scheme.{Scheme}
use Rattle.acq_base.specs.declared.uri.Scheme.TheVariants.{Http, File}
use Rattle.acq_base.specs.Uri.{port_text, text_of_parts, uri_text, IsHostCharacter, IsHttpHost, IsAuthority, IsSound, name_byte, name_of_parts, list_name}
use Rattle.acq_base.proofs.Uris.{length-name}
use Rattle.uri_names.proofs.BelowSound.{IsRooted, root}
use Rattle.uri_names.proofs.ListNames.{escaped_injective}

abbrev NoSlash : ℕ → Type 0
NoSlash c = c ≢ 47

-- ---- where the path begins

first_split : (a b p q : List ℕ) → All NoSlash a → All NoSlash b → a ++ 47 ∷ p ≡ b ++ 47 ∷ q → (a ≡ b) × (p ≡ q)
first_split [] [] p q none other e = (refl, cc)
first_split [] (d ∷ b) p q none other e = absurd (All-head NoSlash d b other (sym (let h : 47 ≡ d = cc in h)))
first_split (c ∷ a) [] p q none other e = absurd (All-head NoSlash c a none (let h : c ≡ 47 = cc in h))
first_split (c ∷ a) (d ∷ b) p q none other e =
    let head : c ≡ d = cc in
    let tail : a ++ 47 ∷ p ≡ b ++ 47 ∷ q = cc in
    let parts = first_split a b p q (All-tail NoSlash c a none) (All-tail NoSlash d b other) tail in
    (ap (λ x. x ∷ a) head ∙ ap (λ l. d ∷ l) parts.0, parts.1)

-- ---- the port

-- no port, or a colon and its digits
record HasPort (port : ℕ) (text : List ℕ) : Type 0 where
  other : port ≢ 80
  is : text ≡ 58 ∷ decimal port

port_cases : (port : ℕ) → ((port ≡ 80) × (port_text port ≡ [])) ⊎ HasPort port (port_text port)
port_cases port =
    elim (cases_eq port 80) [
      | inl same ↦ inl (same, cond-true (port == 80) [] (58 ∷ decimal port) (eq-eqb port 80 same))
      | inr other ↦ inr (record { other = other; is = cond-false (port == 80) [] (58 ∷ decimal port) (ne_eqb port 80 other) })
    ]

digits_are : (port k : ℕ) → port < 2 ^ 16 → (k < 48) ⊎ (57 < k) → All (λ c. c ≢ k) (decimal port)
digits_are port k small out = All-weaker (IsInRange 48 57) (λ c. c ≢ k) (λ c digit e. grind arith) (decimal port) (All-decimal port (omega arith))

port_whole : (port : ℕ) → port < 2 ^ 16 → All NoSlash (port_text port)
port_whole port small =
    elim (port_cases port) [
      | inl none ↦ subst (All NoSlash) (sym none.1) (All-nil NoSlash)
      | inr some ↦ subst (All NoSlash) (sym some.is) (All-cons NoSlash 58 (decimal port) (λ e. eqb-false 58 47 refl e) (digits_are port 47 small (inl (lit< tt))))
    ]

last_colon : (a b d e : List ℕ) → All (λ c. c ≢ 58) d → All (λ c. c ≢ 58) e → a ++ 58 ∷ d ≡ b ++ 58 ∷ e → (a ≡ b) × (d ≡ e)
last_colon a b d e none other same =
    let cut = sym (rsplit_once_at 58 a d none) ∙ ap (rsplit_once 58) same ∙ rsplit_once_at 58 b e other in
    (let front : Some a ≡ Some b = ap (λ r. r.0) cut in same_Some a b front, ap (λ r. r.1) cut)

at_append : (a : List ℕ) (c : ℕ) (b : List ℕ) → slice_get (a ++ c ∷ b) (length a) ≡ Some c
at_append [] c b = refl
at_append (x ∷ a) c b = at_append a c b

-- a host never ends in a colon and digits
no_port_inside : (host front : List ℕ) (port : ℕ) → IsHttpHost host → port < 2 ^ 16 → host ≡ front ++ 58 ∷ decimal port → ⊥
no_port_inside host front port valid small e =
    let C : ℕ → Type 0 = λ c. c ≢ 93 in
    let found = ap (λ h. slice_get h (length front)) e ∙ at_append front 58 (decimal port) in
    let bracket = (valid.colons (length front) found).1 in
    let behind : drop (length front) host ≡ 58 ∷ decimal port = ap (drop (length front)) e ∙ drop_at front (58 ∷ decimal port) (length front) refl in
    All-contains C (58 ∷ decimal port) 93 (All-cons C 58 (decimal port) (λ same. eqb-false 58 93 refl same) (digits_are port 93 small (inr (lit< tt)))) (subst (λ l. Contains l 93) behind bracket) refl

same_authority : (h g : List ℕ) (p q : ℕ) → IsHttpHost h → IsHttpHost g → p < 2 ^ 16 → q < 2 ^ 16 → h ++ port_text p ≡ g ++ port_text q → (h ≡ g) × (p ≡ q)
same_authority h g p q left right small little e =
    elim (port_cases p) [
      | inl none ↦ elim (port_cases q) [
        | inl other ↦ (sym (append-nil h) ∙ ap (λ l. h ++ l) (sym none.1) ∙ e ∙ ap (λ l. g ++ l) other.1 ∙ append-nil g, none.0 ∙ sym other.0)
        | inr some ↦ absurd (no_port_inside h g q left little (sym (append-nil h) ∙ ap (λ l. h ++ l) (sym none.1) ∙ e ∙ ap (λ l. g ++ l) some.is))
      ]
      | inr some ↦ elim (port_cases q) [
        | inl other ↦ absurd (no_port_inside g h p right small (sym (append-nil g) ∙ ap (λ l. g ++ l) (sym other.1) ∙ sym e ∙ ap (λ l. h ++ l) some.is))
        | inr more ↦ (let parts = last_colon h g (decimal p) (decimal q) (digits_are p 58 small (inr (lit< tt))) (digits_are q 58 little (inr (lit< tt))) (ap (λ l. h ++ l) (sym some.is) ∙ e ∙ ap (λ l. g ++ l) more.is) in
            (parts.0, decimal_injective p q (omega arith) (omega arith) parts.1))
      ]
    ]

-- ---- whole names

record AreSame (s t : Scheme) (h g : List ℕ) (p q : ℕ) (x y : List ℕ) : Type 0 where
  scheme : s ≡ t
  host : h ≡ g
  port : p ≡ q
  path : x ≡ y

authority_whole : (host : List ℕ) (port : ℕ) → IsHttpHost host → port < 2 ^ 16 → All NoSlash (host ++ port_text port)
authority_whole host port valid small = All-append NoSlash host (port_text port) (All-weaker IsHostCharacter NoSlash (λ c plain. plain.0) host valid.plain) (port_whole port small)

same_http : (h g : List ℕ) (p q : ℕ) (x y : List ℕ) → IsHttpHost h → IsHttpHost g → p < 2 ^ 16 → q < 2 ^ 16 → IsRooted x → IsRooted y → h ++ port_text p ++ x ≡ g ++ port_text q ++ y → AreSame Http Http h g p q x y
same_http h g p q x y left right small little here there e =
    let cut = first_split (h ++ port_text p) (g ++ port_text q) here.rest there.rest (authority_whole h p left small) (authority_whole g q right little)
    (ap (λ l. (h ++ port_text p) ++ l) (sym here.is) ∙ e ∙ ap (λ l. (g ++ port_text q) ++ l) there.is) in
    let both = same_authority h g p q left right small little cut.0 in
    record { scheme = refl; host = both.0; port = both.1; path = here.is ∙ ap (λ l. 47 ∷ l) cut.1 ∙ sym there.is }

-- the first byte of an http name is that of a host, and of a file name's text a slash
differ : (h : List ℕ) (rest x : List ℕ) → IsHttpHost h → IsRooted x → h ++ rest ≡ x → ⊥
differ [] rest x valid there e = valid.nonempty refl
differ (c ∷ h) rest x valid there e = (All-head IsHostCharacter c h valid.plain).0 (let both : c ∷ (h ++ rest) ≡ 47 ∷ there.rest = e ∙ there.is in let head : c ≡ 47 = cc in head)

same_parts : (s t : Scheme) (h g : List ℕ) (p q : ℕ) (x y : List ℕ) → IsAuthority s h p → IsAuthority t g q → p < 2 ^ 16 → q < 2 ^ 16 → IsRooted x → IsRooted y → name_of_parts s h p x ≡ name_of_parts t g q y → AreSame s t h g p q x y
unfolding name_of_parts
same_parts Http Http h g p q x y left right small little here there e = same_http h g p q x y left right small little here there (escaped_injective _ _ e)
same_parts Http File h g p q x y left right small little here there e =
    absurd (differ h (port_text p ++ x) y left there (sym (append_assoc h (port_text p) x) ∙ escaped_injective (h ++ port_text p ++ x) y e))
same_parts File Http h g p q x y left right small little here there e =
    absurd (differ g (port_text q ++ y) x right here (sym (append_assoc g (port_text q) y) ∙ escaped_injective (g ++ port_text q ++ y) x (sym e)))
same_parts File File h g p q x y left right small little here there e =
    record { scheme = refl; host = left.0 ∙ sym right.0; port = left.1 ∙ sym right.1; path = escaped_injective x y e }

pub same_name : (a b : Uri) → IsSound a → IsSound b → list_name a ≡ list_name b → a ≡ b
same_name a b left right e =
    let same = same_parts a.scheme b.scheme a.host b.host a.port b.port a.path b.path left.authority right.authority left.port right.port (root a.path left.rooted) (root b.path right.rooted) e in
    λ i. record { scheme = same.scheme i; host = same.host i; port = same.port i; path = same.path i }

-- ---- a name's bytes

holds_mark : (a b : List ℕ) → Contains (a ++ 95 ∷ b) 95
holds_mark a b = (length a, simp length-append (omega arith), get_or_from_slice_get (a ++ 95 ∷ b) (length a) 95 95 (at_append a 95 b))

marked_parts : (scheme : Scheme) (host : List ℕ) (port : ℕ) (path : List ℕ) → IsRooted path → Contains (name_of_parts scheme host port path) 95
unfolding name_of_parts
marked_parts Http host port path here =
    let whole = ap (λ p. flat_map name_byte (host ++ port_text port ++ p)) here.is ∙ flat_map-append name_byte (host ++ port_text port) (47 ∷ here.rest) in
    subst (λ l. Contains l 95) (sym whole) (holds_mark (flat_map name_byte (host ++ port_text port)) (flat_map name_byte here.rest))
marked_parts File host port path here = subst (λ l. Contains l 95) (sym (ap (flat_map name_byte) here.is)) (holds_mark [] (flat_map name_byte here.rest))

-- so no list name is a name without `_`
pub marked : (uri : Uri) → IsSound uri → Contains (list_name uri) 95
marked uri sound = marked_parts uri.scheme uri.host uri.port uri.path (root uri.path sound.rooted)

long_parts : (scheme : Scheme) (host : List ℕ) (port : ℕ) (path : List ℕ) → length (text_of_parts scheme host port path) ≤ 7 + length (name_of_parts scheme host port path)
unfolding text_of_parts name_of_parts
long_parts Http host port path = omega (arith, length-name (host ++ port_text port ++ path), length-append (codes "http://") (host ++ port_text port ++ path))
long_parts File host port path = omega (arith, length-name path, length-append (codes "file://") path)

-- the text is at most seven bytes longer than the name
pub text_short : (uri : Uri) → length (uri_text uri) ≤ 7 + length (list_name uri)
text_short uri = long_parts uri.scheme uri.host uri.port uri.path
