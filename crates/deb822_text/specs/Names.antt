-- The names of a paragraph's fields, no two of which may be one (Debian Policy, section 5.1).
use Rattle.std.specs.Prelude.{◌≡◌, ◌⊎◌, ℕ, ◌+◌, ◌*◌, ◌%◌, ◌^◌, ◌==◌, nat_le, nat_lt, ◌&&◌, Bool, if◌then◌else◌, List, [], ◌∷◌, ◌++◌, map, Option, Some, None, Result, Ok, Err}
use Rattle.std.specs.List.{fold}
use Rattle.std.specs.Ordering.{nat_cmp, ordering_then}
use Rattle.std.specs.declared.cmp.Ordering.{Ordering}
use Rattle.std.specs.Cmp.Lexicographic.{slice_cmp}
use Rattle.std.specs.Str.{bytes_eq, str_to_ascii_lowercase}
use Rattle.deb822_text.specs.declared.paragraph.Field.{Field}
use Rattle.deb822_text.specs.declared.repeated.Key.{Key}
use Rattle.deb822_text.specs.declared.error.TextError.{TextError}
use Rattle.deb822_text.specs.declared.error.TextError.TheVariants.{Twice, NoMemory}
use Rattle.deb822_text.specs.Control.{has_name, or_else}

abbrev pub names_of : List Field → List (List ℕ)
names_of fields = map (λ field. field.name) fields

-- a field behind others of these names has one of them
abbrev pub name_fault : List (List ℕ) → Field → Option TextError
name_fault names field = if has_name names field.name then Some (Twice field.at) else None

-- the first field whose name one of these, or an earlier field, has
abbrev pub repeated_behind : List (List ℕ) → List Field → Option TextError
repeated_behind names [] = None
repeated_behind names (field ∷ fields) = or_else (name_fault names field) (repeated_behind (names ++ field.name ∷ []) fields)

-- the first field whose name an earlier one has
unfoldable pub repeated : List Field → Option TextError
repeated fields = repeated_behind [] fields

-- the answer is this fault, or none where there is none
abbrev pub AnswersFault : {X : Type 0} → Option TextError → Result X TextError → Type 0
AnswersFault fault (Ok done) = fault ≡ None
AnswersFault fault (Err given) = (given ≡ NoMemory) ⊎ (fault ≡ Some given)

-- ---- names by their digests

-- a number of 64 bits for a text, one byte on
abbrev pub next_digest : ℕ → ℕ → ℕ
next_digest digest c = (digest * 1_099_511_628_211 % 2 ^ 64 + c) % 2 ^ 64

-- of a name in lower case
unfoldable pub digest_of : List ℕ → ℕ
digest_of lower = fold next_digest 0 lower

-- each field's digest and name, in lower case, and its place from a first one on
abbrev pub keys_from : ℕ → List Field → List Key
keys_from place [] = []
keys_from place (field ∷ fields) =
    let lower = str_to_ascii_lowercase field.name in
    record { digest = digest_of lower; name = lower; place = place } ∷ keys_from (place + 1) fields

abbrev pub keys_of : List Field → List Key
keys_of fields = keys_from 0 fields

-- by digest, then by name, and then by place
abbrev pub key_cmp : Key → Key → Ordering
key_cmp a b = ordering_then (nat_cmp a.digest b.digest) (ordering_then (slice_cmp nat_cmp a.name b.name) (nat_cmp a.place b.place))

-- the next key is of a later field of the same name
abbrev pub is_repeated : Key → Key → Bool
is_repeated key next = key.digest == next.digest && (bytes_eq key.name next.name && nat_lt key.place next.place)

abbrev pub lesser : Option ℕ → Option ℕ → Option ℕ
lesser None other = other
lesser (Some a) None = Some a
lesser (Some a) (Some b) = if nat_le a b then Some a else Some b

-- the place of the second key, if it is of a later field of the same name than the first
abbrev pub next_place : List Key → Option ℕ
next_place [] = None
next_place (key ∷ []) = None
next_place (key ∷ next ∷ more) = if is_repeated key next then Some next.place else None

-- the least place of a key behind that of an earlier field of the same name
abbrev pub least_place : List Key → Option ℕ
least_place [] = None
least_place (key ∷ keys) = lesser (next_place (key ∷ keys)) (least_place keys)
