-- Names are different where none is repeated, and the other way round.
use Rattle.std.proofs.Common.{◌≡◌, ◌≢◌, ◌⊎◌, inl, inr, Bool, true, false, ◌||◌, ◌&&◌, not, cond, List, [], ◌∷◌, ◌++◌, ℕ, is_some, Option, Some, None, Result, Ok, Err, IfOk, refl, sym, ap, subst, ◌∙◌}
use Rattle.std.specs.List.{list_any}
use Rattle.std.specs.Str.{str_eq_ignore_ascii_case, str_to_ascii_lowercase, bytes_eq}
use Rattle.std.specs.Cmp.Lexicographic.{bytes_decides}
use Rattle.std.proofs.lemmas.Bool.{or_from, or_left, false≢true, false_from_ne_true, not-true, and_parts}
use Rattle.std.proofs.lemmas.List.Folds.{list_any-append}
use Rattle.acq_base.specs.declared.memory.NoMemory.{NoMemory as OutOfMemory}
use Rattle.deb822_text.specs.declared.paragraph.Field.{Field}
use Rattle.deb822_text.specs.declared.error.TextError.{TextError}
use Rattle.deb822_text.specs.declared.error.TextError.TheVariants.{Twice, NoMemory}
use Rattle.deb822_text.specs.Control.{has_name, or_else, field_named}
use Rattle.deb822_text.specs.Names.{repeated_behind, repeated}
use Rattle.deb822_text.specs.Written.{are_distinct}

-- none of the fields has one of the names
abbrev pub AreFresh : List (List ℕ) → List Field → Type 0
AreFresh names [] = Unit {0}
AreFresh names (field ∷ fields) = (has_name names field.name ≡ false) × AreFresh names fields

pub fresh_none : (fields : List Field) → AreFresh [] fields
fresh_none [] = tt
fresh_none (field ∷ fields) = (refl, fresh_none fields)

other_way : (a b : List ℕ) → bytes_eq a b ≡ false → bytes_eq b a ≡ false
other_way a b e = false_from_ne_true (bytes_eq b a) (λ same. false≢true (sym e ∙ (bytes_decides a b).1 (sym ((bytes_decides b a).0 same))))

unfound : (b : Bool) (field : Field) (found : Option Field) → is_some (cond b (Some field) found) ≡ false → (b ≡ false) × (is_some found ≡ false)
unfound true field found e = absurd cc
unfound false field found e = (refl, e)

pub fresh_push : (names : List (List ℕ)) (name : List ℕ) (fields : List Field) → AreFresh names fields → is_some (field_named fields name) ≡ false → AreFresh (names ++ name ∷ []) fields
fresh_push names name [] fresh none = tt
fresh_push names name (field ∷ fields) fresh none =
    let parts = unfound (str_eq_ignore_ascii_case field.name name) field (field_named fields name) none in
    let apart : str_eq_ignore_ascii_case name field.name ≡ false = other_way (str_to_ascii_lowercase field.name) (str_to_ascii_lowercase name) parts.0 in (
      list_any-append (λ other. str_eq_ignore_ascii_case other field.name) names (name ∷ []) ∙ or_from (has_name names field.name) (str_eq_ignore_ascii_case name field.name || false) fresh.0 (or_from (str_eq_ignore_ascii_case name field.name) false apart refl),
      fresh_push names name fields fresh.1 parts.1,
    )

-- ---- different names are not repeated

behind_distinct : (names : List (List ℕ)) (fields : List Field) → AreFresh names fields → are_distinct fields ≡ true → repeated_behind names fields ≡ None
behind_distinct names [] fresh distinct = refl
behind_distinct names (field ∷ fields) fresh distinct =
    let apart = and_parts (not (is_some (field_named fields field.name))) (are_distinct fields) distinct in
    ap (λ (b : Bool). or_else (cond b (Some (Twice field.at)) None) (repeated_behind (names ++ field.name ∷ []) fields)) fresh.0
    ∙ behind_distinct (names ++ field.name ∷ []) fields (fresh_push names field.name fields fresh.1 (not-true (is_some (field_named fields field.name)) apart.0)) apart.1

-- ---- and back

unfaulty : (b : Bool) (fault : TextError) (behind : Option TextError) → or_else (cond b (Some fault) None) behind ≡ None → (b ≡ false) × (behind ≡ None)
unfaulty true fault behind e = absurd cc
unfaulty false fault behind e = (refl, e)

-- the names have every spelling of a name that they have
has_same : (names : List (List ℕ)) (name other : List ℕ) → str_eq_ignore_ascii_case other name ≡ true → has_name names name ≡ true → has_name names other ≡ true
has_same names name other same has = subst (λ (lower : List ℕ). list_any (λ n. bytes_eq (str_to_ascii_lowercase n) lower) names ≡ true) (sym ((bytes_decides (str_to_ascii_lowercase other) (str_to_ascii_lowercase name)).0 same)) has

-- a name that the names have is that of no field behind them
absent : (names : List (List ℕ)) (fields : List Field) (name : List ℕ) → has_name names name ≡ true → repeated_behind names fields ≡ None → is_some (field_named fields name) ≡ false
absent names [] name has none = refl
absent names (field ∷ fields) name has none =
    let parts = unfaulty (has_name names field.name) (Twice field.at) (repeated_behind (names ++ field.name ∷ []) fields) none in
    let apart : str_eq_ignore_ascii_case field.name name ≡ false = false_from_ne_true (str_eq_ignore_ascii_case field.name name) (λ same. false≢true (sym parts.0 ∙ has_same names name field.name same has)) in
    let longer : has_name (names ++ field.name ∷ []) name ≡ true = list_any-append (λ other. str_eq_ignore_ascii_case other name) names (field.name ∷ []) ∙ or_left (has_name names name) _ has in
    ap (λ (b : Bool). is_some (cond b (Some field) (field_named fields name))) apart ∙ absent (names ++ field.name ∷ []) fields name longer parts.1

own_name : (names : List (List ℕ)) (name : List ℕ) → has_name (names ++ name ∷ []) name ≡ true
own_name [] name = or_left (str_eq_ignore_ascii_case name name) false ((bytes_decides (str_to_ascii_lowercase name) (str_to_ascii_lowercase name)).1 refl)
own_name (other ∷ names) name = elim (str_eq_ignore_ascii_case other name) as (λ b. (b || has_name (names ++ name ∷ []) name) ≡ true) [ true ↦ refl | false ↦ own_name names name ]

distinct_behind : (names : List (List ℕ)) (fields : List Field) → repeated_behind names fields ≡ None → are_distinct fields ≡ true
distinct_behind names [] none = refl
distinct_behind names (field ∷ fields) none =
    let parts = unfaulty (has_name names field.name) (Twice field.at) (repeated_behind (names ++ field.name ∷ []) fields) none in
    let alone = absent (names ++ field.name ∷ []) fields field.name (own_name names field.name) parts.1 in
    ap (λ (b : Bool). not b && are_distinct fields) alone ∙ distinct_behind (names ++ field.name ∷ []) fields parts.1

-- ---- what the comparing of names tells

pub distinct_if_none : (fields : List Field) → repeated fields ≡ None → are_distinct fields ≡ true
unfolding repeated
distinct_if_none fields none = distinct_behind [] fields none

repeated_if_some : (fields : List Field) (fault : TextError) → repeated fields ≡ Some fault → are_distinct fields ≡ false
unfolding repeated
repeated_if_some fields fault some = false_from_ne_true (are_distinct fields) (λ distinct. absurd (let none = behind_distinct [] fields (fresh_none fields) distinct in cc))

pub not_distinct : (fields : List Field) (fault : TextError) (answer : Result Bool OutOfMemory) → IfOk answer (λ different. (different ≡ false) × (fault ≢ NoMemory)) → (fault ≡ NoMemory) ⊎ (repeated fields ≡ Some fault)
    → IfOk answer (λ different. different ≡ are_distinct fields)
not_distinct fields fault (Ok different) told (inl e) = absurd (told.1 e)
not_distinct fields fault (Ok different) told (inr e) = told.0 ∙ sym (repeated_if_some fields fault e)
not_distinct fields fault (Err error) told e = tt
