-- Fields looked up by name.
use Rattle.std.proofs.Common.{◌≡◌, ℕ, suc, length, arith, true, false, cond, nat_eq, List, [], ◌∷◌, ◌||◌, map, is_some, Option, Some, None, option_copied, Bor, refl, sym}
use Rattle.std.specs.Str.{str_eq_ignore_ascii_case}
use Rattle.std.proofs.lemmas.Bool.{ne_eqb}
use Rattle.deb822_text.specs.declared.paragraph.Field.{Field}
use Rattle.deb822_text.specs.Control.{is_empty, has_name, field_named}

-- a look-up finds a field where one has the name
pub is_some-field_named : (fields : List Field) (name : List ℕ) → is_some (field_named fields name) ≡ has_name (map (λ field. field.name) fields) name
is_some-field_named [] name = refl
is_some-field_named (field ∷ fields) name = elim (str_eq_ignore_ascii_case field.name name) as (λ b. is_some (cond b (Some field) (field_named fields name)) ≡ (b || has_name (map (λ field. field.name) fields) name)) [
  | true ↦ refl
  | false ↦ is_some-field_named fields name
]

pub is_empty-length : {X : Type 0} (xs : List X) → is_empty xs ≡ nat_eq (length xs) 0
is_empty-length [] = refl
is_empty-length (x ∷ xs) = sym (ne_eqb (suc (length xs)) 0 (λ e. omega arith))

pub is_some-copied : {X : Type 0} (o : Option (Bor X)) → is_some (option_copied o) ≡ is_some o
is_some-copied None = refl
is_some-copied (Some x) = refl

pub ruleset emptiness = (is_empty-length, is_some-copied)

pub ruleset naming = (is_some-field_named)
