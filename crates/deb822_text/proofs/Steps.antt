-- What one step does to the fields of the open paragraph, and to the fault that its names owe.
use Rattle.std.proofs.Common.{◌≡◌, ℕ, false, List, [], ◌∷◌, ◌++◌, Option, Some, None, refl, sym, ap, ◌∙◌, append_assoc}
use Rattle.std.proofs.lemmas.List.{map_push, append-nil}
use Rattle.deb822_text.specs.declared.paragraph.Field.{Field}
use Rattle.deb822_text.specs.declared.error.TextError.{TextError}
use Rattle.deb822_text.specs.Control.{is_empty, or_else}
use Rattle.deb822_text.specs.Names.{names_of, name_fault, repeated_behind, repeated}
use Rattle.deb822_text.specs.Scan.{add_line}

pub is_empty-push : {X : Type 0} (xs : List X) (x : X) → is_empty (xs ++ x ∷ []) ≡ false
is_empty-push [] x = refl
is_empty-push (y ∷ ys) x = refl

pub add_line-push : (fields : List Field) (field : Field) (text : List ℕ) → add_line (fields ++ field ∷ []) text ≡ fields ++ record field { lines = field.lines ++ text ∷ [] } ∷ []
add_line-push [] field text = refl
add_line-push (f ∷ []) field text = refl
add_line-push (f ∷ g ∷ more) field text = ap (λ (fields : List Field). f ∷ fields) (add_line-push (g ∷ more) field text)

pub names_of-push : (fields : List Field) (field : Field) → names_of (fields ++ field ∷ []) ≡ names_of fields ++ field.name ∷ []
names_of-push fields field = map_push (λ (f : Field). f.name) fields field

pub or_else-none : (fault : Option TextError) → or_else fault None ≡ fault
or_else-none None = refl
or_else-none (Some fault) = refl

or_else-assoc : (a b c : Option TextError) → or_else (or_else a b) c ≡ or_else a (or_else b c)
or_else-assoc None b c = refl
or_else-assoc (Some fault) b c = refl

-- ---- the first repeated name, further fields on

pub behind-append : (names : List (List ℕ)) (fields more : List Field) → repeated_behind names (fields ++ more) ≡ or_else (repeated_behind names fields) (repeated_behind (names ++ names_of fields) more)
behind-append names [] more = λ i. repeated_behind (sym (append-nil names) i) more
behind-append names (first ∷ fields) more =
    (λ i. or_else (name_fault names first) (behind-append (names ++ first.name ∷ []) fields more i))
    ∙ (λ i. or_else (name_fault names first) (or_else (repeated_behind (names ++ first.name ∷ []) fields) (repeated_behind (append_assoc names (first.name ∷ []) (names_of fields) i) more)))
    ∙ sym (or_else-assoc (name_fault names first) (repeated_behind (names ++ first.name ∷ []) fields) (repeated_behind (names ++ first.name ∷ names_of fields) more))

pub repeated-none : repeated [] ≡ None
unfolding repeated
repeated-none = refl

pub repeated-push : (fields : List Field) (field : Field) → repeated (fields ++ field ∷ []) ≡ or_else (repeated fields) (name_fault (names_of fields) field)
unfolding repeated
repeated-push fields field = behind-append [] fields (field ∷ []) ∙ ap (or_else (repeated_behind [] fields)) (or_else-none (name_fault (names_of fields) field))

-- a line more changes no name
pub repeated-longer : (fields : List Field) (field : Field) (text : List ℕ) → repeated (fields ++ record field { lines = field.lines ++ text ∷ [] } ∷ []) ≡ repeated (fields ++ field ∷ [])
repeated-longer fields field text = repeated-push fields (record field { lines = field.lines ++ text ∷ [] }) ∙ sym (repeated-push fields field)

pub ruleset steps = (is_empty-push, add_line-push, names_of-push, or_else-none, repeated-none, repeated-push, repeated-longer)
