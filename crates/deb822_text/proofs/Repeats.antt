-- Names compared in order.
use Rattle.std.proofs.Common.{◌≡◌, ℕ, ◌+◌, ◌<◌, length, take, drop, slice_index_or, List, [], ◌∷◌, ◌++◌, Option, Some, None, refl, sym, ap, ◌∙◌, arith}
use Rattle.std.proofs.lemmas.List.{take-append-drop, drop_more}
use Rattle.deb822_text.specs.declared.paragraph.Field.{Field}
use Rattle.deb822_text.specs.declared.error.TextError.{TextError}
use Rattle.deb822_text.specs.Control.{or_else}
use Rattle.deb822_text.specs.Names.{names_of, name_fault, repeated_behind, repeated, lesser}
use Rattle.deb822_text.proofs.Steps.{behind-append}

lesser-none : (a : Option ℕ) → lesser a None ≡ a
lesser-none None = refl
lesser-none (Some a) = refl

pub lesser-assoc : (a b c : Option ℕ) → lesser (lesser a b) c ≡ lesser a (lesser b c)
lesser-assoc None b c = refl
lesser-assoc (Some a) None c = refl
lesser-assoc (Some a) (Some b) None = lesser-none (lesser (Some a) (Some b))
lesser-assoc (Some a) (Some b) (Some c) = grind arith

or_else-some : (a : Option TextError) (fault : TextError) (b : Option TextError) → a ≡ Some fault → or_else a b ≡ Some fault
or_else-some a fault b e = ap (λ (o : Option TextError). or_else o b) e

-- the names before a place are all different, and the one there isn't
pub repeated-at : (fields : List Field) (place : ℕ) (d field : Field) (fault : TextError) → place < length fields → field ≡ slice_index_or fields place d → repeated (take place fields) ≡ None
    → name_fault (names_of (take place fields)) field ≡ Some fault → repeated fields ≡ Some fault
unfolding repeated
repeated-at fields place d field fault within at before faulty =
    let split : fields ≡ take place fields ++ field ∷ drop (place + 1) fields =
    sym (take-append-drop place fields) ∙ ap (λ (rest : List Field). take place fields ++ rest) (drop_more fields place d within ∙ ap (λ (f : Field). f ∷ drop (place + 1) fields) (sym at)) in
    ap repeated split ∙ behind-append [] (take place fields) (field ∷ drop (place + 1) fields)
    ∙ ap (λ (o : Option TextError). or_else o (repeated_behind (names_of (take place fields)) (field ∷ drop (place + 1) fields))) before
    ∙ or_else-some (name_fault (names_of (take place fields)) field) fault (repeated_behind (names_of (take place fields) ++ field.name ∷ []) (drop (place + 1) fields)) faulty
