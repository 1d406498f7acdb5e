-- Which heads are allowed, and which field is the first that isn't.
use Rattle.std.proofs.Common.{◌≡◌, ◌≢◌, ◌↔◌, ◌∙◌, ℕ, ◌<◌, Bool, true, false, not, cond, ◌||◌, ◌&&◌, List, Option, Some, None, IfSome, IsNone, IsTrue, is_none, is_some, refl, sym, ap, subst, inl, inr, arith}
use Rattle.std.specs.Cmp.Lexicographic.{bytes_decides}
use Rattle.std.proofs.lemmas.Bool.{cases_Bool, false≢true, not-true, or_parts}
use Rattle.release_file.specs.Changes.{text_in, is_on, same_text, may_follow, allowed, first_refused, IsAllowed, place_of, IsFirstRefused}
use Rattle.release_file.specs.declared.changing.Change.{Change}
use Rattle.release_file.specs.declared.changing.HeadField.{HeadField}
use Rattle.release_file.specs.declared.changing.HeadField.TheVariants.{Origin, Label, Suite, Codename}
use Rattle.release_file.specs.declared.release.Head.{Head}

pub same_text-refl : (text : Option (List ℕ)) → same_text text text ≡ true
same_text-refl None = refl
same_text-refl (Some text) = (bytes_decides text text).1 refl

pub same_text-true : (a b : Option (List ℕ)) → same_text a b ≡ true → a ≡ b
same_text-true None None h = refl
same_text-true None (Some b) h = absurd (false≢true h)
same_text-true (Some a) None h = absurd (false≢true h)
same_text-true (Some a) (Some b) h = ap (λ t. Some t) ((bytes_decides a b).0 h)

-- a field that may follow is switched on where it differs
follows : (on : Bool) (a b : Option (List ℕ)) → (on || same_text a b) ≡ true → a ≢ b → on ≡ true
follows true a b h differs = refl
follows false a b h differs = absurd (differs (same_text-true a b h))

may : (on : Bool) (a b : Option (List ℕ)) → (a ≢ b → on ≡ true) → (on || same_text a b) ≡ true
may true a b h = refl
may false a b h =
    elim (cases_Bool (same_text a b)) [
      | inl is ↦ is
      | inr isnt ↦ absurd (false≢true (h (λ same. false≢true (sym isnt ∙ ap (same_text a) (sym same) ∙ same_text-refl a))))
    ]

-- a field that may not
differs_off : (on : Bool) (a b : Option (List ℕ)) → (on || same_text a b) ≡ false → (a ≢ b) × (on ≡ false)
differs_off on a b h =
    let parts = or_parts on (same_text a b) h in
    ((λ same. false≢true (sym parts.1 ∙ ap (same_text a) (sym same) ∙ same_text-refl a)), parts.0)

-- ---- the four fields

-- what is known of each field once the first that may not follow is looked for
abbrev Explains : Change → Head → Head → Option HeadField → Type 0
Explains change old new None = IsAllowed change old new
Explains change old new (Some field) = IsFirstRefused change old new field

pub followed : (change : Change) (old new : Head) (field : HeadField) → may_follow change old new field ≡ true → text_in field old ≢ text_in field new → is_on change field ≡ true
followed change old new field h = follows (is_on change field) (text_in field old) (text_in field new) h

-- the fields before a place may follow
abbrev Fine : Change → Head → Head → ℕ → Type 0
Fine change old new place = (other : HeadField) → place_of other < place → may_follow change old new other ≡ true

abbrev May : Change → Head → Head → HeadField → Type 0
May change old new field = may_follow change old new field ≡ true

fine_origin : (change : Change) (old new : Head) → Fine change old new 0
fine_origin change old new other less = absurd (omega (arith, less))

fine_label : (change : Change) (old new : Head) → May change old new Origin → Fine change old new 1
fine_label change old new origin Origin less = origin
fine_label change old new origin Label less = absurd (omega (arith, less))
fine_label change old new origin Suite less = absurd (omega (arith, less))
fine_label change old new origin Codename less = absurd (omega (arith, less))

fine_suite : (change : Change) (old new : Head) → May change old new Origin → May change old new Label → Fine change old new 2
fine_suite change old new origin label Origin less = origin
fine_suite change old new origin label Label less = label
fine_suite change old new origin label Suite less = absurd (omega (arith, less))
fine_suite change old new origin label Codename less = absurd (omega (arith, less))

fine_codename : (change : Change) (old new : Head) → May change old new Origin → May change old new Label → May change old new Suite → Fine change old new 3
fine_codename change old new origin label suite Origin less = origin
fine_codename change old new origin label suite Label less = label
fine_codename change old new origin label suite Suite less = suite
fine_codename change old new origin label suite Codename less = absurd (omega (arith, less))

all_fine : (change : Change) (old new : Head) → May change old new Origin → May change old new Label → May change old new Suite → May change old new Codename → IsAllowed change old new
all_fine change old new origin label suite codename Origin = followed change old new Origin origin
all_fine change old new origin label suite codename Label = followed change old new Label label
all_fine change old new origin label suite codename Suite = followed change old new Suite suite
all_fine change old new origin label suite codename Codename = followed change old new Codename codename

first : (change : Change) (old new : Head) (field : HeadField) → may_follow change old new field ≡ false → Fine change old new (place_of field) → IsFirstRefused change old new field
first change old new field bad before =
    let off = differs_off (is_on change field) (text_in field old) (text_in field new) bad in
    record { differs = off.0; off = off.1; before = λ other less. followed change old new other (before other less) }

explained : (change : Change) (old new : Head) → Explains change old new (first_refused change old new)
unfolding first_refused
explained change old new =
    elim (cases_Bool (may_follow change old new Origin)) [
      | inr origin ↦ rw origin (first change old new Origin origin (fine_origin change old new))
      | inl origin ↦ elim (cases_Bool (may_follow change old new Label)) [
        | inr label ↦ rw (origin, label) (first change old new Label label (fine_label change old new origin))
        | inl label ↦ elim (cases_Bool (may_follow change old new Suite)) [
          | inr suite ↦ rw (origin, label, suite) (first change old new Suite suite (fine_suite change old new origin label))
          | inl suite ↦ elim (cases_Bool (may_follow change old new Codename)) [
            | inr codename ↦ rw (origin, label, suite, codename) (first change old new Codename codename (fine_codename change old new origin label suite))
            | inl codename ↦ rw (origin, label, suite, codename) (all_fine change old new origin label suite codename)
          ]
        ]
      ]
    ]

never_both : (change : Change) (old new : Head) (field : HeadField) → IsFirstRefused change old new field → IsAllowed change old new → ⊥
never_both change old new field h allowed = false≢true (sym h.off ∙ allowed field h.differs)

none_of : (change : Change) (old new : Head) (result : Option HeadField) → Explains change old new result → IsNone result ↔ IsAllowed change old new
none_of change old new None h = ((λ none. h), (λ allowed. refl))
none_of change old new (Some field) h = ((λ none. absurd (cc)), (λ allowed. absurd (never_both change old new field h allowed)))

pub refused-none : (change : Change) (old new : Head) (result : Option HeadField) → result ≡ first_refused change old new → IsNone result ↔ IsAllowed change old new
refused-none change old new result e = none_of change old new result (subst (Explains change old new) (sym e) (explained change old new))

pub refused-first : (change : Change) (old new : Head) (result : Option HeadField) → result ≡ first_refused change old new → IfSome result (IsFirstRefused change old new)
refused-first change old new result e = by result (subst (Explains change old new) (sym e) (explained change old new))
  where
    by : (result : Option HeadField) → Explains change old new result → IfSome result (IsFirstRefused change old new)
    by None h = tt
    by (Some field) h = h

-- ---- allowed is that none is refused

allowed_none : (change : Change) (old new : Head) → allowed change old new ≡ is_none (first_refused change old new)
unfolding allowed first_refused
allowed_none change old new = by (may_follow change old new Origin) (may_follow change old new Label) (may_follow change old new Suite) (may_follow change old new Codename)
  where
    by : (a b c d : Bool) → (a && (b && (c && (d && true)))) ≡ is_none (cond (not a) (Some Origin) (cond (not b) (Some Label) (cond (not c) (Some Suite) (cond (not d) (Some Codename) None))))
    by false b c d = refl
    by true false c d = refl
    by true true false d = refl
    by true true true false = refl
    by true true true true = refl

pub allowed-value : (change : Change) (old new : Head) (result : Option HeadField) (answer : Bool) → result ≡ first_refused change old new → answer ≡ is_none result → answer ≡ allowed change old new
allowed-value change old new result answer e is = is ∙ ap is_none e ∙ sym (allowed_none change old new)

pub allowed-each : (change : Change) (old new : Head) (result : Option HeadField) (answer : Bool) → result ≡ first_refused change old new → answer ≡ is_none result → IsTrue answer ↔ IsAllowed change old new
allowed-each change old new result answer e is =
    let none = refused-none change old new result e in
    ((λ yes. none.0 (not-true (is_some result) (sym is ∙ yes))), (λ fine. is ∙ ap not (none.1 fine)))

pub ruleset changes = (refused-none, refused-first, allowed-value, allowed-each)
