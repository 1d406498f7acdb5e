-- No field of a head is refused exactly where its change is allowed.
use Rattle.std.proofs.Common.{◌≡◌, ◌≢◌, ◌||◌, Bool, true, false, not, Option, Some, None, refl, ap, ◌∙◌, subst, inl, inr, if◌then◌else◌}
use Rattle.std.proofs.lemmas.Bool.{cases_Bool}
use Rattle.release_file.specs.Changes.{text_in, is_on, same_text, may_follow, first_refused, IsAllowed}
use Rattle.release_file.specs.declared.changing.Change.{Change}
use Rattle.release_file.specs.declared.changing.HeadField.{HeadField}
use Rattle.release_file.specs.declared.changing.HeadField.TheVariants.{Origin, Label, Suite, Codename}
use Rattle.release_file.specs.declared.release.Head.{Head}
use Rattle.release_file.proofs.Changes.{same_text-refl, followed}

follows : (change : Change) (old new : Head) (field : HeadField) → IsAllowed change old new → may_follow change old new field ≡ true
follows change old new field allowed = look (is_on change field) refl
  where
    look : (on : Bool) → is_on change field ≡ on → may_follow change old new field ≡ true
    look true e = ap (λ b. b || same_text (text_in field old) (text_in field new)) e
    look false e =
        elim (cases_Bool (same_text (text_in field old) (text_in field new))) [
          | inl same ↦ ap (λ b. b || same_text (text_in field old) (text_in field new)) e ∙ same
          | inr other ↦
              let differs : text_in field old ≢ text_in field new =
              λ s. let t : same_text (text_in field old) (text_in field new) ≡ true = subst (λ x. same_text (text_in field old) x ≡ true) s (same_text-refl (text_in field old)) in absurd (cc) in
              absurd (let on = allowed field differs in cc)
        ]

-- a test that was passed
passed : (test : Bool) (field : HeadField) (rest : Option HeadField) → (if not test then Some field else rest) ≡ None → (test ≡ true) × (rest ≡ None)
passed true field rest h = (refl, h)
passed false field rest h = cc

pub none-allowed : (change : Change) (old new : Head) → first_refused change old new ≡ None → IsAllowed change old new
unfolding first_refused
none-allowed change old new h =
    let a = passed (may_follow change old new Origin) Origin _ h in
    let b = passed (may_follow change old new Label) Label _ a.1 in
    let c = passed (may_follow change old new Suite) Suite _ b.1 in
    let d = passed (may_follow change old new Codename) Codename None c.1 in
    λ field. at a.0 b.0 c.0 d.0 field
  where
    at : may_follow change old new Origin ≡ true → may_follow change old new Label ≡ true → may_follow change old new Suite ≡ true → may_follow change old new Codename ≡ true
        → (field : HeadField) → text_in field old ≢ text_in field new → is_on change field ≡ true
    at a b c d Origin differs = followed change old new Origin a differs
    at a b c d Label differs = followed change old new Label b differs
    at a b c d Suite differs = followed change old new Suite c differs
    at a b c d Codename differs = followed change old new Codename d differs

pub allowed-none : (change : Change) (old new : Head) → IsAllowed change old new → first_refused change old new ≡ None
unfolding first_refused
allowed-none change old new allowed =
    rw (follows change old new Origin allowed)
    (rw (follows change old new Label allowed) (rw (follows change old new Suite allowed) (rw (follows change old new Codename allowed) refl)))
