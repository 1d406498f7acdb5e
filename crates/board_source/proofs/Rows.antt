-- What rows have under names, one more row at a time.
use Rattle.std.proofs.Common.{◌≡◌, ◌∙◌, ℕ, cond, List, [], ◌∷◌, length, Option, Some, refl, ap, arith}
use Rattle.std.specs.Prelude.{bytes_eq}
use Rattle.std.specs.Cmp.Lexicographic.{slice_cmp}
use Rattle.std.specs.Ordering.{nat_cmp, is_eq}
use Rattle.std.proofs.lemmas.Map.Text.{is_eq-slice_cmp}
use Rattle.acq_base.specs.declared.uri.ListName.{ListName}
use Rattle.board_model.specs.Keys.{named}

pub put-named : {A : Type 0} (behind : List (ListName × A)) (name : ListName) (value : A) (q : List ℕ) (now before : Option A)
    → now ≡ cond (is_eq (slice_cmp nat_cmp name.0 q)) (Some value) before → before ≡ named behind q → now ≡ named ((name, value) ∷ behind) q
put-named behind name value q now before e same =
    e ∙ ap (λ b. cond b (Some value) before) (is_eq-slice_cmp name.0 q) ∙ ap (λ (o : Option _). cond (bytes_eq name.0 q) (Some value) o) same

pub none-left : {A : Type 0} (xs : List A) → length xs ≡ 0 → xs ≡ []
none-left [] e = refl
none-left (x ∷ xs) e = absurd (omega (arith, e))
