-- The sums of steps by name, one more step at a time.
use Rattle.std.proofs.Common.{◌≡◌, ◌∙◌, ℕ, ◌+◌, ◌<◌, cond, List, [], ◌∷◌, ◌++◌, length, take, get_or, Option, Some, None, refl, sym, ap, inl, inr}
use Rattle.std.specs.Prelude.{bytes_eq}
use Rattle.std.specs.Cmp.Lexicographic.{slice_cmp}
use Rattle.std.specs.Ordering.{nat_cmp, is_eq}
use Rattle.std.proofs.lemmas.Slice.Eq.{bytes_eq-Decides}
use Rattle.std.proofs.lemmas.Map.Text.{is_eq-slice_cmp}
use Rattle.std.proofs.lemmas.Bool.{cases_Bool}
use Rattle.std.proofs.lemmas.List.{take_more}
use Rattle.acq_base.specs.declared.sum.Sum.{Sum}
use Rattle.pdiff_index.specs.Sums.{sum_beside}
use Rattle.pdiff_index.specs.Chain.{sum_named}
use Rattle.pdiff_index.specs.declared.index.Step.{Step}

-- the sum of a name with one more step
pub sum_named-push : (steps : List Step) (step : Step) (name : List ℕ) → sum_named (steps ++ step ∷ []) name ≡ sum_beside (sum_named steps name) step name
sum_named-push [] step name = refl
sum_named-push (first ∷ steps) step name =
    elim (cases_Bool (bytes_eq first.name name)) [
      | inl is ↦ rw is refl
      | inr isnt ↦ rw isnt (sum_named-push steps step name)
    ]

pub sum_named-more : (steps : List Step) (i : ℕ) (step : Step) (name : List ℕ) → i < length steps → step ≡ get_or steps i step → sum_named (take (i + 1) steps) name ≡ sum_beside (sum_named (take i steps) name) step name
sum_named-more steps i step name within here =
    ap (λ (ss : List Step). sum_named ss name) (take_more steps i step within ∙ ap (λ (s : Step). take i steps ++ s ∷ []) (sym here)) ∙ sum_named-push (take i steps) step name

-- what the map has for a name once a step is put into it whose name had none
pub sum_inserted : (before after : Option Sum) (step : Step) (name : List ℕ) → after ≡ cond (is_eq (slice_cmp nat_cmp step.name name)) (Some step.sum) before → (step.name ≡ name → before ≡ None) → after ≡ sum_beside before step name
sum_inserted None after step name e absent = e ∙ ap (λ b. cond b (Some step.sum) None) (is_eq-slice_cmp step.name name)
sum_inserted (Some sum) after step name e absent =
    elim (cases_Bool (bytes_eq step.name name)) [
      | inl is ↦ let none = absent ((bytes_eq-Decides step.name name).0 is) in absurd (cc)
      | inr isnt ↦ e ∙ ap (λ b. cond b (Some step.sum) (Some sum)) (is_eq-slice_cmp step.name name ∙ isnt)
    ]

-- nothing changes for a name that has one
pub sum_kept : (steps : Option Sum) (step : Step) (name : List ℕ) (there : Option Sum) (sum : Sum) → there ≡ Some sum → (step.name ≡ name → steps ≡ there) → steps ≡ sum_beside steps step name
sum_kept (Some s) step name there sum is same = refl
sum_kept None step name there sum is same =
    elim (cases_Bool (bytes_eq step.name name)) [
      | inl hit ↦ let none = same ((bytes_eq-Decides step.name name).0 hit) in absurd (cc)
      | inr isnt ↦ rw isnt refl
    ]
