-- A head that is allowed has no field that is refused.
use Rattle.std.proofs.Common.{◌≡◌, Bool, true, false, List, [], ◌∷◌, None, refl, inl, inr}
use Rattle.std.specs.Prelude.{not, find}
use Rattle.std.specs.List.{list_all}
use Rattle.std.proofs.lemmas.Bool.{cases_Bool}
use Rattle.release_file.specs.Changes.{allowed, first_refused, may_follow, head_fields}
use Rattle.release_file.specs.declared.changing.Change.{Change}
use Rattle.release_file.specs.declared.release.Head.{Head}

none-found : {A : Type 0} (p : A → Bool) (xs : List A) → list_all p xs ≡ true → find (λ x. not (p x)) xs ≡ None
none-found p [] all = refl
none-found p (x ∷ xs) all = elim (cases_Bool (p x)) [
  | inl is ↦ rw is (none-found p xs (rw is at all))
  | inr isnt ↦ absurd (let none : false ≡ true = rw isnt at all in cc)
]

pub allowed-unrefused : (change : Change) (old new : Head) → allowed change old new ≡ true → first_refused change old new ≡ None
unfolding allowed first_refused
allowed-unrefused change old new is = none-found (may_follow change old new) head_fields is
