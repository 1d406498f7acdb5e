-- Lists of which one element is changed, as another list sees them.
use Rattle.std.proofs.Common.{◌≡◌, ◌∙◌, ℕ, zero, suc, ◌+◌, ◌<◌, ◌≤◌, nat_eq, inl, inr, Bool, true, false, List, [], ◌∷◌, length, map, get_or, Option, None, refl, sym, ap, subst, arith}
use Rattle.std.specs.Prelude.{◌&&◌, not, option_map}
use Rattle.std.specs.List.{list_all}
use Rattle.std.proofs.Math.ListN.{set}
use Rattle.std.proofs.lemmas.List.{set-set}
use Rattle.std.proofs.lemmas.Bool.{cases_Bool}
use Rattle.std.proofs.lemmas.Bool.Decides.{nat_tests}
use Rattle.host_queues.specs.Lanes.{changed_at}
use Rattle.item_graph.specs.declared.item.Item.{Item}
use Rattle.board_model.specs.Slots.{Standing, has_ended}
use Rattle.board_source.specs.Listed.{count_asking, is_asking, one_if, standing_of, standings}

pub set-changed : {A B : Type 0} (view : A → B) (f : B → B) (xs : List A) (n : ℕ) (d y : A) → n < length xs → d ≡ get_or xs n d → view y ≡ f (view d)
    → map view (set xs n y) ≡ changed_at n f (map view xs)
set-changed view f [] n d y within is e = absurd (grind (arith, within))
set-changed view f (x ∷ xs) zero d y within is e = ap (λ z. z ∷ map view xs) (e ∙ ap (λ z. f (view z)) is)
set-changed view f (x ∷ xs) (suc n) d y within is e = ap (λ zs. view x ∷ zs) (set-changed view f xs n d y (omega (arith, within)) is e)

pub changed-twice : {A : Type 0} (f g : A → A) (xs : List A) (n : ℕ) → changed_at n g (changed_at n f xs) ≡ changed_at n (λ x. g (f x)) xs
changed-twice f g [] n = refl
changed-twice f g (x ∷ xs) zero = refl
changed-twice f g (x ∷ xs) (suc n) = ap (λ zs. x ∷ zs) (changed-twice f g xs n)

pub count-set : (items : List (Option Item)) (n : ℕ) (d y : Option Item) → n < length items → d ≡ get_or items n d
    → count_asking (set items n y) + one_if (is_asking d) ≡ count_asking items + one_if (is_asking y)
count-set [] n d y within is = absurd (grind (arith, within))
count-set (x ∷ xs) zero d y within is =
    let same : one_if (is_asking d) ≡ one_if (is_asking x) = ap (λ z. one_if (is_asking z)) is in
    omega arith
count-set (x ∷ xs) (suc n) d y within is =
    let rest = count-set xs n d y (omega (arith, within)) is in
    omega (arith, rest)

pub none-asking : (items : List (Option Item)) → count_asking items ≡ 0 → list_all has_ended (standings items) ≡ true
none-asking [] none = refl
none-asking (x ∷ xs) none = one (has_ended (option_map standing_of x)) refl (λ few. none-asking xs few)
  where
    one : (b : Bool) → has_ended (option_map standing_of x) ≡ b → (count_asking xs ≡ 0 → list_all has_ended (standings xs) ≡ true) → (b && list_all has_ended (standings xs)) ≡ true
    one true e more = more (let same : one_if (is_asking x) ≡ 0 = ap (λ b. one_if (not b)) e in omega (arith, none))
    one false e more = absurd (let same : one_if (is_asking x) ≡ 1 = ap (λ b. one_if (not b)) e in omega (arith, none))

pub some-asking : (items : List (Option Item)) → 0 < count_asking items → list_all has_ended (standings items) ≡ false
some-asking [] some = absurd (omega (arith, some))
some-asking (x ∷ xs) some = one (has_ended (option_map standing_of x)) refl (λ few. some-asking xs few)
  where
    one : (b : Bool) → has_ended (option_map standing_of x) ≡ b → (0 < count_asking xs → list_all has_ended (standings xs) ≡ false) → (b && list_all has_ended (standings xs)) ≡ false
    one true e more = more (let same : one_if (is_asking x) ≡ 0 = ap (λ b. one_if (not b)) e in omega (arith, some))
    one false e more = refl

pub ended-test : (items : List (Option Item)) (asking : ℕ) → asking ≡ count_asking items → nat_eq asking 0 ≡ list_all has_ended (standings items)
ended-test items asking e = elim (cases_Bool (nat_eq asking 0)) [
  | inl is ↦ is ∙ sym (none-asking items (grind (arith, nat_tests, e, is)))
  | inr isnt ↦ isnt ∙ sym (some-asking items (grind (arith, nat_tests, e, isnt)))
]

pub past-standings : (f : Option Standing → Option Standing) (items : List (Option Item)) (n : ℕ) → length items ≤ n → standings items ≡ changed_at n f (standings items)
past-standings f [] n past = refl
past-standings f (x ∷ xs) zero past = absurd (grind (arith, past))
past-standings f (x ∷ xs) (suc n) past = ap (λ zs. option_map standing_of x ∷ zs) (past-standings f xs n (omega (arith, past)))

count-le : (items : List (Option Item)) → count_asking items ≤ length items
count-le [] = omega arith
count-le (x ∷ xs) = one (is_asking x) refl (count-le xs)
  where
    one : (b : Bool) → is_asking x ≡ b → count_asking xs ≤ length xs → one_if (is_asking x) + count_asking xs ≤ length (x ∷ xs)
    one true e rest = let same : one_if (is_asking x) ≡ 1 = ap one_if e in omega (arith, rest)
    one false e rest = let same : one_if (is_asking x) ≡ 0 = ap one_if e in omega (arith, rest)

pub count-room : (items : List (Option Item)) (n : ℕ) → n < length items → count_asking (set items n None) < length items
count-room [] n within = absurd (grind (arith, within))
count-room (x ∷ xs) zero within = let rest = count-le xs in omega (arith, rest)
count-room (x ∷ xs) (suc n) within = one (is_asking x) refl (count-room xs n (omega (arith, within)))
  where
    one : (b : Bool) → is_asking x ≡ b → count_asking (set xs n None) < length xs → one_if (is_asking x) + count_asking (set xs n None) < length (x ∷ xs)
    one true e rest = let same : one_if (is_asking x) ≡ 1 = ap one_if e in omega (arith, rest)
    one false e rest = let same : one_if (is_asking x) ≡ 0 = ap one_if e in omega (arith, rest)

pub read-there : {A : Type 0} (xs : List A) (n : ℕ) (d m : A) → d ≡ m → m ≡ get_or xs n m → d ≡ get_or xs n d
read-there xs n d m e is = subst (λ (z : _). z ≡ get_or xs n z) (sym e) is

-- how many ask without one, and with another in its place
pub taken-count : (xs : List (Option Item)) (n asking less : ℕ) (d hole : Option Item) → n < length xs → d ≡ get_or xs n d → hole ≡ None → asking ≡ count_asking xs → less + one_if (is_asking d) ≡ asking
    → less ≡ count_asking (set xs n hole)
taken-count xs n asking less d hole within is none counted fewer =
    let sum = count-set xs n d hole within is in
    let nothing : one_if (is_asking hole) ≡ 0 = ap (λ o. one_if (is_asking o)) none in
    omega (arith, sum, nothing, counted, fewer)

pub put-count : (xs : List (Option Item)) (n asking less more : ℕ) (d hole new dest : Option Item) → n < length xs → d ≡ get_or xs n d → dest ≡ new → asking ≡ count_asking xs → less + one_if (is_asking d) ≡ asking
    → more ≡ less + one_if (is_asking new) → more ≡ count_asking (set (set xs n hole) n dest)
put-count xs n asking less more d hole new dest within is same counted fewer grown =
    let sum = count-set xs n d dest within is in
    let asks : one_if (is_asking dest) ≡ one_if (is_asking new) = ap (λ o. one_if (is_asking o)) same in
    let whole : more ≡ count_asking (set xs n dest) = omega (arith, sum, asks, counted, fewer, grown) in
    whole ∙ sym (ap count_asking (set-set xs n hole dest))

pub put-standings : (f : Option Standing → Option Standing) (xs : List (Option Item)) (n : ℕ) (d hole new dest : Option Item) → n < length xs → d ≡ get_or xs n d → dest ≡ new
    → option_map standing_of new ≡ f (option_map standing_of d) → standings (set (set xs n hole) n dest) ≡ changed_at n f (standings xs)
put-standings f xs n d hole new dest within is same e =
    ap standings (set-set xs n hole dest) ∙ set-changed (option_map standing_of) f xs n d dest within is (ap (option_map standing_of) same ∙ e)
