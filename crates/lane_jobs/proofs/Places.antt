-- Two items that stage into one list's file are one.
use Rattle.std.proofs.Common.{◌≡◌, ◌≢◌, ◌<◌, ◌∙◌, inl, inr, ℕ, zero, suc, ◌+◌, nat_lt, Bool, true, false, List, [], ◌∷◌, ◌++◌, AllPairs, length, length-append, Option, Some, None, refl, sym, ap, subst, arith}
use Rattle.std.specs.Prelude.{if◌then◌else◌, option_map, slice_get}
use Rattle.std.specs.List.{flat_map, slice_index_or}
use Rattle.std.proofs.lemmas.Bool.{cases_Bool}
use Rattle.std.proofs.lemmas.Bool.Decides.{nat_tests}
use Rattle.std.proofs.lemmas.List.{get_or-append-add, get_or_append_left, length-map}
use Rattle.acq_base.specs.Plan.{names_of}
use Rattle.acq_base.specs.declared.plan.Source.{Source}
use Rattle.acq_base.specs.declared.plan.Target.{Target}
use Rattle.acq_base.specs.declared.uri.ListName.{ListName}
use Rattle.board_model.specs.Boards.{Asker, Board, asker_of, name_staged}
use Rattle.board_model.specs.Keys.{name_at}
use Rattle.board_model.specs.NameLaws.{AreNamedApart}
use Rattle.board_model.proofs.Askers.{Asks, asker-asks}
use Rattle.board_model.proofs.Making.{get-name}
use Rattle.board_model.proofs.Numbers.{IsNumbered, base, numbered}

-- ---- the names of a plan, by number

-- the name stands among these under this number
record IsNameAt (names : List (List ℕ)) (number : ℕ) (name : List ℕ) : Type 0 where
  below : number < length names
  is : slice_index_or names number [] ≡ name

-- that of a target stands under the number of its item
name_there : (sources : List Source) (n k number : ℕ) (source : Source) (target : Target) → slice_get sources n ≡ Some source → slice_get source.targets k ≡ Some target → number ≡ base sources n + suc k
    → IsNameAt (flat_map names_of sources) number target.name.0
name_there [] n k number source target s t is = absurd (cc)
name_there (x ∷ sources) zero k number source target s t is =
    let same : x ≡ source = cc in
    let at = get-name x.targets k target [] (subst (λ (y : Source). slice_get y.targets k ≡ Some target) (sym same) t) in
    let fits = at.0 in
    let many = length-append (names_of x) (flat_map names_of sources) in
    let here : suc k < length (names_of x) = omega (arith, fits) in
    let first : number ≡ 0 + suc k = is in
    let place : number ≡ suc k = omega (arith, first) in
    record {
      below = omega (arith, many, here, place);
      is = ap (λ (i : ℕ). slice_index_or (names_of x ++ flat_map names_of sources) i []) place ∙ get_or_append_left (names_of x) (flat_map names_of sources) [] (suc k) here ∙ at.1;
    }
name_there (x ∷ sources) (suc n) k number source target s t is =
    let rest = name_there sources n k (base sources n + suc k) source target s t refl in
    let fits = rest.below in
    let many = length-append (names_of x) (flat_map names_of sources) in
    let count : length (names_of x) ≡ suc (length x.targets) = ap suc (length-map x.targets (λ (z : Target). z.name.0)) in
    let behind : number ≡ (suc (length x.targets) + base sources n) + suc k = is in
    let place : number ≡ length (names_of x) + (base sources n + suc k) = omega (arith, behind, count) in
    record {
      below = omega (arith, many, fits, place);
      is = ap (λ (i : ℕ). slice_index_or (names_of x ++ flat_map names_of sources) i []) place ∙ get_or-append-add (names_of x) (flat_map names_of sources) (base sources n + suc k) [] ∙ rest.is;
    }

-- names that are apart have one number each
one_number : (names : List (List ℕ)) (n m : ℕ) (x y : List ℕ) → AllPairs (λ a b. a ≢ b) names → IsNameAt names n x → IsNameAt names m y → x ≡ y → n ≡ m
one_number names n m x y apart one two same =
    let in_one = one.below in
    let in_two = two.below in
    elim (cases_Bool (nat_lt n m)) [
      | inl lower ↦
          let before : n < m = grind (arith, nat_tests, lower) in
          absurd (apart n m [] before in_two (one.is ∙ same ∙ sym two.is))
      | inr over ↦ elim (cases_Bool (nat_lt m n)) [
        | inl above ↦
            let before : m < n = grind (arith, nat_tests, above) in
            absurd (apart m n [] before in_one (two.is ∙ sym same ∙ sym one.is))
        | inr under ↦ grind (arith, nat_tests, over, under)
      ]
    ]

-- ---- an item that stages

record IsListAt (source : Source) (place : ℕ) (name : ListName) : Type 0 where
  k : ℕ
  target : Target
  place_is : place ≡ suc k
  there : slice_get source.targets k ≡ Some target
  named : target.name ≡ name

list_at : (source : Source) (place : ℕ) (name : ListName) → name_at source place ≡ Some name → IsListAt source place name
list_at source zero name e = absurd (cc)
list_at source (suc k) name e = one (slice_get source.targets k) refl e
  where
    one : (o : Option Target) → slice_get source.targets k ≡ o → option_map (λ (target : Target). target.name) o ≡ Some name → IsListAt source (suc k) name
    one None is e = absurd (cc)
    one (Some target) is e = let same : target.name ≡ name = cc in record { k = k; target = target; place_is = refl; there = is; named = same }

pub staged_list : (a : Asker) (name : ListName) → name_staged a ≡ Some name → name_at a.source a.key.place ≡ Some name
staged_list a name e = one a.ask.stage e
  where
    one : (c : Bool) → (if c then name_at a.source a.key.place else None) ≡ Some name → name_at a.source a.key.place ≡ Some name
    one true e = e
    one false e = absurd (cc)

item_name : (b : Board) (n : ℕ) (a : Asker) (name : ListName) → asker_of b n ≡ Some a → name_staged a ≡ Some name → IsNameAt (flat_map names_of b.config.sources) n name.0
item_name b n a name asks staged =
    let known : Asks b n a = asker-asks b n a asks in
    let at : IsNumbered b.config.sources 0 n a.key = numbered b.config.sources 0 n a.key known.key_is in
    let list = list_at a.source a.key.place name (staged_list a name staged) in
    let from : a.key.source ≡ 0 + at.n = at.source_is in
    let same : a.key.source ≡ at.n = omega (arith, from) in
    let there : slice_get b.config.sources at.n ≡ Some a.source = subst (λ (i : ℕ). slice_get b.config.sources i ≡ Some a.source) same known.source_is in
    let number : n ≡ base b.config.sources at.n + suc list.k = at.number_is ∙ ap (λ (p : ℕ). base b.config.sources at.n + p) list.place_is in
    subst (λ (z : ListName). IsNameAt (flat_map names_of b.config.sources) n z.0) list.named (name_there b.config.sources at.n list.k n a.source list.target there list.there number)

pub one_item : (b : Board) (n m : ℕ) (a e : Asker) (x y : ListName) → AreNamedApart b.config → asker_of b n ≡ Some a → asker_of b m ≡ Some e → name_staged a ≡ Some x → name_staged e ≡ Some y → x.0 ≡ y.0 → n ≡ m
one_item b n m a e x y apart asks_a asks_e staged_a staged_e same =
    one_number (flat_map names_of b.config.sources) n m x.0 y.0 apart (item_name b n a x asks_a staged_a) (item_name b m e y asks_e staged_e) same
