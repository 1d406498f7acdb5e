-- No two names lead to one file, whatever part of the pending changes of names is done.
use Rattle.std.proofs.Common.{◌≡◌, refl, sym, ◌∙◌, subst, arith, ℕ, ◌+◌, ◌<◌, ◌≤◌, Bool, true, false, if◌then◌else◌, List, [], ◌∷◌, ◌++◌, Option, Some, None}
use Rattle.std.proofs.lemmas.Slice.Eq.{bytes_eq-Decides}
use Rattle.acq_outside.specs.Disk.{same_name}
use Rattle.acq_outside.specs.Crash.{Names, with_name, moved_name, renamed, all_renamed, IsSubsequence, none, left_out, taken, IsApart, Ascends}
use Rattle.acq_outside.specs.declared.state.NameChange.{NameChange}
use Rattle.acq_outside.specs.declared.state.NameChange.TheVariants.{Made, Moved, Removed}

same : (a b : List ℕ) → same_name a b ≡ true → a ≡ b
same a b = (bytes_eq-Decides a b).0

pub weaken : (m : Names) (n top : ℕ) → n ≤ top → IsApart m n → IsApart m top
weaken m n top le apart = record { one = apart.one; below = λ a i is. omega (arith, apart.below a i is) }

removed : (m : Names) (count : ℕ) (n : List ℕ) → IsApart m count → IsApart (with_name m n None) count
removed m count n apart = record {
  one = λ a b i is_a is_b. one a b i (same_name n a) (same_name n b) is_a is_b;
  below = λ a i is. below a i (same_name n a) is;
}
  where
    one : (a b : List ℕ) (i : ℕ) (ta tb : Bool) → (if ta then None else m a) ≡ Some i → (if tb then None else m b) ≡ Some i → a ≡ b
    one a b i true tb is_a is_b = absurd (cc)
    one a b i false true is_a is_b = absurd (cc)
    one a b i false false is_a is_b = apart.one a b i is_a is_b

    below : (a : List ℕ) (i : ℕ) (t : Bool) → (if t then None else m a) ≡ Some i → i < count
    below a i true is = absurd (cc)
    below a i false is = apart.below a i is

-- a name for a file that no name leads to
named : (m : Names) (count : ℕ) (n : List ℕ) (j : ℕ) → j < count → ((a : List ℕ) → m a ≡ Some j → ⊥) → IsApart m count → IsApart (with_name m n (Some j)) count
named m count n j low free apart = record {
  one = λ a b i is_a is_b. one a b i (same_name n a) (same_name n b) refl refl is_a is_b;
  below = λ a i is. below a i (same_name n a) is;
}
  where
    inner : (i k : ℕ) → Some k ≡ Some i → k ≡ i
    inner i k is = cc

    one : (a b : List ℕ) (i : ℕ) (ta tb : Bool) → same_name n a ≡ ta → same_name n b ≡ tb → (if ta then Some j else m a) ≡ Some i → (if tb then Some j else m b) ≡ Some i → a ≡ b
    one a b i true true ea eb is_a is_b = sym (same n a ea) ∙ same n b eb
    one a b i true false ea eb is_a is_b = absurd (free b (is_b ∙ sym is_a))
    one a b i false true ea eb is_a is_b = absurd (free a (is_a ∙ sym is_b))
    one a b i false false ea eb is_a is_b = apart.one a b i is_a is_b

    below : (a : List ℕ) (i : ℕ) (t : Bool) → (if t then Some j else m a) ≡ Some i → i < count
    below a i true is = subst (λ (k : ℕ). k < count) (inner i j is) low
    below a i false is = apart.below a i is

moved_apart : (m : Names) (count : ℕ) (from to : List ℕ) (x : Option ℕ) → m from ≡ x → IsApart m count → IsApart (moved_name m from to x) count
moved_apart m count from to None is apart = apart
moved_apart m count from to (Some j) is apart = named (with_name m from None) count to j (apart.below from j is) (λ a at. free a (same_name from a) refl at) (removed m count from apart)
  where
    free : (a : List ℕ) (t : Bool) → same_name from a ≡ t → (if t then None else m a) ≡ Some j → ⊥
    free a true e at = absurd (cc)
    free a false e at = let yes : same_name from a ≡ true = (bytes_eq-Decides from a).1 (apart.one from a j is at) in cc

pub ascends_weaker : (changes : List NameChange) (m n top : ℕ) → m ≤ n → Ascends n changes top → Ascends m changes top
ascends_weaker [] m n top le ascends = omega arith
ascends_weaker (Made name i ∷ changes) m n top le ascends = (omega (arith, ascends.0), ascends.1)
ascends_weaker (Moved from to ∷ changes) m n top le ascends = ascends_weaker changes m n top le ascends
ascends_weaker (Removed name ∷ changes) m n top le ascends = ascends_weaker changes m n top le ascends

later : (change : NameChange) (changes : List NameChange) (n top : ℕ) → Ascends n (change ∷ changes) top → Ascends n changes top
later (Made name i) changes n top ascends = ascends_weaker changes n (i + 1) top (omega (arith, ascends.0)) ascends.1
later (Moved from to) changes n top ascends = ascends
later (Removed name) changes n top ascends = ascends

step : (m : Names) (change : NameChange) (changes : List NameChange) (n top : ℕ) → IsApart m n → Ascends n (change ∷ changes) top → (k : ℕ) × IsApart (renamed m change) k × Ascends k changes top
step m (Made name i) changes n top apart ascends =
    (i + 1, named m (i + 1) name i (omega arith) (λ a is. absurd (omega (arith, apart.below a i is, ascends.0))) (weaken m n (i + 1) (omega (arith, ascends.0)) apart), ascends.1)
step m (Moved from to) changes n top apart ascends = (n, moved_apart m n from to (m from) refl apart, ascends)
step m (Removed name) changes n top apart ascends = (n, removed m n name apart, ascends)

pub part_apart : (some all : List NameChange) → IsSubsequence some all → (m : Names) (n top : ℕ) → IsApart m n → Ascends n all top → IsApart (all_renamed m some) top
part_apart some all none m n top apart ascends = weaken m n top ascends apart
part_apart some all (left_out change part) m n top apart ascends = part_apart _ _ part m n top apart (later change _ n top ascends)
part_apart some all (taken change part) m n top apart ascends =
    let next = step m change _ n top apart ascends in
    part_apart _ _ part (renamed m change) next.0 top next.1 next.2

pub part_all : (changes : List NameChange) → IsSubsequence changes changes
part_all [] = none
part_all (change ∷ changes) = taken change (part_all changes)

pub ascends_make : (changes : List NameChange) (n top : ℕ) (name : List ℕ) → Ascends n changes top → Ascends n (changes ++ Made name top ∷ []) (top + 1)
ascends_make [] n top name ascends = (ascends, omega arith)
ascends_make (Made other i ∷ changes) n top name ascends = (ascends.0, ascends_make changes (i + 1) top name ascends.1)
ascends_make (Moved from to ∷ changes) n top name ascends = ascends_make changes n top name ascends
ascends_make (Removed other ∷ changes) n top name ascends = ascends_make changes n top name ascends

pub ascends_move : (changes : List NameChange) (n top : ℕ) (from to : List ℕ) → Ascends n changes top → Ascends n (changes ++ Moved from to ∷ []) top
ascends_move [] n top from to ascends = ascends
ascends_move (Made other i ∷ changes) n top from to ascends = (ascends.0, ascends_move changes (i + 1) top from to ascends.1)
ascends_move (Moved a b ∷ changes) n top from to ascends = ascends_move changes n top from to ascends
ascends_move (Removed other ∷ changes) n top from to ascends = ascends_move changes n top from to ascends

pub ascends_gone : (changes : List NameChange) (n top : ℕ) (name : List ℕ) → Ascends n changes top → Ascends n (changes ++ Removed name ∷ []) top
ascends_gone [] n top name ascends = ascends
ascends_gone (Made other i ∷ changes) n top name ascends = (ascends.0, ascends_gone changes (i + 1) top name ascends.1)
ascends_gone (Moved a b ∷ changes) n top name ascends = ascends_gone changes n top name ascends
ascends_gone (Removed other ∷ changes) n top name ascends = ascends_gone changes n top name ascends
