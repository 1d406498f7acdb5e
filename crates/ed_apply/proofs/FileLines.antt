-- Where the first line of a file ends.
use Rattle.std.proofs.Common.{◌≡◌, ℕ, zero, suc, ◌+◌, ◌<◌, ◌≤◌, nat_eq, Bool, List, [], ◌∷◌, length, take, drop, refl, sym, ap, inl, inr, arith, add-one}
use Rattle.std.specs.List.{position_or_len}
use Rattle.std.proofs.lemmas.Bool.{cases_Bool, eqb-true}
use Rattle.std.proofs.lemmas.List.{take_all, drop_all}
use Rattle.ed_apply.specs.Edits.{file_lines, in_front}

abbrev pub is_feed : ℕ → Bool
is_feed c = nat_eq c 10

feed_line : (xs : List ℕ) (n : ℕ) → n ≡ position_or_len is_feed xs → n < length xs → file_lines xs ≡ take (suc n) xs ∷ file_lines (drop (suc n) xs)
feed_line [] n is within = absurd (omega arith)
feed_line (x ∷ xs) zero is within =
    elim (cases_Bool (nat_eq x 10)) [
      | inl hit ↦ let ten : x ≡ 10 = eqb-true x 10 hit in rw hit (ap (λ c. (c ∷ []) ∷ file_lines xs) (sym ten))
      | inr miss ↦ let off = rw miss at is in absurd (omega (arith, off))
    ]
feed_line (x ∷ xs) (suc n) is within =
    elim (cases_Bool (nat_eq x 10)) [
      | inl hit ↦ let off = rw hit at is in absurd (omega (arith, off))
      | inr miss ↦
          let at = rw miss at is in
          let behind : n ≡ position_or_len is_feed xs = omega (arith, at) in
          rw miss (ap (in_front x) (feed_line xs n behind (omega arith)))
    ]

whole_line : (x : ℕ) (xs : List ℕ) → length (x ∷ xs) ≤ position_or_len is_feed (x ∷ xs) → file_lines (x ∷ xs) ≡ (x ∷ xs) ∷ []
whole_line x [] none =
    elim (cases_Bool (nat_eq x 10)) [
      | inl hit ↦ let off = rw hit at none in absurd (omega (arith, off))
      | inr miss ↦ rw miss refl
    ]
whole_line x (y ∷ xs) none =
    elim (cases_Bool (nat_eq x 10)) [
      | inl hit ↦ let off = rw hit at none in absurd (omega (arith, off))
      | inr miss ↦
          let at = rw miss at none in
          let behind : length (y ∷ xs) ≤ position_or_len is_feed (y ∷ xs) = omega (arith, at) in
          rw miss (ap (in_front x) (whole_line y xs behind))
    ]

-- a line ends behind its line feed
pub ended_line : (xs : List ℕ) (n : ℕ) → n ≡ position_or_len is_feed xs → n < length xs → file_lines xs ≡ take (n + 1) xs ∷ file_lines (drop (n + 1) xs)
ended_line xs n is within = rw add-one (feed_line xs n is within)

-- or at the end of the file
pub last_line : (xs : List ℕ) (n : ℕ) → n ≡ position_or_len is_feed xs → 0 < length xs → length xs ≤ n → file_lines xs ≡ take n xs ∷ file_lines (drop n xs)
last_line [] n is some long = absurd (omega arith)
last_line (x ∷ xs) n is some long =
    let front : take n (x ∷ xs) ≡ x ∷ xs = take_all n (x ∷ xs) long in
    let behind : drop n (x ∷ xs) ≡ [] = drop_all n (x ∷ xs) long in
    rw (front, behind) (whole_line x xs (omega (arith, is, long)))

pub ruleset cuts = (ended_line, last_line)
