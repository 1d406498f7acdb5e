-- How many bytes a written message has, counted up to the greatest number of 64 bits.
use Rattle.std.proofs.Common.{◌≡◌, ℕ, ◌+◌, ◌-◌, ◌^◌, min, false, List, [], ◌∷◌, ◌++◌, length, sym, ap, ◌∙◌, arith, nat_le, inl, inr}
use Rattle.std.proofs.lemmas.Bool.{cases_lt}
use Rattle.std.proofs.lemmas.Bool.Decides.{nat_tests}
use Rattle.std.proofs.lemmas.List.{length-append}
use Rattle.method_messages.specs.Streams.{place}
use Rattle.method_messages.specs.Written.{three_digits, field_text}

sum-capped : (a b limit : ℕ) → min (min a limit + min b limit) limit ≡ min (a + b) limit
sum-capped a b limit = omega arith

pub place_sum : (a b : ℕ) → place (place a + place b) ≡ place (a + b)
place_sum a b = sum-capped a b (2 ^ 64 - 1)

pub place_within : (n : ℕ) → nat_le (place n) 65536 ≡ nat_le n 65536
place_within n =
    elim (cases_lt n (2 ^ 64 - 1)) [
      | inl less ↦ ap (λ k. nat_le k 65536) (omega arith)
      | inr beyond ↦ let capped : place n ≡ 2 ^ 64 - 1 = omega arith in let far : nat_le n 65536 ≡ false = grind (arith, nat_tests) in ap (λ k. nat_le k 65536) capped ∙ sym far
    ]

pub field-size : (name value : List ℕ) → length (field_text (name, value)) ≡ length name + length value + 3
field-size name value = omega (arith, length-append name (58 ∷ 32 ∷ (value ++ 10 ∷ [])), length-append value (10 ∷ []))

pub message-size : (n : ℕ) (text fields : List ℕ) → length (three_digits n ++ 32 ∷ (text ++ 10 ∷ (fields ++ 10 ∷ []))) ≡ length fields + length text + 6
message-size n text fields = omega (arith, length-append text (10 ∷ (fields ++ 10 ∷ [])), length-append fields (10 ∷ []))

pub ruleset within = (place_within)

pub ruleset sizes = (field-size, message-size)
