-- When two texts are a sum.
use Rattle.std.proofs.Common.{◌≡◌, ◌↔◌, ℕ, List, Option, Some, None, Result, Ok, Err, refl, sym, subst, IsSome, IsOk, IsErrOf}
use Rattle.std.specs.Result.{result_ok}
use Rattle.hex.specs.Hex.{decode_sized}
use Rattle.hex.specs.declared.error.FromHexError.{FromHexError}
use Rattle.hex.proofs.HexLemmas.{IsOk-decode_sized}
use Rattle.acq_base.specs.declared.sum.Sum.{Sum}
use Rattle.acq_base.specs.declared.sum.SumError.{SumError}
use Rattle.acq_base.specs.declared.sum.SumError.TheVariants.{BadHash}
use Rattle.acq_base.specs.Digits.{IsNumber, number_of_digits}
use Rattle.acq_base.specs.Sum.{IsHash, sized, hashed, sum_of_texts}
use Rattle.acq_base.proofs.Numbers.{IsSome-number}

-- a sum is there exactly where a size is
IsOk-from_size : (digest : List ℕ) (size : Option ℕ) → IsOk (sized digest size) ↔ IsSome size
IsOk-from_size digest (Some size) = ((λ _. refl), (λ _. refl))
IsOk-from_size digest None = ((λ e. absurd (cc)), (λ e. absurd (cc)))

IsOk-sized : (digest : List ℕ) (text : List ℕ) → IsOk (sized digest (number_of_digits text)) ↔ IsNumber text
IsOk-sized digest text =
    let from = IsOk-from_size digest (number_of_digits text) in
    let number = IsSome-number text in
    ((λ ok. number.0 (from.0 ok)), (λ is. from.1 (number.1 is)))

IsOk-hashed : (digest : Result (List ℕ) FromHexError) (size : List ℕ) → IsOk (hashed (result_ok digest) size) ↔ (IsOk digest × IsNumber size)
IsOk-hashed (Ok bytes) size = ((λ h. (refl, (IsOk-sized bytes size).0 h)), (λ h. (IsOk-sized bytes size).1 h.1))
IsOk-hashed (Err e) size = ((λ h. absurd (cc)), (λ h. let e = h.0 in cc))

-- two texts are a sum exactly where each is what it has to be
pub IsOk-sum_of_texts : (hash size : List ℕ) → IsOk (sum_of_texts hash size) ↔ (IsHash hash × IsNumber size)
IsOk-sum_of_texts hash size =
    let both = IsOk-hashed (decode_sized hash 32) size in
    let digest = IsOk-decode_sized hash 32 in
    ((λ h. (digest.0 (both.0 h).0, (both.0 h).1)), (λ h. both.1 (digest.1 h.0, h.1)))

-- once a digest is there, only the size is refused
hash_stands : (digest : List ℕ) (size : Option ℕ) → sized digest size ≡ Err BadHash → ⊥
hash_stands digest (Some size) h = cc
hash_stands digest None h = cc

BadHash-hashed : (digest : Result (List ℕ) FromHexError) (size : List ℕ) → IsErrOf (hashed (result_ok digest) size) BadHash ↔ (IsOk digest → ⊥)
BadHash-hashed (Ok bytes) size = ((λ h ok. hash_stands bytes (number_of_digits size) h), (λ no. absurd (no refl)))
BadHash-hashed (Err e) size = ((λ h ok. cc), (λ no. refl))

-- the hash is refused exactly where it is none
pub BadHash-sum_of_texts : (hash size : List ℕ) → IsErrOf (sum_of_texts hash size) BadHash ↔ (IsHash hash → ⊥)
BadHash-sum_of_texts hash size =
    let both = BadHash-hashed (decode_sized hash 32) size in
    let digest = IsOk-decode_sized hash 32 in
    ((λ h hash. both.0 h (digest.1 hash)), (λ no. both.1 (λ ok. no (digest.0 ok))))

-- both for an answer that is the definition's
pub IsOk-read : (result : Result Sum SumError) (hash size : List ℕ) → result ≡ sum_of_texts hash size → IsOk result ↔ (IsHash hash × IsNumber size)
IsOk-read result hash size e = subst (λ r. IsOk r ↔ (IsHash hash × IsNumber size)) (sym e) (IsOk-sum_of_texts hash size)

pub BadHash-read : (result : Result Sum SumError) (hash size : List ℕ) → result ≡ sum_of_texts hash size → IsErrOf result BadHash ↔ (IsHash hash → ⊥)
BadHash-read result hash size e = subst (λ r. IsErrOf r BadHash ↔ (IsHash hash → ⊥)) (sym e) (BadHash-sum_of_texts hash size)
