-- The test on sums, as the crates above have it, tells whether they are equal.
use Rattle.std.proofs.Common.{◌≡◌, ℕ, ◌==◌, ◌&&◌, true, List, bytes_eq, ap₂, refl, arith}
use Rattle.std.proofs.lemmas.Bool.{and_parts, eqb-true}
use Rattle.acq_base.specs.declared.sum.Sum.{Sum}
use Rattle.acq_base.proofs.Texts.{bytes_eq-true, bytes_eq-refl}

pub same_sum-true : (a b : Sum) → ((a.size == b.size) && bytes_eq a.sha.0 b.sha.0) ≡ true → a ≡ b
same_sum-true a b h =
    let parts = and_parts (a.size == b.size) (bytes_eq a.sha.0 b.sha.0) h in
    let size : a.size ≡ b.size = eqb-true a.size b.size parts.0 in
    let sha : a.sha.0 ≡ b.sha.0 = bytes_eq-true a.sha.0 b.sha.0 parts.1 in
    ap₂ (λ (s : ℕ) (d : List ℕ). record { size = s; sha = record { 0 = d } }) size sha

pub same_sum-refl : (a : Sum) → ((a.size == a.size) && bytes_eq a.sha.0 a.sha.0) ≡ true
same_sum-refl a =
    let size : (a.size == a.size) ≡ true = grind arith in
    let sha : bytes_eq a.sha.0 a.sha.0 ≡ true = bytes_eq-refl a.sha.0 in
    rw (size, sha) refl
