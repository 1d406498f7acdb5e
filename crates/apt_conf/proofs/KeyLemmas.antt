-- Parts of a key, one step of a scan.
use Rattle.std.proofs.Common.{◌≡◌, ℕ, ◌-◌, ◌≤◌, Bool, true, false, List, [], ◌∷◌, length, take, drop, slice_index, refl, sym, ap, ◌∙◌, arith}
use Rattle.std.proofs.lemmas.List.{take_rest}
use Rattle.apt_conf.specs.Keys.{empty_part, is_parting}

empty_part-parted : (begins : Bool) (rest : List ℕ) → 2 ≤ length rest → is_parting (slice_index rest 0) (slice_index rest 1) ≡ true → begins ≡ false → empty_part begins rest ≡ empty_part true (drop 2 rest)
unfolding empty_part
empty_part-parted begins [] long parted none = absurd (omega arith)
empty_part-parted begins (c ∷ []) long parted none = absurd (omega arith)
empty_part-parted begins (c ∷ d ∷ rest) long parted none = rw (parted, none) refl

empty_part-plain : (begins : Bool) (rest : List ℕ) → 2 ≤ length rest → is_parting (slice_index rest 0) (slice_index rest 1) ≡ false → empty_part begins rest ≡ empty_part false (drop 1 rest)
unfolding empty_part
empty_part-plain begins [] long plain = absurd (omega arith)
empty_part-plain begins (c ∷ []) long plain = absurd (omega arith)
empty_part-plain begins (c ∷ d ∷ rest) long plain = rw plain refl

-- behind `::` a part begins
pub parted_step : (begins : Bool) (rest : List ℕ) (test whole : Bool) → 2 ≤ length rest → test ≡ is_parting (slice_index rest 0) (slice_index rest 1) → test ≡ true → begins ≡ false → empty_part begins rest ≡ whole
    → empty_part true (take (length rest - 2) (drop 2 rest)) ≡ whole
parted_step begins rest test whole long is parted none so_far =
    ap (empty_part true) (take_rest rest 2) ∙ sym (empty_part-parted begins rest long (sym is ∙ parted) none) ∙ so_far

-- any other byte goes on with its part
pub plain_step : (begins : Bool) (rest : List ℕ) (test whole : Bool) → 2 ≤ length rest → test ≡ is_parting (slice_index rest 0) (slice_index rest 1) → test ≡ false → empty_part begins rest ≡ whole
    → empty_part false (take (length rest - 1) (drop 1 rest)) ≡ whole
plain_step begins rest test whole long is plain so_far =
    ap (empty_part false) (take_rest rest 1) ∙ sym (empty_part-plain begins rest long (sym is ∙ plain)) ∙ so_far
