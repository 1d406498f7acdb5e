-- Counts of fetches that were begun.
use Rattle.std.proofs.Common.{◌≡◌, ◌∙◌, ℕ, zero, suc, ◌+◌, ◌-◌, ◌^◌, ◌<◌, ◌≤◌, List, [], ◌∷◌, length, get_or, sym, refl, ap, arith}
use Rattle.acq_outside.specs.Count.{one_more}
use Rattle.lane_pool.specs.Counting.{counted_on, IsBegun, AreBegun, BegunAsHanded}

-- one call more
counted_suc : (count calls : ℕ) → counted_on count (suc calls) ≡ one_more (counted_on count calls)
counted_suc count zero = refl
counted_suc count (suc calls) = counted_suc (one_more count) calls

pub counted_next : (count calls more : ℕ) → more ≡ calls + 1 → counted_on count more ≡ one_more (counted_on count calls)
counted_next count calls more is = let e : more ≡ suc calls = omega arith in ap (λ (n : ℕ). counted_on count n) e ∙ counted_suc count calls

-- a worker's count beside what it received, where nothing changes, and where a job came and began one fetch
pub same_begun : (start begun begun' received received' : ℕ) → begun' ≡ begun → received' ≡ received → begun ≡ counted_on start received → begun' ≡ counted_on start received'
same_begun start begun begun' received received' a b is = a ∙ is ∙ sym (ap (λ (n : ℕ). counted_on start n) b)

pub next_begun : (start begun begun' received received' : ℕ) → begun' ≡ one_more begun → received' ≡ received + 1 → begun ≡ counted_on start received → begun' ≡ counted_on start received'
next_begun start begun begun' received received' a b is = a ∙ ap (λ (n : ℕ). one_more n) is ∙ sym (counted_next start received received' b)

-- so many calls, and then so many more
pub counted_further : (count first more : ℕ) → counted_on (counted_on count first) more ≡ counted_on count (first + more)
counted_further count zero more = let same : more ≡ 0 + more = omega arith in ap (λ (n : ℕ). counted_on count n) same
counted_further count (suc first) more = let same : suc (first + more) ≡ suc first + more = omega arith in
    counted_further (one_more count) first more ∙ ap (λ (n : ℕ). counted_on count n) same

-- where no more was received than handed out, and each that was received began one fetch
pub begun_within : (start begun received handed : ℕ) → received ≤ handed → begun ≡ counted_on start received → IsBegun (counted_on start handed) begun
begun_within start begun received handed within is =
    let left : ℕ = handed - received in
    let all : handed ≡ received + left = omega arith in (
      left,
      ap (λ (n : ℕ). counted_on start n) all ∙ sym (counted_further start received left) ∙ sym (ap (λ (n : ℕ). counted_on n left) is),
    )

-- a count that a u64 holds is at or below what is told of it
pub begun_below : (told begun : ℕ) → IsBegun told begun → begun < 2 ^ 64 → begun ≤ told
begun_below told begun is low = let e = is.1 in let h = on begun is.0 low in omega arith
  where
    on : (count calls : ℕ) → count < 2 ^ 64 → count ≤ counted_on count calls
    on count zero h = omega arith
    on count (suc calls) h = let i = on (one_more count) calls (omega arith) in omega arith

-- of equal counts
pub begun_of : (told begun told' begun' : ℕ) → told' ≡ told → begun' ≡ begun → IsBegun told begun → IsBegun told' begun'
begun_of told begun told' begun' a b is = (is.0, a ∙ is.1 ∙ sym (ap (λ (n : ℕ). counted_on n is.0) b))

-- place by place
pub are_begun_at : (tolds begun : List ℕ) → length tolds ≡ length begun → ((i : ℕ) → i < length tolds → IsBegun (get_or tolds i 0) (get_or begun i 0)) → AreBegun tolds begun
are_begun_at [] [] len each = tt
are_begun_at [] (b ∷ bs) len each = absurd (omega arith)
are_begun_at (t ∷ ts) [] len each = absurd (omega arith)
are_begun_at (t ∷ ts) (b ∷ bs) len each = (each 0 (omega arith), are_begun_at ts bs (omega arith) (λ i h. each (suc i) (omega arith)))

pub begun_as_handed_at : (own : ℕ) (tolds begun : List ℕ) → length begun ≡ suc (length tolds) → get_or begun 0 0 ≡ own → ((i : ℕ) → i < length tolds → IsBegun (get_or tolds i 0) (get_or begun (suc i) 0))
    → BegunAsHanded (own ∷ tolds) begun
begun_as_handed_at own tolds [] len first each = absurd (omega arith)
begun_as_handed_at own tolds (b ∷ bs) len first each = (first, are_begun_at tolds bs (omega arith) each)
