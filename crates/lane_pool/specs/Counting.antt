-- Counts of fetches that were begun.
use Rattle.std.specs.Prelude.{◌≡◌, ℕ, zero, suc, List, [], ◌∷◌}
use Rattle.acq_outside.specs.Count.{one_more}

-- a count behind so many calls that each count one
abbrev pub counted_on : ℕ → ℕ → ℕ
counted_on count zero = count
counted_on count (suc calls) = counted_on (one_more count) calls

-- A count of begun fetches is what is told of it, but for some jobs that were handed and not begun.
abbrev pub IsBegun : ℕ → ℕ → Type 0
IsBegun told begun = (left : ℕ) × (told ≡ counted_on begun left)

abbrev pub AreBegun : List ℕ → List ℕ → Type 0
AreBegun [] [] = Unit {0}
AreBegun [] (begun ∷ others) = ⊥
AreBegun (told ∷ tolds) [] = ⊥
AreBegun (told ∷ tolds) (begun ∷ others) = IsBegun told begun × AreBegun tolds others

-- By lane: lane 0 has begun just as many fetches as is told, and each worker's lane as many but for jobs that it was handed
-- and didn't begin.
abbrev pub BegunAsHanded : List ℕ → List ℕ → Type 0
BegunAsHanded [] begun = ⊥
BegunAsHanded (own ∷ tolds) [] = ⊥
BegunAsHanded (own ∷ tolds) (first ∷ others) = (first ≡ own) × AreBegun tolds others
