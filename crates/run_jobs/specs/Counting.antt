-- How a log tells the faults of methods, and how often each was asked.
use Rattle.std.specs.Prelude.{◌≡◌, ◌==◌, ℕ, zero, suc, ◌<◌, ◌≤◌, ◌+◌, List, [], ◌∷◌, filter, length, slice_get, Some}
use Rattle.std.specs.List.{AllByRecursion as Each}
use Rattle.acq_outside.specs.Count.{Rose}
use Rattle.lane_pool.specs.Counting.{counted_on}
use Rattle.update_model.specs.declared.log.Asked.{Asked}
use Rattle.update_model.specs.declared.log.Heard.{Heard}
use Rattle.update_model.specs.declared.log.Heard.TheVariants.{Not}
use Rattle.acq_base.specs.declared.fetch.NotServed.TheVariants.{Fault}

-- a fault that is told rose from the count so far or above, and the others begin where it ended
abbrev pub CountsOn : Heard → ℕ → (ℕ → Type 0) → Type 0
CountsOn (Not (Fault before after)) count rest = (count ≤ before) × Rose before after × (before ≤ after) × rest after
CountsOn heard count rest = rest count

-- The faults of these entries don't overlap: the first begins at this count or above it, each next one where the one before
-- ended or above, and the last ends at the other count or below it.
abbrev pub CountsUp : ℕ → ℕ → List Asked → Type 0
CountsUp first last [] = first ≤ last
CountsUp first last (entry ∷ entries) = CountsOn entry.heard first (λ count. CountsUp count last entries)

-- ---- over several methods

abbrev pub asks_of_lane : ℕ → List Asked → List Asked
asks_of_lane lane asks = filter (λ asked. asked.lane == lane) asks

-- Each ask was one of these methods', and the faults of each method are told in order, within what it counted.
pub record FaultsRise (before after : List ℕ) (asks : List Asked) : Type 0 where
  pub lanes : Each (λ asked. asked.lane < length before) asks
  pub counts : (lane first last : ℕ) → slice_get before lane ≡ Some first → slice_get after lane ≡ Some last → CountsUp first last (asks_of_lane lane asks)

-- of the first method just as many fetches were begun as were told, and of each other no more than that and one
abbrev pub IsBegunAsTold : ℕ → ℕ → ℕ → ℕ → Type 0
IsBegunAsTold zero first last told = last ≡ counted_on first told
IsBegunAsTold (suc lane) first last told = (left : ℕ) × (more : ℕ) × (more ≤ 1) × (counted_on last left ≡ counted_on first (told + more))

-- so many were as the log tells
abbrev pub BeginsAsTold : List ℕ → List ℕ → List Asked → Type 0
BeginsAsTold before after asks =
    (lane first last : ℕ) → slice_get before lane ≡ Some first → slice_get after lane ≡ Some last → IsBegunAsTold lane first last (length (asks_of_lane lane asks))
