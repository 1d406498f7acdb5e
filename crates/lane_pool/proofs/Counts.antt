-- Counts of faults along words.
use Rattle.std.proofs.Common.{ℕ, ◌≤◌, max, Option, arith}
use Rattle.acq_base.specs.declared.fetch.Job.{Job}
use Rattle.acq_base.specs.declared.fetch.NotServed.TheVariants as nots
use Rattle.acq_base.specs.Mirror.{MirrorMap}
use Rattle.acq_outside.specs.declared.word.Word.{Word}
use Rattle.acq_outside.specs.declared.word.Word.TheVariants.{Piece, Done, Not, NoMemory}
use Rattle.lane_pool.specs.Words.{count_after, IsWordTo, IsInOrder}

-- a word that is in order leaves the last count at or above what it was
pub rises_to : (last : ℕ) (world : Option MirrorMap) (job : Job) (word : Word) → IsInOrder last word → IsWordTo world job word → last ≤ count_after last word
rises_to last world job (Piece place bytes) order is = omega arith
rises_to last world job (Done size) order is = omega arith
rises_to last world job (Not (nots.Fault before after)) order is = let a = is.says.counted.0 in let b = is.says.counted.1 in let c = is.rises in omega arith
rises_to last world job (Not (nots.Moved place)) order is = omega arith
rises_to last world job (Not (nots.Absent status)) order is = omega arith
rises_to last world job (Not nots.TooBig) order is = omega arith
rises_to last world job (Not (nots.Garbled at)) order is = omega arith
rises_to last world job NoMemory order is = omega arith

-- what a word tells of the count is within the count after it
pub tells_within : (last : ℕ) (word : Word) → count_after 0 word ≤ count_after last word
tells_within last (Piece place bytes) = omega arith
tells_within last (Done size) = omega arith
tells_within last (Not (nots.Fault before after)) = omega arith
tells_within last (Not (nots.Moved place)) = omega arith
tells_within last (Not (nots.Absent status)) = omega arith
tells_within last (Not nots.TooBig) = omega arith
tells_within last (Not (nots.Garbled at)) = omega arith
tells_within last NoMemory = omega arith

-- the count after a word is at or below the greater of what stands and what the word tells
pub after_within : (last n : ℕ) (word : Word) → last ≤ n → count_after last word ≤ max n (count_after 0 word)
after_within last n (Piece place bytes) low = omega arith
after_within last n (Done size) low = omega arith
after_within last n (Not (nots.Fault before after)) low = omega arith
after_within last n (Not (nots.Moved place)) low = omega arith
after_within last n (Not (nots.Absent status)) low = omega arith
after_within last n (Not nots.TooBig) low = omega arith
after_within last n (Not (nots.Garbled at)) low = omega arith
after_within last n NoMemory low = omega arith
