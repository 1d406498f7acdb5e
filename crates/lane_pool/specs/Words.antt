-- What a word that comes over a lane says.
use Rattle.std.specs.Prelude.{◌≡◌, ℕ, ◌≤◌, Option}
use Rattle.acq_base.specs.declared.fetch.Job.{Job}
use Rattle.acq_base.specs.declared.fetch.NotServed.TheVariants as nots
use Rattle.acq_base.specs.Mirror.{MirrorMap}
use Rattle.acq_outside.specs.declared.word.Fetch.{Fetch}
use Rattle.acq_outside.specs.declared.word.Word.{Word}
use Rattle.acq_outside.specs.declared.word.Word.TheVariants.{Piece, Done, Not, NoMemory}
use Rattle.acq_outside.specs.Word.{IsWord, IsSoundWord, after_word}

-- a lane's count of faults after a word: a fault tells it, and anything else leaves it
abbrev pub count_after : ℕ → Word → ℕ
count_after last (Piece place bytes) = last
count_after last (Done size) = last
count_after last (Not (nots.Fault before after)) = after
count_after last (Not (nots.Moved place)) = last
count_after last (Not (nots.Absent status)) = last
count_after last (Not nots.TooBig) = last
count_after last (Not (nots.Garbled at)) = last
count_after last NoMemory = last

-- the place in the file that a word names: where a piece begins, or the size. For any other word it is the job's beginning
abbrev pub place_of : Job → Word → ℕ
place_of job (Piece place bytes) = place
place_of job (Done size) = size
place_of job (Not end) = job.from
place_of job NoMemory = job.from

-- the fetch of a job, at the place that a word names
abbrev pub fetch_at : Job → Word → Fetch
fetch_at job word = record { job = job; at = place_of job word }

-- A word that a method with this mirror gives to this very job, at the word's own place.
pub record IsWordTo (world : Option MirrorMap) (job : Job) (word : Word) : Type 0 where
  -- the method's counts of faults before it and after it
  pub before : ℕ
  pub after : ℕ
  pub rises : before ≤ after
  pub says : IsWord before after world (fetch_at job word) (after_word (fetch_at job word) word) word
  pub sound : IsSoundWord word

-- a piece begins where the job's bytes end, and a size is that place
abbrev pub StandsAt : ℕ → Word → Type 0
StandsAt at (Piece place bytes) = place ≡ at
StandsAt at (Done size) = size ≡ at
StandsAt at (Not end) = Unit {0}
StandsAt at NoMemory = Unit {0}

-- a fault begins at or above the last count
abbrev pub IsInOrder : ℕ → Word → Type 0
IsInOrder last (Piece place bytes) = Unit {0}
IsInOrder last (Done size) = Unit {0}
IsInOrder last (Not (nots.Fault before after)) = last ≤ before
IsInOrder last (Not (nots.Moved place)) = Unit {0}
IsInOrder last (Not (nots.Absent status)) = Unit {0}
IsInOrder last (Not nots.TooBig) = Unit {0}
IsInOrder last (Not (nots.Garbled at)) = Unit {0}
IsInOrder last NoMemory = Unit {0}

-- A word of a method with this mirror to the fetch that is out on its lane, where the last count taken of the lane is
-- `last`: the method's count stood at `before` when it was asked, and is the lane's count from now on.
pub record IsHeard (last : ℕ) (world : Option MirrorMap) (fetch : Fetch) (word : Word) : Type 0 where
  pub before : ℕ
  pub in_order : last ≤ before
  pub rises : before ≤ count_after last word
  pub says : IsWord before (count_after last word) world fetch (after_word fetch word) word
  pub sound : IsSoundWord word
