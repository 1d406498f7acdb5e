-- What holds of a lane's words over a whole run.
use Rattle.std.specs.Prelude.{◌≡◌, ℕ, ◌≤◌, List, [], ◌∷◌, ◌++◌, Option}
use Rattle.acq_base.specs.declared.fetch.NotServed.TheVariants as nots
use Rattle.acq_base.specs.Mirror.{MirrorMap}
use Rattle.acq_outside.specs.declared.word.Fetch.{Fetch}
use Rattle.acq_outside.specs.declared.word.Word.{Word}
use Rattle.acq_outside.specs.declared.word.Word.TheVariants.{Piece, Done, Not, NoMemory}
use Rattle.acq_outside.specs.Word.{IsWord, IsSoundWord}
use Rattle.lane_pool.specs.Words.{count_after, IsHeard}

-- Words of a lane, each with the fetch that was out, taken one after another: the lane's count is `last` before them, and its
-- method's count is `count` when it comes back.
abbrev pub AreHeard : Option MirrorMap → ℕ → List (Fetch × Word) → ℕ → Type 0
AreHeard world last [] count = last ≤ count
AreHeard world last (step ∷ steps) count = IsHeard last world step.0 step.1 × AreHeard world (count_after last step.1) steps count

-- the fault that a word is, with the counts before it and after it
abbrev pub fault_of : Word → List (ℕ × ℕ)
fault_of (Piece place bytes) = []
fault_of (Done size) = []
fault_of (Not (nots.Fault before after)) = (before, after) ∷ []
fault_of (Not (nots.Moved place)) = []
fault_of (Not (nots.Absent status)) = []
fault_of (Not nots.TooBig) = []
fault_of (Not (nots.Garbled at)) = []
fault_of NoMemory = []

abbrev pub faults_of : List (Fetch × Word) → List (ℕ × ℕ)
faults_of [] = []
faults_of (step ∷ steps) = fault_of step.1 ++ faults_of steps

-- the first fault begins at or above `start`, each next one where the one before ended or above, and the last ends at or
-- below `end`
abbrev pub AreApart : ℕ → List (ℕ × ℕ) → ℕ → Type 0
AreApart start [] end = start ≤ end
AreApart start (fault ∷ faults) end = (start ≤ fault.0) × (fault.0 ≤ fault.1) × AreApart fault.1 faults end

-- The faults of a lane don't overlap, and lie between the lane's count before them and its method's at the end.
abbrev pub FaultsAreApart : Type 0
FaultsAreApart = (world : Option MirrorMap) (start count : ℕ) (steps : List (Fetch × Word)) → AreHeard world start steps count → AreApart start (faults_of steps) count

-- A word of the coordinator's own fetch is one that could have come over a lane, whose count it leaves at the method's.
abbrev pub OwnWordsAreHeard : Type 0
OwnWordsAreHeard = (before after : ℕ) (world : Option MirrorMap) (fetch : Fetch) (under : Option Fetch) (word : Word) → before ≤ after → IsSoundWord word → IsWord before after world fetch under word
    → IsHeard before world fetch word × (count_after before word ≡ after)
