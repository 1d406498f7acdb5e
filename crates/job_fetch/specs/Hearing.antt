-- A fetch whose words come one by one: what has come of it so far, and what a word leads to.
use Rattle.std.specs.Prelude.{◌≡◌, ℕ, ◌≤◌, is_some, List, ◌++◌, length, take, drop, Option, Some, None, IfSome}
use Rattle.acq_base.specs.Mirror.{MirrorMap, answer_at}
use Rattle.acq_base.specs.declared.fetch.Answer.{Answer}
use Rattle.acq_base.specs.declared.fetch.Answer.TheVariants as answers
use Rattle.acq_base.specs.declared.fetch.Job.{Job}
use Rattle.acq_outside.specs.Crash.{State}
use Rattle.acq_outside.specs.States.{IsTold}
use Rattle.acq_outside.specs.Word.{IsSoundWord, IsWord, after_word}
use Rattle.acq_outside.specs.declared.word.Fetch.{Fetch}
use Rattle.acq_outside.specs.declared.word.Word.{Word}
use Rattle.acq_outside.specs.declared.word.Word.TheVariants as words
use Rattle.journal_model.specs.Names.{IsPutName}
use Rattle.journal_model.specs.Rest.{part_bytes}
use Rattle.update_model.specs.declared.ask.Closed.{Closed}
use Rattle.update_model.specs.declared.ask.Closed.TheVariants.{Served, Not}
use Rattle.job_fetch.specs.Fetched.{IsAnswer, IsCounted, IsInMemory, IsKnown, IsSoundEnd, IsStagedBody, KeepsFront, Staging}
use Rattle.job_fetch.specs.Pieces.{IsFilling}
use Rattle.job_fetch.specs.declared.filling.Filling.{Filling as ListFile}
use Rattle.job_fetch.specs.declared.intake.Heard.{Heard}
use Rattle.job_fetch.specs.declared.intake.Heard.TheVariants.{More, Last}
use Rattle.job_fetch.specs.declared.intake.Intake.{Intake}
use Rattle.job_fetch.specs.declared.intake.Intake.TheVariants.{Held, Unopened, Filling}

-- the list into whose file under `partial/` the pieces go, or none
abbrev pub name_of : Intake → Option (List ℕ)
name_of (Held bytes) = None
name_of (Unopened name) = Some name.0
name_of (Filling filling) = Some filling.part.name

-- where in the whole file the next piece begins
abbrev pub at_of : Job → Intake → ℕ
at_of job (Held bytes) = length bytes
at_of job (Unopened name) = job.from
at_of job (Filling filling) = filling.part.len

abbrev pub fetch_of : Job → Intake → Fetch
fetch_of job intake = record { job = job; at = at_of job intake }

-- ---- before a word

-- a list's file can be opened behind the bytes that the job leaves out
pub record CanOpen (job : Job) (now : List State) (name : List ℕ) : Type 0 where
  pub named : IsPutName name
  pub keep : IsTold now → job.from ≤ length (part_bytes now name)

-- a list's file is there, as long as it should be, and reaches behind them
pub record CanFill (job : Job) (now : List State) (filling : ListFile) : Type 0 where
  pub fills : IsFilling now filling
  pub past : job.from ≤ filling.part.len

-- what came can go on: in memory with nothing left out
abbrev pub CanHear : Job → List State → Intake → Type 0
CanHear job now (Held bytes) = job.from ≡ 0
CanHear job now (Unopened name) = CanOpen job now name.0
CanHear job now (Filling filling) = CanFill job now filling

-- The bytes so far: those at hand that the job leaves out, and behind them the mirror's file up to this place.
abbrev pub IsFront : Answer → List ℕ → ℕ → ℕ → List ℕ → Type 0
IsFront (answers.Served all) part from at bytes = bytes ≡ take from part ++ drop from (take at all)
IsFront (answers.Moved place) part from at bytes = Unit {0}
IsFront (answers.Absent status) part from at bytes = Unit {0}

-- where the method tells its mirror
pub record HasCome (world : Option MirrorMap) (part : List ℕ) (job : Job) (at : ℕ) (bytes : List ℕ) : Type 0 where
  pub told : IfSome world (λ entries. IsFront (answer_at entries job.uri) part job.from at bytes)

-- what has come is the mirror's, where the disk tells a list's file, behind the bytes at hand
abbrev pub HasComeIn : Option MirrorMap → List ℕ → Job → List State → Intake → Type 0
HasComeIn world part job now (Held bytes) = HasCome world part job (length bytes) bytes
HasComeIn world part job now (Unopened name) = IsTold now → take job.from (part_bytes now name.0) ≡ take job.from part
HasComeIn world part job now (Filling filling) = IsTold now → HasCome world part job filling.part.len (part_bytes now filling.part.name)

-- ---- behind it

-- the disk is as it was, or what changes this list's file alone was done
abbrev pub ChangesFile : Option (List ℕ) → List State → List State → Type 0
ChangesFile None old now = now ≡ old
ChangesFile (Some name) old now = Staging name old now

-- the same of a piece and of a file's end; nothing else touches the disk
abbrev pub Touches : Word → Option (List ℕ) → List State → List State → Type 0
Touches (words.Piece place bytes) name old now = ChangesFile name old now
Touches (words.Done size) name old now = ChangesFile name old now
Touches (words.Not end) name old now = now ≡ old
Touches words.NoMemory name old now = now ≡ old

-- the bytes that the job leaves out stay
abbrev pub KeepsBytes : Option (List ℕ) → ℕ → List State → List State → Type 0
KeepsBytes None from old now = now ≡ old
KeepsBytes (Some name) from old now = KeepsFront name from old now

-- a file that came is in memory, or the list's file on its way
abbrev pub ComesTo : Option (List ℕ) → List State → Closed → Type 0
ComesTo None now closed = IsInMemory closed
ComesTo (Some name) now closed = IsStagedBody name now closed

-- a file's end is told as served, and what wasn't served as it was told
abbrev pub IsEndOf : Word → Closed → Type 0
IsEndOf (words.Piece place bytes) closed = ⊥
IsEndOf (words.Done size) (Served body) = Unit {0}
IsEndOf (words.Done size) (Not other) = ⊥
IsEndOf (words.Not end) closed = closed ≡ Not end
IsEndOf words.NoMemory closed = ⊥

-- the fetch goes on behind a piece, to the same place, and ends with any other word
abbrev pub LeadsTo : Job → Intake → Word → List State → Heard → Type 0
LeadsTo job intake word now (More next) =
    (name_of next ≡ name_of intake) × (after_word (fetch_of job intake) word ≡ Some (fetch_of job next)) × CanHear job now next
LeadsTo job intake word now (Last closed) =
    (after_word (fetch_of job intake) word ≡ None) × IsEndOf word closed × (IsSoundWord word → IsSoundEnd closed)

-- Where the method's count of faults went from `before` to `after` in the word: a fault tells these counts, and anything
-- else left it. A file came to where it was to go.
abbrev pub Ends : ℕ → ℕ → Intake → List State → Heard → Type 0
Ends before after intake now (More next) = after ≡ before
Ends before after intake now (Last closed) = ComesTo (name_of intake) now closed × IsCounted before after closed

-- what the answer rests on: a list's file that came on what the disk tells, anything else on nothing
abbrev pub RestsOn : Option (List ℕ) → List State → Closed → Type 0
RestsOn None now closed = Unit {0}
RestsOn (Some name) now closed = IsKnown now closed

-- P of these counts, whichever method said the word: its count of faults went from the one to the other in it
abbrev pub WhoeverSaid : Fetch → Word → (ℕ → ℕ → Type 0) → Type 0
WhoeverSaid fetch word P =
    (before after : ℕ) → (world : Option MirrorMap) → (under : Option Fetch) → IsWord before after world fetch under word → P before after

-- Where the word is a method's with this mirror: what has come is the mirror's, and at the last word so is the answer, or it
-- is a fault.
abbrev pub Hears : Option MirrorMap → List ℕ → Job → Intake → List State → Heard → Type 0
Hears world part job intake now (More next) = HasComeIn world part job now next
Hears world part job intake now (Last closed) = RestsOn (name_of intake) now closed → IsAnswer world part (is_some (name_of intake)) job closed

-- so it goes on from what had come before, whichever method said the word, whatever was at hand
abbrev pub HearsOn : Job → List State → Intake → Word → (Option MirrorMap → List ℕ → Type 0) → Type 0
HearsOn job old intake word P =
    (before after : ℕ) → (world : Option MirrorMap) → (part : List ℕ) → (under : Option Fetch)
    → IsWord before after world (fetch_of job intake) under word → HasComeIn world part job old intake → P world part
