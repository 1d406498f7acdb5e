-- Which words of a method agree with what a mirror answers: a file in pieces, from a place on (RFC 9110, section 14).
use Rattle.std.specs.Prelude.{◌≡◌, ◌⊎◌, ℕ, ◌+◌, ◌<◌, ◌≤◌, List, length, take, drop, Option, Some, None, IfSome}
use Rattle.acq_base.specs.declared.fetch.Job.{Job}
use Rattle.acq_base.specs.declared.fetch.Answer.{Answer}
use Rattle.acq_base.specs.declared.fetch.Answer.TheVariants as answers
use Rattle.acq_base.specs.declared.fetch.Reply.{Reply}
use Rattle.acq_base.specs.declared.fetch.NotServed.TheVariants as nots
use Rattle.acq_base.specs.declared.fetch.Reply.TheVariants as replies
use Rattle.acq_base.specs.Fetch.{IsSoundReply}
use Rattle.acq_base.specs.Mirror.{MirrorMap, answer_at}
use Rattle.acq_outside.specs.declared.word.Fetch.{Fetch}
use Rattle.acq_outside.specs.declared.word.Word.{Word}
use Rattle.acq_outside.specs.declared.word.Word.TheVariants.{Piece, Done, Not, NoMemory}
use Rattle.acq_outside.specs.Count.{Rose}

-- a fetch before its first piece
abbrev pub begun : Job → Fetch
begun job = record { job = job; at = job.from }

-- a fetch after so many further bytes
abbrev pub further : Fetch → ℕ → Fetch
further fetch n = record { job = fetch.job; at = fetch.at + n }

-- what is under way after a word
abbrev pub after_word : Fetch → Word → Option Fetch
after_word fetch (Piece place bytes) = Some (further fetch (length bytes))
after_word fetch (Done size) = None
after_word fetch (Not end) = None
after_word fetch NoMemory = None

-- a piece ends within its job's limit
abbrev pub IsWithinLimit : Fetch → Word → Type 0
IsWithinLimit fetch (Piece place bytes) = fetch.at + length bytes ≤ fetch.job.max
IsWithinLimit fetch (Done size) = Unit {0}
IsWithinLimit fetch (Not end) = Unit {0}
IsWithinLimit fetch NoMemory = Unit {0}

-- what a job leaves out is within its limit, if it leaves out anything
abbrev pub CanBegin : Job → Type 0
CanBegin job = (job.from ≡ 0) ⊎ (job.from < job.max)

-- bytes of the answer's file that stand at this place
abbrev pub IsPieceOf : Answer → ℕ → List ℕ → Type 0
IsPieceOf (answers.Served all) at bytes = (bytes ≡ take (length bytes) (drop at all)) × (at + length bytes ≤ length all)
IsPieceOf (answers.Moved place) at bytes = ⊥
IsPieceOf (answers.Absent status) at bytes = ⊥

-- the answer is a file within the job's limit, has so many bytes, and has one behind those that the job leaves out, if it
-- leaves out any
abbrev pub HasSize : Answer → Job → ℕ → Type 0
HasSize (answers.Served all) job size = (size ≡ length all) × (length all ≤ job.max) × ((job.from ≡ 0) ⊎ (job.from < length all))
HasSize (answers.Moved place) job size = ⊥
HasSize (answers.Absent status) job size = ⊥

-- what else is said to a job: of a file, that it is longer than the job's limit, or ends within what the job leaves out
-- (RFC 9110, section 15.5.17); or else what the mirror answers. A fault and want of memory say nothing of the mirror
abbrev pub IsReplyOf : Answer → Job → Reply → Type 0
IsReplyOf (answers.Served all) job (replies.Not nots.TooBig) = job.max < length all
IsReplyOf (answers.Served all) job (replies.Not (nots.Absent status)) = (status ≡ 416) × (0 < job.from) × (length all ≤ job.from)
IsReplyOf (answers.Served all) job (replies.Not (nots.Moved place)) = ⊥
IsReplyOf (answers.Moved to) job (replies.Not (nots.Moved place)) = place ≡ to
IsReplyOf (answers.Moved to) job (replies.Not (nots.Absent status)) = ⊥
IsReplyOf (answers.Moved to) job (replies.Not nots.TooBig) = ⊥
IsReplyOf (answers.Absent code) job (replies.Not (nots.Absent status)) = status ≡ code
IsReplyOf (answers.Absent code) job (replies.Not (nots.Moved place)) = ⊥
IsReplyOf (answers.Absent code) job (replies.Not nots.TooBig) = ⊥
IsReplyOf answer job (replies.Served bytes) = ⊥
IsReplyOf answer job (replies.Not (nots.Garbled at)) = ⊥
IsReplyOf answer job (replies.Not (nots.Fault before after)) = Unit {0}
IsReplyOf answer job replies.NoMemory = Unit {0}

-- a fault tells the count of faults before and after the call, and comes only where it rose in that very call; anything
-- else leaves the count. A file comes in pieces, and never so
abbrev pub IsCounted : ℕ → ℕ → Reply → Type 0
IsCounted before after (replies.Not (nots.Fault told_before told_after)) = (told_before ≡ before) × (told_after ≡ after) × Rose before after
IsCounted before after (replies.Served bytes) = ⊥
IsCounted before after (replies.Not (nots.Moved place)) = after ≡ before
IsCounted before after (replies.Not (nots.Absent status)) = after ≡ before
IsCounted before after (replies.Not nots.TooBig) = after ≡ before
IsCounted before after (replies.Not (nots.Garbled at)) = after ≡ before
IsCounted before after replies.NoMemory = after ≡ before

-- A piece goes on where the fetch stands and stays within its job's limit; the fetch is under way behind it.
pub record IsPiece (before after : ℕ) (world : Option MirrorMap) (fetch : Fetch) (under : Option Fetch) (place : ℕ) (bytes : List ℕ) : Type 0 where
  pub quiet : after ≡ before
  pub goes_on : place ≡ fetch.at
  pub nonempty : 1 ≤ length bytes
  pub small : length bytes ≤ 65536
  pub within : fetch.at + length bytes ≤ fetch.job.max
  pub under_way : under ≡ Some (further fetch (length bytes))
  pub told : IfSome world (λ entries. IsPieceOf (answer_at entries fetch.job.uri) fetch.at bytes)

-- The size is the place where the fetch stands; nothing is under way any more.
pub record IsDone (before after : ℕ) (world : Option MirrorMap) (fetch : Fetch) (under : Option Fetch) (size : ℕ) : Type 0 where
  pub quiet : after ≡ before
  pub reached : size ≡ fetch.at
  pub ended : under ≡ None
  pub told : IfSome world (λ entries. HasSize (answer_at entries fetch.job.uri) fetch.job size)

pub record IsOther (before after : ℕ) (world : Option MirrorMap) (fetch : Fetch) (under : Option Fetch) (reply : Reply) : Type 0 where
  pub counted : IsCounted before after reply
  pub ended : under ≡ None
  pub told : IfSome world (λ entries. IsReplyOf (answer_at entries fetch.job.uri) fetch.job reply)

-- The word of a method to a fetch, where its count of faults went from `before` to `after`, `world` is the mirror that it
-- tells, if it tells one, and `under` is what is under way afterwards: a fetch exactly after a piece.
abbrev pub IsWord : ℕ → ℕ → Option MirrorMap → Fetch → Option Fetch → Word → Type 0
IsWord before after world fetch under (Piece place bytes) = IsPiece before after world fetch under place bytes
IsWord before after world fetch under (Done size) = IsDone before after world fetch under size
IsWord before after world fetch under (Not end) = IsOther before after world fetch under (replies.Not end)
IsWord before after world fetch under NoMemory = IsOther before after world fetch under replies.NoMemory

-- a place that a word moves to can be fetched in turn
abbrev pub IsSoundWord : Word → Type 0
IsSoundWord (Piece place bytes) = Unit {0}
IsSoundWord (Done size) = Unit {0}
IsSoundWord (Not end) = IsSoundReply (replies.Not end)
IsSoundWord NoMemory = IsSoundReply replies.NoMemory
