-- What a method over a map shows.
use Rattle.std.specs.Prelude.{◌≡◌, ◌⊎◌, ℕ, ◌+◌, ◌-◌, ◌^◌, ◌≤◌, ◌&&◌, nat_le, nat_lt, if◌then◌else◌, min, length, take, drop, All, Option, Some, IfSome}
use Rattle.acq_base.specs.declared.fetch.Answer.{Answer}
use Rattle.acq_base.specs.declared.fetch.Answer.TheVariants as answers
use Rattle.acq_base.specs.declared.fetch.NotServed.TheVariants as nots
use Rattle.acq_base.specs.Fetch.{IsSoundAnswer}
use Rattle.acq_base.specs.Mirror.{MirrorMap, answer_at}
use Rattle.acq_memory.specs.declared.failing.Failing.{Failing}
use Rattle.acq_outside.specs.declared.word.Fetch.{Fetch}
use Rattle.acq_outside.specs.declared.word.Word.{Word}
use Rattle.acq_outside.specs.declared.word.Word.TheVariants.{Piece, Done, Not}

pub record MapState : Type 0 where
  pub world : MirrorMap
  -- how its calls of `begin` and of `more` went, and which are to fail
  pub failing : Failing
  pub failing_more : Failing
  pub under : Option Fetch

-- its faults, of both kinds of calls
abbrev pub all_faults : Failing → Failing → ℕ
all_faults failing failing_more = min (failing.faults + failing_more.faults) (2 ^ 64 - 1)

abbrev pub faults_of : MapState → ℕ
faults_of method = all_faults method.failing method.failing_more

-- how many fetches were begun
abbrev pub begins_of : MapState → ℕ
begins_of method = method.failing.calls

-- the mirror that it tells
abbrev pub mirror_of : MapState → Option MirrorMap
mirror_of method = Some method.world

-- each place that an answer moves to is a sound URI
abbrev pub HasSoundAnswers : MirrorMap → Type 0
HasSoundAnswers world = All (λ entry. IsSoundAnswer entry.1) world

-- what it says next to a fetch: pieces of 65,536 bytes but for the last one
abbrev pub word_of : Answer → Fetch → Word
word_of (answers.Served all) fetch =
    if nat_lt fetch.job.max (length all) then Not nots.TooBig
    else if nat_lt 0 fetch.job.from && nat_le (length all) fetch.job.from then Not (nots.Absent 416)
    else if nat_le (length all) fetch.at then Done fetch.at
    else Piece fetch.at (take 65536 (drop fetch.at all))
word_of (answers.Moved place) fetch = Not (nots.Moved place)
word_of (answers.Absent status) fetch = Not (nots.Absent status)

abbrev pub next_word : MirrorMap → Fetch → Word
next_word world fetch = word_of (answer_at world fetch.job.uri) fetch

-- a fetch stands within its file, or at its job's beginning
abbrev pub CanGoOn : Answer → Fetch → Type 0
CanGoOn (answers.Served all) fetch = (fetch.at ≤ length all) ⊎ (fetch.at ≡ fetch.job.from)
CanGoOn (answers.Moved place) fetch = Unit {0}
CanGoOn (answers.Absent status) fetch = Unit {0}

pub record IsMapState (method : MapState) : Type 0 where
  pub sound : HasSoundAnswers method.world
  pub under_way : IfSome method.under (λ fetch. CanGoOn (answer_at method.world fetch.job.uri) fetch)
