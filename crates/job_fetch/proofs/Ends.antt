-- What wasn't served, as the answer to a whole fetch.
use Rattle.std.proofs.Common.{◌≡◌, ◌⊎◌, ⊎_elim, refl, ap, ℕ, ◌<◌, ◌≤◌, Bool, List, length, Option, Some, None, IfSome, Result, Ok, Err, OnErr, arith}
use Rattle.std.proofs.lemmas.Bool.{le-leb, lt-leb, lt-ltb}
use Rattle.acq_base.specs.Mirror.{MirrorMap, answer_at}
use Rattle.acq_base.specs.declared.uri.Uri.{Uri}
use Rattle.acq_base.specs.declared.fetch.Answer.{Answer}
use Rattle.acq_base.specs.declared.fetch.Answer.TheVariants as answers
use Rattle.acq_base.specs.Fetch.{IsSoundReply}
use Rattle.acq_base.specs.declared.fetch.Job.{Job}
use Rattle.acq_base.specs.declared.fetch.NotServed.{NotServed}
use Rattle.acq_base.specs.declared.fetch.Reply.{Reply}
use Rattle.acq_base.specs.declared.fetch.Reply.TheVariants as replies
use Rattle.acq_outside.specs.Word.{CanBegin, IsCounted as IsCountedReply, IsReplyOf}
use Rattle.acq_outside.specs.Crash.{State}
use Rattle.acq_outside.specs.States.{IsTold}
use Rattle.journal_model.specs.Rest.{part_bytes}
use Rattle.update_model.specs.Trails.{IsFaultOr, answered}
use Rattle.update_model.specs.declared.ask.Closed.{Closed}
use Rattle.update_model.specs.declared.ask.Closed.TheVariants.{Served, Not}
use Rattle.acq_base.specs.declared.fetch.NotServed.TheVariants.{Moved, Absent, TooBig, Garbled, Fault}
use Rattle.job_fetch.specs.Fetched.{IsAnswer, IsCounted, IsSoundEnd, LeavesFile, ask_of}
use Rattle.job_fetch.specs.Hearing.{ComesTo}

abbrev Telling : Option MirrorMap → Job → Reply → Type 0
Telling world job reply = IfSome world (λ entries. IsReplyOf (answer_at entries job.uri) job reply)

lifted : (world : Option MirrorMap) (front : List ℕ) (stage : Bool) (job : Job) (reply : Reply) (closed : Closed)
    → ((answer : Answer) → IsReplyOf answer job reply → IsFaultOr closed (answered front (ask_of stage job) answer)) → Telling world job reply → IsAnswer world front stage job closed
lifted None front stage job reply closed says tells = record { told = tt }
lifted (Some entries) front stage job reply closed says tells = record { told = says (answer_at entries job.uri) tells }

moved : (front : List ℕ) (stage : Bool) (job : Job) (place : Option Uri) (answer : Answer) → IsReplyOf answer job (replies.Not (Moved place)) → (Not (Moved place)) ≡ answered front (ask_of stage job) answer
moved front stage job place (answers.Served all) tells = absurd tells
moved front stage job place (answers.Moved to) tells = ap (λ p. (Not (Moved p))) tells
moved front stage job place (answers.Absent code) tells = absurd tells

moved_answer : (world : Option MirrorMap) (front : List ℕ) (stage : Bool) (job : Job) (place : Option Uri) → Telling world job (replies.Not (Moved place)) → IsAnswer world front stage job (Not (Moved place))
moved_answer world front stage job place = lifted world front stage job (replies.Not (Moved place)) (Not (Moved place)) (moved front stage job place)

absent : (front : List ℕ) (stage : Bool) (job : Job) (status : ℕ) → CanBegin job → (answer : Answer) → IsReplyOf answer job (replies.Not (Absent status)) → (Not (Absent status)) ≡ answered front (ask_of stage job) answer
absent front stage job status begins (answers.Served all) tells =
    let few : length all ≤ job.max = ⊎_elim (λ none. absurd (omega (arith, none, tells.1))) (λ below. omega (arith, below, tells.2)) begins in
    rw (le-leb (length all) job.max few, lt-ltb 0 job.from tells.1, le-leb (length all) job.from tells.2) (ap (λ s. (Not (Absent s))) tells.0)
absent front stage job status begins (answers.Moved to) tells = absurd tells
absent front stage job status begins (answers.Absent code) tells = ap (λ s. (Not (Absent s))) tells

absent_answer : (world : Option MirrorMap) (front : List ℕ) (stage : Bool) (job : Job) (status : ℕ) → CanBegin job → Telling world job (replies.Not (Absent status)) → IsAnswer world front stage job (Not (Absent status))
absent_answer world front stage job status begins = lifted world front stage job (replies.Not (Absent status)) (Not (Absent status)) (absent front stage job status begins)

too_big : (front : List ℕ) (stage : Bool) (job : Job) (answer : Answer) → IsReplyOf answer job (replies.Not TooBig) → (Not TooBig) ≡ answered front (ask_of stage job) answer
too_big front stage job (answers.Served all) tells = rw (lt-leb (length all) job.max tells) refl
too_big front stage job (answers.Moved to) tells = absurd tells
too_big front stage job (answers.Absent code) tells = absurd tells

too_big_answer : (world : Option MirrorMap) (front : List ℕ) (stage : Bool) (job : Job) → Telling world job (replies.Not TooBig) → IsAnswer world front stage job (Not TooBig)
too_big_answer world front stage job = lifted world front stage job (replies.Not TooBig) (Not TooBig) (too_big front stage job)

garbled : (front : List ℕ) (stage : Bool) (job : Job) (at : ℕ) (answer : Answer) → IsReplyOf answer job (replies.Not (Garbled at)) → (Not (Garbled at)) ≡ answered front (ask_of stage job) answer
garbled front stage job at (answers.Served all) tells = absurd tells
garbled front stage job at (answers.Moved to) tells = absurd tells
garbled front stage job at (answers.Absent code) tells = absurd tells

garbled_answer : (world : Option MirrorMap) (front : List ℕ) (stage : Bool) (job : Job) (at : ℕ) → Telling world job (replies.Not (Garbled at)) → IsAnswer world front stage job (Not (Garbled at))
garbled_answer world front stage job at = lifted world front stage job (replies.Not (Garbled at)) (Not (Garbled at)) (garbled front stage job at)

fault_answer : (world : Option MirrorMap) (front : List ℕ) (stage : Bool) (job : Job) (before after : ℕ) → IsAnswer world front stage job (Not (Fault before after))
fault_answer None front stage job before after = record { told = tt }
fault_answer (Some entries) front stage job before after = record { told = tt }

-- what wasn't served is the answer
pub not_answer : (world : Option MirrorMap) (front : List ℕ) (stage : Bool) (job : Job) (end : NotServed) → CanBegin job → Telling world job (replies.Not end) → IsAnswer world front stage job (Not end)
not_answer world front stage job (Moved place) begins = moved_answer world front stage job place
not_answer world front stage job (Absent status) begins = absent_answer world front stage job status begins
not_answer world front stage job TooBig begins = too_big_answer world front stage job
not_answer world front stage job (Garbled at) begins = garbled_answer world front stage job at
not_answer world front stage job (Fault before after) begins = λ tells. fault_answer world front stage job before after

pub not_counted : (before after : ℕ) (end : NotServed) → IsCountedReply before after (replies.Not end) → IsCounted before after (Not end)
not_counted before after (Moved place) is = is
not_counted before after (Absent status) is = is
not_counted before after TooBig is = is
not_counted before after (Garbled at) is = is
not_counted before after (Fault told_before told_after) is = is

pub not_sound : (end : NotServed) → IsSoundReply (replies.Not end) → IsSoundEnd (Not end)
not_sound (Moved place) is = is
not_sound (Absent status) is = tt
not_sound TooBig is = tt
not_sound (Garbled at) is = tt
not_sound (Fault before after) is = tt

-- what an end that served nothing leaves of the file
pub any_left : (from : ℕ) (name : List ℕ) (old new : List State) (closed : Closed) → (new ≡ old) ⊎ (IsTold new → from < length (part_bytes new name)) → LeavesFile from name old new closed
any_left from name old new (Served body) left = tt
any_left from name old new (Not end) left = left

-- what wasn't served came to no wrong place
pub no_file : (into : Option (List ℕ)) (now : List State) (end : NotServed) → ComesTo into now (Not end)
no_file None now end = tt
no_file (Some name) now end = tt

pub on_err : {T E : Type 0} {P : Type 0} (result : Result T E) → P → OnErr result P
on_err (Ok x) p = tt
on_err (Err e) p = p
