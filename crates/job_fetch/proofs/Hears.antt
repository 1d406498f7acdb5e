-- What has come of a fetch, and the disk, as it goes on from word to word.
use Rattle.std.proofs.Common.{◌≡◌, ◌⊎◌, ◌∙◌, ℕ, ◌+◌, ◌<◌, ◌≤◌, List, ◌++◌, length, length-append, length-take, take, append-nil, Option, Some, None, IfSome, inl, inr, ⊎_elim, refl, sym, ap, subst, arith}
use Rattle.std.proofs.lemmas.List.{drop_all}
use Rattle.acq_base.specs.Mirror.{MirrorMap, answer_at}
use Rattle.acq_base.specs.declared.fetch.Answer.{Answer}
use Rattle.acq_base.specs.declared.fetch.Answer.TheVariants as answers
use Rattle.acq_base.specs.declared.fetch.Job.{Job}
use Rattle.acq_outside.proofs.Going.{no_time}
use Rattle.acq_outside.specs.Crash.{State}
use Rattle.acq_outside.specs.States.{IsTold}
use Rattle.acq_outside.specs.Word.{IsPieceOf}
use Rattle.acq_outside.specs.declared.word.Word.{Word}
use Rattle.acq_outside.specs.declared.word.Word.TheVariants as words
use Rattle.journal_model.specs.Names.{partial}
use Rattle.journal_model.specs.Rest.{KeptAtRestSince, file_now, part_bytes}
use Rattle.partial_store.specs.Refinement.{PartOf, part_of}
use Rattle.update_model.specs.declared.ask.Closed.{Closed}
use Rattle.update_model.specs.declared.ask.Closed.TheVariants.{Served, Not}
use Rattle.job_fetch.specs.Fetched.{KeepsFront, LeavesFile, Staging}
use Rattle.job_fetch.specs.Hearing.{CanHear, HasCome, IsEndOf, IsFront, KeepsBytes, Touches, at_of, name_of}
use Rattle.job_fetch.specs.Others.{OthersLeftSince}
use Rattle.job_fetch.specs.declared.filling.Filling.{Filling as ListFile}
use Rattle.job_fetch.specs.declared.intake.Intake.{Intake}
use Rattle.job_fetch.specs.declared.intake.Intake.TheVariants.{Held, Unopened, Filling}
use Rattle.job_fetch.proofs.Fronts.{more_came}

-- ---- what has come

first : (answer : Answer) (part : List ℕ) (from : ℕ) (bytes : List ℕ) → bytes ≡ take from part → IsFront answer part from from bytes
first (answers.Served all) part from bytes is =
    is ∙ sym (ap (λ (l : List ℕ). take from part ++ l) (drop_all from (take from all) (omega (arith, length-take from all))) ∙ append-nil (take from part))
first (answers.Moved place) part from bytes is = tt
first (answers.Absent status) part from bytes is = tt

-- before the first piece
pub first_came : (world : Option MirrorMap) (part : List ℕ) (job : Job) (at : ℕ) (bytes : List ℕ) → at ≡ job.from → bytes ≡ take job.from part → HasCome world part job at bytes
first_came None part job at bytes same is = record { told = tt }
first_came (Some entries) part job at bytes same is =
    record { told = subst (λ n. IsFront (answer_at entries job.uri) part job.from n bytes) (sym same) (first (answer_at entries job.uri) part job.from bytes is) }

pub joined : (world : Option MirrorMap) (part : List ℕ) (job : Job) (bytes piece all : List ℕ) → all ≡ bytes ++ piece → job.from ≡ 0
    → IfSome world (λ entries. IsPieceOf (answer_at entries job.uri) (length bytes) piece) → HasCome world part job (length bytes) bytes → HasCome world part job (length all) all
joined world part job bytes piece all is from goes come =
    let long : length bytes + length piece ≡ length all = sym (ap length is ∙ length-append bytes piece) in
    let past : job.from ≤ length bytes = omega (arith, from) in
    subst (λ (n : ℕ). HasCome world part job n all) long
    (subst (λ (l : List ℕ). HasCome world part job (length bytes + length piece) l) (sym is) (more_came world part job (length bytes) bytes piece past goes come))

pub extended : (world : Option MirrorMap) (part : List ℕ) (job : Job) (old new : List State) (before after : ListFile) (piece given : List ℕ) → job.from ≤ before.part.len
    → after.part ≡ part_of before.part.name (before.part.len + length given) → given ≡ piece → (IsTold new → IsTold old)
    → (IsTold new → part_bytes new before.part.name ≡ part_bytes old before.part.name ++ given)
    → IfSome world (λ entries. IsPieceOf (answer_at entries job.uri) before.part.len piece)
    → (IsTold old → HasCome world part job before.part.len (part_bytes old before.part.name))
    → IsTold new → HasCome world part job after.part.len (part_bytes new after.part.name)
extended world part job old new before after piece given past grown same back bytes goes come told =
    let name : before.part.name ≡ after.part.name = sym (ap (λ (p : PartOf). p.name) grown) in
    let len : before.part.len + length piece ≡ after.part.len = ap (λ (l : List ℕ). before.part.len + length l) (sym same) ∙ sym (ap (λ (p : PartOf). p.len) grown) in
    let is : part_bytes old before.part.name ++ piece ≡ part_bytes new before.part.name = ap (λ (l : List ℕ). part_bytes old before.part.name ++ l) (sym same) ∙ sym (bytes told) in
    let more : HasCome world part job (before.part.len + length piece) (part_bytes old before.part.name ++ piece) =
    more_came world part job before.part.len (part_bytes old before.part.name) piece past goes (come (back told)) in
    subst (λ (n : List ℕ). HasCome world part job after.part.len (part_bytes new n)) name
    (subst (λ (n : ℕ). HasCome world part job n (part_bytes new before.part.name)) len
    (subst (λ (l : List ℕ). HasCome world part job (before.part.len + length piece) l) is more))

-- ---- what a word does to the disk

pub still_stages : (name : List ℕ) (old new : List State) → new ≡ old → Staging name old new
still_stages name old new is = record {
  moments = no_time old new (KeptAtRestSince old) is;
  others = λ other apart. ap (λ t. file_now t other) is;
  only = no_time old new (OthersLeftSince (partial name) old) is;
}

stages : (word : Word) (name : List ℕ) (old new : List State) → Touches word (Some name) old new → Staging name old new
stages (words.Piece place bytes) name old new touches = touches
stages (words.Done size) name old new touches = touches
stages (words.Not end) name old new touches = still_stages name old new touches
stages words.NoMemory name old new touches = still_stages name old new touches

-- what a word of a list's fetch does to the disk
pub word_stages : (word : Word) (into : Option (List ℕ)) (name : List ℕ) (old new : List State) → into ≡ Some name → Touches word into old new → Staging name old new
word_stages word into name old new is touches = stages word name old new (subst (λ n. Touches word n old new) is touches)

pub fronts_on : (name : List ℕ) (keep : ℕ) (old mid new : List State) → (IsTold new → IsTold mid) → KeepsFront name keep old mid → KeepsFront name keep mid new → KeepsFront name keep old new
fronts_on name keep old mid new before first later = record { front = λ told. later.front told ∙ first.front (before told); within = later.within }

-- the file reaches to where the next piece begins
pub reaches : (job : Job) (intake : Intake) (name : List ℕ) (now : List State) → name_of intake ≡ Some name → CanHear job now intake → job.from < at_of job intake → IsTold now → job.from < length (part_bytes now name)
reaches job (Held bytes) name now is can past told = absurd cc
reaches job (Unopened list) name now is can past told = absurd (omega (arith, past))
reaches job (Filling filling) name now is can past told =
    let named : filling.part.name ≡ name = cc in
    subst (λ n. job.from < length (part_bytes now n)) named (subst (λ (n : ℕ). job.from < n) (sym (can.fills.len told)) past)

pub kept_still : (job : Job) (intake : Intake) (now : List State) → CanHear job now intake → KeepsBytes (name_of intake) job.from now now
kept_still job (Held bytes) now can = refl
kept_still job (Unopened name) now can = record { front = λ told. refl; within = can.keep }
kept_still job (Filling filling) now can = record { front = λ told. refl; within = λ told. omega (arith, can.fills.len told, can.past) }

-- nothing done keeps the bytes that the job leaves out
pub still_keeps : (job : Job) (intake : Intake) (old new : List State) → new ≡ old → CanHear job old intake → KeepsBytes (name_of intake) job.from old new
still_keeps job intake old new is can = subst (λ t. KeepsBytes (name_of intake) job.from old t) (sym is) (kept_still job intake old can)

unserved : (name : List ℕ) (from : ℕ) (old mid new : List State) → new ≡ mid → (mid ≡ old) ⊎ (IsTold mid → from < length (part_bytes mid name)) → (new ≡ old) ⊎ (IsTold new → from < length (part_bytes new name))
unserved name from old mid new still (inl same) = inl (still ∙ same)
unserved name from old mid new still (inr past) = inr (subst (λ t. IsTold t → from < length (part_bytes t name)) (sym still) past)

left : (name : List ℕ) (from : ℕ) (into : Option (List ℕ)) (word : Word) (closed : Closed) (old mid new : List State) → IsEndOf word closed → Touches word into mid new
    → (mid ≡ old) ⊎ (IsTold mid → from < length (part_bytes mid name)) → LeavesFile from name old new closed
left name from into (words.Piece place bytes) closed old mid new ends touches so_far = absurd ends
left name from into (words.Done size) (Served body) old mid new ends touches so_far = tt
left name from into (words.Done size) (Not other) old mid new ends touches so_far = absurd ends
left name from into (words.Not end) (Served body) old mid new ends touches so_far = tt
left name from into (words.Not end) (Not other) old mid new ends touches so_far = unserved name from old mid new touches so_far
left name from into words.NoMemory closed old mid new ends touches so_far = absurd ends

-- what an end leaves of the list's file
pub end_leaves : (job : Job) (intake : Intake) (name : List ℕ) (word : Word) (closed : Closed) (old mid new : List State) → name_of intake ≡ Some name → CanHear job mid intake
    → IsEndOf word closed → Touches word (name_of intake) mid new → (mid ≡ old) ⊎ (job.from < at_of job intake) → LeavesFile job.from name old new closed
end_leaves job intake name word closed old mid new is can ends touches so_far =
    left name job.from (name_of intake) word closed old mid new ends touches
    (⊎_elim (λ same. inl same) (λ past. inr (reaches job intake name mid is can past)) so_far)
