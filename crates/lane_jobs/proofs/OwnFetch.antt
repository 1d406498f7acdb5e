-- A job that the coordinator's own method fetches, word after word.
use Rattle.std.specs.Prelude.{is_some}
use Rattle.std.proofs.Common.{◌≡◌, ◌⊎◌, ◌∙◌, ℕ, ◌<◌, List, [], ◌∷◌, slice_index, slice_index_or, slice_set, Option, Some, None, IfSome, IsSome, inl, inr, refl, sym, ap, subst, arith}
use Rattle.acq_base.specs.Mirror.{MirrorMap}
use Rattle.acq_base.specs.declared.fetch.Job.{Job}
use Rattle.acq_outside.specs.Count.{one_more}
use Rattle.acq_outside.specs.Crash.{State}
use Rattle.acq_outside.specs.States.{IsTold}
use Rattle.acq_outside.specs.Word.{IsSoundWord, IsWord, begun}
use Rattle.acq_outside.specs.declared.word.Fetch.{Fetch}
use Rattle.acq_outside.specs.declared.word.Word.{Word}
use Rattle.acq_outside.specs.declared.word.Word.TheVariants as words
use Rattle.job_fetch.specs.Fetched.{IsAnswer, LeavesFile}
use Rattle.job_fetch.specs.Hearing.{CanHear, ChangesFile, ComesTo, Ends, HasComeIn, Hears, IsEndOf, KeepsBytes, LeadsTo, RestsOn, Touches, at_of, fetch_of, name_of}
use Rattle.job_fetch.specs.declared.intake.Heard.TheVariants.{More, Last}
use Rattle.job_fetch.specs.declared.intake.Intake.{Intake}
use Rattle.job_fetch.proofs.Fillings.{staging_more, told_before}
use Rattle.job_fetch.proofs.Hears.{end_leaves, fronts_on, kept_still, still_stages}
use Rattle.job_fetch.proofs.Words.{leads_on, next_word, past_front}
use Rattle.lane_pool.specs.Pool.{OthersStay, Pool, own_begins, own_count, own_fetch, own_world}
use Rattle.update_model.specs.declared.ask.Body.TheVariants.{Bytes, Staged}
use Rattle.update_model.specs.declared.ask.Closed.{Closed}
use Rattle.update_model.specs.declared.ask.Closed.TheVariants.{Served, Not}
use Rattle.lane_jobs.specs.Answering.{IsAnswered, LeavesList}

-- ---- the lanes

set_again : {A : Type 0} (xs : List A) (x y : A) → slice_set (slice_set xs 0 x) 0 y ≡ slice_set xs 0 y
set_again [] x y = refl
set_again (z ∷ zs) x y = refl

-- one call of the own method after another
pub others_more : (a b c : Pool) → OthersStay a b → OthersStay b c → OthersStay a c
others_more a b c first later = record {
  count = omega (arith, first.count, later.count);
  worlds = later.worlds ∙ first.worlds;
  counts = later.counts ∙ ap (λ (l : List ℕ). slice_set l 0 (own_count c)) first.counts ∙ set_again a.counts (own_count b) (own_count c);
  outs = later.outs ∙ ap (λ (l : List (Option Fetch)). slice_set l 0 (own_fetch c)) first.outs ∙ set_again a.outs (own_fetch b) (own_fetch c);
  begins = later.begins ∙ ap (λ (l : List ℕ). slice_set l 0 (own_begins c)) first.begins ∙ set_again a.begins (own_begins b) (own_begins c);
}

-- ---- the disk

pub still_changes : (into : Option (List ℕ)) (old new : List State) → new ≡ old → ChangesFile into old new
still_changes None old new is = is
still_changes (Some name) old new is = still_stages name old new is

pub word_changes : (word : Word) (into : Option (List ℕ)) (old new : List State) → Touches word into old new → ChangesFile into old new
word_changes (words.Piece place bytes) into old new touches = touches
word_changes (words.Done size) into old new touches = touches
word_changes (words.Not end) into old new touches = still_changes into old new touches
word_changes words.NoMemory into old new touches = still_changes into old new touches

pub changes_more : (into : Option (List ℕ)) (old mid new : List State) → ChangesFile into old mid → ChangesFile into mid new → ChangesFile into old new
changes_more None old mid new first later = later ∙ first
changes_more (Some name) old mid new first later = staging_more name old mid new first later

-- a disk that tells now told before
pub tells_before : (into : Option (List ℕ)) (old new : List State) → ChangesFile into old new → IsTold new → IsTold old
tells_before None old new same told = subst IsTold same told
tells_before (Some name) old new staging told = told_before old new staging.moments told

pub keeps_more : (into : Option (List ℕ)) (keep : ℕ) (old mid new : List State) → (IsTold new → IsTold mid) → KeepsBytes into keep old mid → KeepsBytes into keep mid new → KeepsBytes into keep old new
keeps_more None keep old mid new before first later = later ∙ first
keeps_more (Some name) keep old mid new before first later = fronts_on name keep old mid new before first later

-- what an answer leaves of a list's file
leaves_list : (name : List ℕ) (from : ℕ) (old now : List State) (closed : Closed) → ComesTo (Some name) now closed → LeavesFile from name old now closed → LeavesList (Some name) from old now closed
leaves_list name from old now (Served (Bytes bytes)) comes leaves told = absurd comes
leaves_list name from old now (Served (Staged sum)) comes leaves told = inr (comes told)
leaves_list name from old now (Not end) comes (inl same) told = inl (same, λ no. no)
leaves_list name from old now (Not end) comes (inr past) told = inr (past told)

pub list_left : (job : Job) (intake : Intake) (into : Option (List ℕ)) (word : Word) (closed : Closed) (old mid new : List State) → name_of intake ≡ into → CanHear job mid intake
    → IsEndOf word closed → Touches word (name_of intake) mid new → (mid ≡ old) ⊎ (job.from < at_of job intake) → ComesTo into new closed → LeavesList into job.from old new closed
list_left job intake None word closed old mid new is can ends touches so_far comes = tt
list_left job intake (Some name) word closed old mid new is can ends touches so_far comes =
    leaves_list name job.from old new closed comes (end_leaves job intake name word closed old mid new is can ends touches so_far)

-- ---- word after word

-- what holds before each word
pub record IsOwn (job : Job) (first : Intake) (asked now : Pool) (old disk : List State) (intake : Intake) (word : Word) : Type 0 where
  pub own : OthersStay asked now
  pub begins : own_begins now ≡ one_more (own_begins asked)
  pub sound : IsSoundWord word
  pub says : IsWord (own_count asked) (own_count now) (own_world asked) (fetch_of job intake) (own_fetch now) word
  pub can : CanHear job disk intake
  pub into : name_of intake ≡ name_of first
  pub changes : ChangesFile (name_of first) old disk
  pub kept : KeepsBytes (name_of first) job.from old disk
  pub fresh : (disk ≡ old) ⊎ (job.from < at_of job intake)
  pub come : (part : List ℕ) → HasComeIn (own_world asked) part job old first → HasComeIn (own_world asked) part job disk intake

pub own_begun : (job : Job) (first : Intake) (asked now : Pool) (disk : List State) (word : Word) → at_of job first ≡ job.from → CanHear job disk first
    → OthersStay asked now → own_begins now ≡ one_more (own_begins asked) → IsSoundWord word
    → IsWord (own_count asked) (own_count now) (own_world asked) (begun job) (own_fetch now) word → IsOwn job first asked now disk disk first word
own_begun job first asked now disk word nothing can own begins sound says = record {
  own = own;
  begins = begins;
  sound = sound;
  says = subst (λ (at : ℕ). IsWord (own_count asked) (own_count now) (own_world asked) (record { job = job; at = at }) (own_fetch now) word) (sym nothing) says;
  can = can;
  into = refl;
  changes = still_changes (name_of first) disk disk refl;
  kept = kept_still job first disk can;
  fresh = inl refl;
  come = λ part has. has;
}

-- the disk behind a word
pub own_changes : (job : Job) (first : Intake) (asked now : Pool) (old mid new : List State) (intake : Intake) (word : Word)
    → IsOwn job first asked now old mid intake word → Touches word (name_of intake) mid new → ChangesFile (name_of first) old new
own_changes job first asked now old mid new intake word so_far touches =
    changes_more (name_of first) old mid new so_far.changes (word_changes word (name_of first) mid new (subst (λ n. Touches word n mid new) so_far.into touches))

own_kept : (job : Job) (first : Intake) (asked now : Pool) (old mid new : List State) (intake : Intake) (word : Word)
    → IsOwn job first asked now old mid intake word → Touches word (name_of intake) mid new → KeepsBytes (name_of intake) job.from mid new → KeepsBytes (name_of first) job.from old new
own_kept job first asked now old mid new intake word so_far touches kept =
    let changed = word_changes word (name_of first) mid new (subst (λ n. Touches word n mid new) so_far.into touches) in
    keeps_more (name_of first) job.from old mid new (tells_before (name_of first) mid new changed) so_far.kept (subst (λ n. KeepsBytes n job.from mid new) so_far.into kept)

-- what is under way behind a piece
pub own_under_way : (job : Job) (first : Intake) (asked now : Pool) (old mid new : List State) (intake next : Intake) (word : Word)
    → IsOwn job first asked now old mid intake word → LeadsTo job intake word new (More next) → IsSome (own_fetch now)
own_under_way job first asked now old mid new intake next word so_far leads =
    let on = leads_on (own_count asked) (own_count now) (own_world asked) (fetch_of job intake) (fetch_of job next) (own_fetch now) word so_far.says leads.1 in
    subst (λ (f : Option Fetch). IsSome f) (sym on.under_way) refl

-- the next word, once what came before it is heard
pub own_on : (job : Job) (first : Intake) (asked now later : Pool) (old mid new : List State) (intake next : Intake) (word said : Word)
    → IsOwn job first asked now old mid intake word → Touches word (name_of intake) mid new → KeepsBytes (name_of intake) job.from mid new → LeadsTo job intake word new (More next)
    → ((part : List ℕ) → HasComeIn (own_world asked) part job mid intake → HasComeIn (own_world asked) part job new next)
    → OthersStay now later → later.begins ≡ now.begins → IsSoundWord said
    → IfSome (own_fetch now) (λ f. IsWord (own_count now) (own_count later) (own_world now) f (own_fetch later) said)
    → IsOwn job first asked later old new next said
own_on job first asked now later old mid new intake next word said so_far touches kept leads hears frame same sound says =
    let on = leads_on (own_count asked) (own_count now) (own_world asked) (fetch_of job intake) (fetch_of job next) (own_fetch now) word so_far.says leads.1 in
    record {
      own = others_more asked now later so_far.own frame;
      begins = ap (λ (l : List ℕ). slice_index l 0) same ∙ so_far.begins;
      sound = sound;
      says = next_word (own_count asked) (own_count now) (own_count later) (own_world asked) (own_world now) (fetch_of job intake) (fetch_of job next) (own_fetch now) (own_fetch later) said on
          (ap (λ (l : List (Option MirrorMap)). slice_index_or l 0 None) so_far.own.worlds) says;
      can = leads.2;
      into = leads.0 ∙ so_far.into;
      changes = own_changes job first asked now old mid new intake word so_far touches;
      kept = own_kept job first asked now old mid new intake word so_far touches kept;
      fresh = inr (omega (arith, past_front job intake mid so_far.can, on.further));
      come = λ part has. hears part (so_far.come part has);
    }

-- the last word
pub own_answered : (job : Job) (first : Intake) (asked now : Pool) (old mid new : List State) (intake : Intake) (word : Word) (closed : Closed) (part : List ℕ)
    → IsOwn job first asked now old mid intake word → Touches word (name_of intake) mid new → KeepsBytes (name_of intake) job.from mid new → LeadsTo job intake word new (Last closed)
    → Ends (own_count asked) (own_count now) intake new (Last closed) → Hears (own_world asked) part job intake new (Last closed)
    → IsAnswered (own_world asked) part job (name_of first) (own_count asked) (own_count now) old new closed
own_answered job first asked now old mid new intake word closed part so_far touches kept leads ends hears =
    let comes : ComesTo (name_of first) new closed = subst (λ n. ComesTo n new closed) so_far.into ends.0 in
    let Rested : Option (List ℕ) → Type 0 = λ n. RestsOn n new closed → IsAnswer (own_world asked) part (is_some n) job closed in
    record {
      counted = ends.1;
      count = so_far.own.count;
      sound = leads.2 so_far.sound;
      changes = own_changes job first asked now old mid new intake word so_far touches;
      kept = own_kept job first asked now old mid new intake word so_far touches kept;
      comes = comes;
      left = list_left job intake (name_of first) word closed old mid new so_far.into so_far.can leads.1 touches so_far.fresh comes;
      answer = subst Rested so_far.into hears;
    }
