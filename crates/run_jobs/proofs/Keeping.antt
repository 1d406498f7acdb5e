-- What a board wants of the lists on their way is there once a job has ended.
use Rattle.std.proofs.Common.{◌≡◌, ◌∙◌, ◌⊎◌, ◌≤◌, ℕ, zero, suc, List, [], ◌∷◌, ◌++◌, length, take, Option, Some, None, IfSome, refl, inl, inr, arith}
use Rattle.acq_base.specs.declared.uri.ListName.{ListName}
use Rattle.acq_outside.specs.Crash.{State}
use Rattle.acq_outside.specs.States.{IsTold, Since}
use Rattle.board_model.specs.Uses.{WantedPart, Resumes, Whole, Free, Falls, IsWholeOf, use_from}
use Rattle.job_fetch.specs.Fetched.{IsStagedBody, KeepsFront}
use Rattle.journal_model.specs.Names.{partial}
use Rattle.journal_model.specs.Rest.{KeptAtRestSince, part_bytes, part_file}
use Rattle.update_model.specs.Outcomes.{PartFiles}
use Rattle.update_model.specs.declared.ask.Body.TheVariants as bodies
use Rattle.update_model.specs.declared.ask.Closed.{Closed}
use Rattle.acq_base.specs.declared.fetch.NotServed.TheVariants as nots
use Rattle.update_model.specs.declared.ask.Closed.TheVariants as closings
use Rattle.acq_outside.proofs.Going.{no_time}
use Rattle.journal_model.proofs.Views.{partial_apart}
use Rattle.journal_model.proofs.Twice.{same_or_not}
use Rattle.run_jobs.specs.Coupling.{HasWantedPart, HasWantedParts}
use Rattle.run_jobs.specs.Fetching.{ComesTo, IsFetched, KeepsBytes}

pub told_back : (P : State → Type 0) (old now : List State) → Since old now P → IsTold now → IsTold old
told_back P [] now since told = rw (since.untold refl) at told
told_back P (s ∷ past) now since told = tt

-- a disk that told once still does
pub told_on : (P : State → Type 0) (old now : List State) → Since old now P → IsTold old → IsTold now
told_on P [] now since told = absurd told
told_on P (s ∷ past) now since told = by since.states since.joined
  where
    by : (states : List State) → now ≡ states ++ s ∷ past → IsTold now
    by [] joined = rw joined tt
    by (t ∷ states) joined = rw joined tt

pub moments_of : (staged : Option ListName) (old now : List State) → IsFetched staged old now → Since old now (KeptAtRestSince old)
moments_of None old now is = rw is (no_time old old (KeptAtRestSince old) refl)
moments_of (Some name) old now is = is.moments

keep_by : (from : ℕ) (wanted : WantedPart) (name first : List ℕ) (now : List State) → wanted ≡ use_from from → HasWantedPart wanted name first now → from ≤ length (part_bytes now name)
keep_by zero wanted name first now e holds = omega arith
keep_by (suc n) wanted name first now e holds = let h = rw e at holds in h.within

-- the bytes that a job leaves out are there
pub keep_of : (from : ℕ) (wanted : List ℕ → WantedPart) (name : List ℕ) (first : PartFiles) (now : List State) → wanted name ≡ use_from from → HasWantedParts wanted first now → IsTold now → from ≤ length (part_bytes now name)
keep_of from wanted name first now e uses told = keep_by from (wanted name) name (first name) now e (uses.each name told)

front_by : (from : ℕ) (wanted : WantedPart) (name first : List ℕ) (now : List State) → wanted ≡ use_from from → HasWantedPart wanted name first now → take from (part_bytes now name) ≡ take from first
front_by zero wanted name first now e holds = refl
front_by (suc n) wanted name first now e holds = let h = rw e at holds in h.front

-- and they are those that were there at first
pub front_is : (from : ℕ) (wanted : List ℕ → WantedPart) (name : List ℕ) (first : PartFiles) (now : List State) → wanted name ≡ use_from from → HasWantedParts wanted first now → IsTold now
    → take from (part_bytes now name) ≡ take from (first name)
front_is from wanted name first now e uses told = front_by from (wanted name) name (first name) now e (uses.each name told)

pub falls_holds : (before after : WantedPart) (name first : List ℕ) (now : List State) → Falls before after → HasWantedPart before name first now → HasWantedPart after name first now
falls_holds before after name first now (inl e) holds = rw e holds
falls_holds before after name first now (inr e) holds = rw e tt

-- a file that stays holds what it held
pub stays_holds : (wanted : WantedPart) (name first : List ℕ) (old now : List State) → part_file now name ≡ part_file old name → HasWantedPart wanted name first old → HasWantedPart wanted name first now
stays_holds (Resumes size) name first old now same holds = record { front = rw same holds.front; within = rw same holds.within }
stays_holds (Whole sum) name first old now same holds = record { bytes = holds.bytes; file = same ∙ holds.file; sums = holds.sums }
stays_holds Free name first old now same holds = tt

-- the file of a staged job, of which the first bytes stayed
pub kept_holds : (from : ℕ) (before : WantedPart) (name first : List ℕ) (old now : List State) → before ≡ use_from from → IsTold now → KeepsFront name from old now → HasWantedPart before name first old → HasWantedPart before name first now
kept_holds zero before name first old now e told keeps holds = rw e tt
kept_holds (suc n) before name first old now e told keeps holds =
    let h = rw e at holds in
    rw e (record { front = keeps.front told ∙ h.front; within = keeps.within told })

pub whole_holds : (staged : ListName) (name first : List ℕ) (closed : Closed) (after : WantedPart) (now : List State) → IsTold now → IsStagedBody staged.0 now closed → IsWholeOf (Some staged) closed name after → HasWantedPart after name first now
whole_holds staged name first (closings.Served (bodies.Bytes bytes)) after now told ends is = absurd is
whole_holds staged name first (closings.Served (bodies.Staged sum)) after now told ends is = rw is.1 (rw is.0 (ends told))
whole_holds staged name first (closings.Not (nots.Moved place)) after now told ends is = absurd is
whole_holds staged name first (closings.Not (nots.Absent status)) after now told ends is = absurd is
whole_holds staged name first (closings.Not nots.TooBig) after now told ends is = absurd is
whole_holds staged name first (closings.Not (nots.Garbled at)) after now told ends is = absurd is
whole_holds staged name first (closings.Not (nots.Fault a b)) after now told ends is = absurd is

-- what a board wants is there once a job has ended
pub uses_after : (staged : Option ListName) (from : ℕ) (closed : Closed) (wanted after : List ℕ → WantedPart) (first : PartFiles) (old now : List State) → IsFetched staged old now
    → KeepsBytes staged from old now → ComesTo staged now closed → IfSome staged (λ name. wanted name.0 ≡ use_from from)
    → ((name : List ℕ) → Falls (wanted name) (after name) ⊎ IsWholeOf staged closed name (after name)) → HasWantedParts wanted first old → HasWantedParts after first now
uses_after None from closed wanted after first old now fetched keeps comes e falls uses = record { each = λ name told. by name told (falls name) }
  where
    by : (name : List ℕ) → IsTold now → Falls (wanted name) (after name) ⊎ IsWholeOf None closed name (after name) → HasWantedPart (after name) name (first name) now
    by name told (inl f) = falls_holds (wanted name) (after name) name (first name) now f (rw fetched (uses.each name (rw fetched at told)))
    by name told (inr w) = absurd w
uses_after (Some staged) from closed wanted after first old now fetched keeps comes e falls uses = record { each = λ name told. by name told (falls name) (same_or_not name staged.0) }
  where
    by : (name : List ℕ) → IsTold now → Falls (wanted name) (after name) ⊎ IsWholeOf (Some staged) closed name (after name) → (name ≡ staged.0) ⊎ ((name ≡ staged.0) → ⊥) → HasWantedPart (after name) name (first name) now
    by name told (inr w) is = whole_holds staged name (first name) closed (after name) now told comes w
    by name told (inl f) (inl same) = falls_holds (wanted name) (after name) name (first name) now f
        (kept_holds from (wanted name) name (first name) old now (rw same e) told (rw same keeps) (uses.each name (told_back (KeptAtRestSince old) old now fetched.moments told)))
    by name told (inl f) (inr apart) = falls_holds (wanted name) (after name) name (first name) now f
        (stays_holds (wanted name) name (first name) old now (fetched.others (partial name) (partial_apart name staged.0 apart)) (uses.each name (told_back (KeptAtRestSince old) old now fetched.moments told)))
