-- What a change of one list's file leaves, and rows that are changed twice.
use Rattle.std.proofs.Common.{◌≡◌, ◌≢◌, ◌∙◌, ℕ, zero, suc, false, List, [], ◌∷◌, Option, Some, None, refl, sym, ap, subst}
use Rattle.std.specs.Prelude.{slice_get}
use Rattle.acq_outside.proofs.Going.{no_time}
use Rattle.acq_outside.specs.Crash.{State}
use Rattle.acq_outside.specs.States.{Since}
use Rattle.board_model.specs.Slots.{joined}
use Rattle.host_queues.specs.Lanes.{changed_at}
use Rattle.job_fetch.specs.Hearing.{ChangesFile}
use Rattle.journal_model.specs.Names.{is_partial, partial}
use Rattle.journal_model.specs.Rest.{KeptAtRestSince}
use Rattle.lane_jobs.specs.Going.{KeepsWholeFiles}
use Rattle.lane_jobs.specs.JobsOut.{JobsOut, with_row}
use Rattle.lane_jobs.specs.declared.transfers.Transfer.{Transfer}

pub change_moments : (into : Option (List ℕ)) (old now : List State) → ChangesFile into old now → Since old now (KeptAtRestSince old)
change_moments None old now is = no_time old now (KeptAtRestSince old) is
change_moments (Some name) old now is = is.moments

part_other : (own name : List ℕ) → is_partial name ≡ false → name ≢ partial own
part_other own name whole is = let wrong : is_partial (partial own) ≡ false = subst (λ (n : List ℕ). is_partial n ≡ false) is whole in absurd (cc)

pub change_whole : (into : Option (List ℕ)) (old now : List State) → ChangesFile into old now → KeepsWholeFiles old now
change_whole None old now is = λ name whole. rw is refl
change_whole (Some own) old now is = λ name whole. is.others name (part_other own name whole)

-- ---- rows

changed_twice : {A : Type 0} (xs : List A) (k : ℕ) (x y : A) → changed_at k (λ was. y) (changed_at k (λ was. x) xs) ≡ changed_at k (λ was. y) xs
changed_twice [] k x y = refl
changed_twice (z ∷ xs) zero x y = refl
changed_twice (z ∷ xs) (suc k) x y = ap (λ (zs : List _). z ∷ zs) (changed_twice xs k x y)

pub row_twice : (k : ℕ) (x y : Option Transfer) (jobs : JobsOut) → with_row k y (with_row k x jobs) ≡ with_row k y jobs
row_twice k x y jobs = ap (λ (rows : List (Option Transfer)). record { rows = rows; alone = jobs.alone }) (changed_twice jobs.rows k x y)

there : {A : Type 0} (o : Option (Option A)) (x : A) → joined o ≡ Some x → o ≡ Some (Some x)
there None x is = absurd (cc)
there (Some o) x is = ap (λ (p : Option _). Some p) is

-- what was taken of a row stood there
pub taken_there : (jobs : JobsOut) (k : ℕ) (o : Option Transfer) (t : Transfer) → o ≡ joined (slice_get jobs.rows k) → o ≡ Some t → slice_get jobs.rows k ≡ Some (Some t)
taken_there jobs k o t taken is = there (slice_get jobs.rows k) t (sym taken ∙ is)

pub none_taken : (jobs : JobsOut) (k : ℕ) (o : Option Transfer) → o ≡ joined (slice_get jobs.rows k) → o ≡ None → (t : Transfer) → slice_get jobs.rows k ≡ Some (Some t) → ⊥
none_taken jobs k o taken is t at = let both : Some t ≡ None = sym (ap joined at) ∙ (sym taken ∙ is) in absurd (cc)

-- two that stand there are one
pub one_there : (jobs : JobsOut) (k : ℕ) (t x : Transfer) → slice_get jobs.rows k ≡ Some (Some t) → slice_get jobs.rows k ≡ Some (Some x) → t ≡ x
one_there jobs k t x here also = let both : Some (Some t) ≡ Some (Some x) = sym here ∙ also in cc
