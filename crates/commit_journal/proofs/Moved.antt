-- One call after another, each of which goes from one state to the next.
use Rattle.std.proofs.Common.{List, ℕ, Result, Err}
use Rattle.acq_outside.specs.Crash.{State}
use Rattle.acq_outside.specs.States.{From}
use Rattle.journal_model.specs.Rest.{KeptAtRestSince}
use Rattle.commit_journal.specs.Opening.{Recovers, KeepsFilesBut}
use Rattle.commit_journal.specs.Moves.{Moves}
use Rattle.commit_journal.proofs.Recovers.{onwards}
use Rattle.commit_journal.proofs.Fills.{rests_on}
use Rattle.commit_journal.proofs.Others.{others_on}

-- a call that failed has done nothing that it was for
pub stopped : {T E U F : Type 0} (Keeps : List State → State → Type 0) (Others : List State → List State → Type 0) (Done Next : State → Type 0) (old new : List State) (result : Result T E) (e : F)
    → Moves Keeps Others Done old new result → Moves {T = U} Keeps Others Next old new (Err e)
stopped Keeps Others Done Next old new result e moves = record { moments = moves.moments; others = moves.others; done = tt }

pub recovers_on : {T E U F : Type 0} (Own : List ℕ → Type 0) (Mid Done : State → Type 0) (old mid new : List State) (first : Result T E) (result : Result U F)
    → Moves (From Recovers) (KeepsFilesBut Own) Mid old mid first → Moves (From Recovers) (KeepsFilesBut Own) Done mid new result → Moves (From Recovers) (KeepsFilesBut Own) Done old new result
recovers_on Own Mid Done old mid new first result before later = record {
  moments = onwards old mid new before.moments later.moments;
  others = others_on Own old mid new before.others later.others;
  done = later.done;
}

pub notes_on : {T E U F : Type 0} (Own : List ℕ → Type 0) (Mid Done : State → Type 0) (old mid new : List State) (first : Result T E) (result : Result U F)
    → Moves KeptAtRestSince (KeepsFilesBut Own) Mid old mid first → Moves KeptAtRestSince (KeepsFilesBut Own) Done mid new result → Moves KeptAtRestSince (KeepsFilesBut Own) Done old new result
notes_on Own Mid Done old mid new first result before later = record {
  moments = rests_on old mid new before.moments later.moments;
  others = others_on Own old mid new before.others later.others;
  done = later.done;
}
