-- The lists that a disk stands for.
use Rattle.std.proofs.Common.{◌≡◌, ℕ, Bool, true, false, if◌then◌else◌, List, [], ◌∷◌, Option, Some, None, refl, sym, ap, subst}
use Rattle.std.specs.Prelude.{unwrap_or}
use Rattle.acq_outside.specs.Crash.{AllSound, State, reads, trace_of}
use Rattle.acq_outside.specs.Disk.{Files}
use Rattle.acq_outside.specs.History.{Past}
use Rattle.acq_outside.specs.States.{ToldAs}
use Rattle.acq_outside.proofs.Crashes.{reads_left}
use Rattle.journal_model.specs.Names.{is_installed_name}
use Rattle.journal_model.specs.Reopen.{installed_now}
use Rattle.journal_model.specs.Rest.{IsAtRest, IsSynced}

-- ---- a disk at rest

-- so it stands for the lists with which it is at rest
rest-lists : (lists : Files) (trace : List State) → AllSound trace → ToldAs (IsAtRest lists) trace → installed_now trace ≡ lists
rest-lists lists [] sound rests = absurd rests
rest-lists lists (s ∷ past) sound rests = ap (λ (o : Option Files). unwrap_or o (λ name. None)) (rests.leaves (reads s) (reads_left s sound.0))

pub rests-so : (lists : Files) (trace : List State) → AllSound trace → ToldAs (IsAtRest lists) trace → (installed_now trace ≡ lists) × ToldAs (IsAtRest (installed_now trace)) trace
rests-so lists trace sound rests =
    let same = rest-lists lists trace sound rests in
    (same, subst (λ (l : Files). ToldAs (IsAtRest l) trace) (sym same) rests)

pub settled-at : (lists : Files) (trace : List State) → ToldAs (IsAtRest lists) trace → ToldAs IsSynced trace
settled-at lists [] rests = absurd rests
settled-at lists (s ∷ past) rests = rests.synced

-- ---- a new disk

abbrev new_past : Past
new_past = record { start = []; changes = [] }

new-settled : ToldAs IsSynced (trace_of new_past)
new-settled = λ name i wanted is. nothing is
  where
    nothing : {i : ℕ} → ◌≡◌ {A = Option ℕ} None (Some i) → {X : Type 0} → X
    nothing e = absurd (cc)

new-lists : (name : List ℕ) → installed_now (trace_of new_past) name ≡ None
new-lists name = by (is_installed_name name)
  where
    by : (c : Bool) → ◌≡◌ {A = Option (List ℕ)} (if c then None else None) None
    by true = refl
    by false = refl

pub begins-settled : (past : Past) → past ≡ new_past → ToldAs IsSynced (trace_of past)
begins-settled past is = subst (λ (p : Past). ToldAs IsSynced (trace_of p)) (sym is) new-settled

pub begins-empty : (past : Past) → past ≡ new_past → (name : List ℕ) → installed_now (trace_of past) name ≡ None
begins-empty past is name = subst (λ (p : Past). installed_now (trace_of p) name ≡ None) (sym is) (new-lists name)
