-- A call leaves the files of all names but its own as they are.
use Rattle.std.proofs.Common.{◌≡◌, ◌≢◌, inl, inr, refl, sym, ap, ◌∙◌, subst, ℕ, List, [], ◌∷◌, Option, Some, None, option_map, Result, Ok, Err}
use Rattle.acq_outside.specs.Crash.{State, Names, IsSound, AllSound, IsTorn, Goes, after, changed_file, with_change, file_at, names_of, all_renamed, renamed, with_name, moved_name}
use Rattle.acq_outside.proofs.Traces.{all_push}
use Rattle.acq_outside.specs.declared.change.DiskCall.{DiskCall}
use Rattle.acq_outside.specs.declared.change.DiskCall.TheVariants.{Write, Cut, Sync, Rename, Remove, SyncNames}
use Rattle.acq_outside.specs.declared.state.FileState.{FileState}
use Rattle.acq_outside.specs.declared.state.NameChange.{NameChange}
use Rattle.acq_outside.specs.declared.state.NameChange.TheVariants.{Moved, Removed}
use Rattle.journal_model.specs.Names.{journal, new_journal}
use Rattle.journal_model.specs.Rest.{file_named, file_now}
use Rattle.journal_model.proofs.Twice.{with_other}
use Rattle.journal_model.specs.Steps.{IsIn}
use Rattle.journal_model.proofs.Aside.{IsOn, call_changes, torn_changes, other_file}
use Rattle.journal_model.specs.declared.step.Step.{Step}
use Rattle.journal_model.specs.declared.step.Step.TheVariants.{Put, Drop}
use Rattle.commit_journal.specs.Opening.{KeepsFilesBut}
use Rattle.commit_journal.specs.Phases.{IsOfCommit, IsOfMaking, call_of}

-- a call's own names
abbrev pub Owns : (List ℕ → Type 0) → DiskCall → Type 0
Owns Own (Write name at bytes) = Own name
Owns Own (Cut name len) = Own name
Owns Own (Sync name) = Own name
Owns Own (Rename from to) = Own from × Own to
Owns Own (Remove name) = Own name
Owns Own SyncNames = Unit {0}

apart : (Own : List ℕ → Type 0) (name other : List ℕ) → Own name → (Own other → ⊥) → other ≢ name
apart Own name other own away same = away (subst Own (sym same) own)

-- what a call on one file's content leaves
content_after : (Own : List ℕ → Type 0) (own : List ℕ) (s : State) (call : DiskCall) (name : List ℕ) → IsOn own call → Own own → IsSound s → (Own name → ⊥) → file_named (after s call) name ≡ file_named s name
content_after Own own s call name on owns sound away = other_file own (changed_file s call) s (after s call) (call_changes own s call sound on) name (apart Own own name owns away)

content_torn : (Own : List ℕ → Type 0) (own : List ℕ) (s torn : State) (call : DiskCall) (name : List ℕ) → IsOn own call → Own own → IsSound s → (Own name → ⊥) → IsTorn (changed_file s call) (after s call) torn
    → file_named torn name ≡ file_named s name
content_torn Own own s torn call name on owns sound away part =
    other_file own (changed_file s call) s torn (torn_changes own (changed_file s call) s (after s call) torn (call_changes own s call sound on) part) name (apart Own own name owns away)

-- what a change of names leaves
moved_away : (m : Names) (from to : List ℕ) (x : Option ℕ) (name : List ℕ) → from ≢ name → to ≢ name → moved_name m from to x name ≡ m name
moved_away m from to None name f t = refl
moved_away m from to (Some i) name f t = with_other (with_name m from None) to (Some i) name t ∙ with_other m from None name f

changed_away : (s : State) (o : Option ℕ) (change : NameChange) (name : List ℕ) → renamed (names_of s) change name ≡ names_of s name → file_named (with_change s o change) name ≡ file_named s name
changed_away s None change name away = refl
changed_away s (Some i) change name away = ap (option_map (file_at s.files)) (ap (λ (m : Names). m name) (all_push s.base s.pending change) ∙ away)

pub torn_as_done : (done torn : State) → IsTorn None done torn → (name : List ℕ) → file_named torn name ≡ file_named done name
torn_as_done done torn part name = ap (λ (m : Names). option_map (file_at torn.files) (m name)) names ∙ at (names_of done name)
  where
    names : names_of torn ≡ names_of done
    names = ap (λ (l : List NameChange). all_renamed torn.base l) part.pending ∙ ap (λ (m : Names). all_renamed m done.pending) part.base

    at : (o : Option ℕ) → option_map (file_at torn.files) o ≡ option_map (file_at done.files) o
    at None = refl
    at (Some i) = ap (λ (f : FileState). Some f) (part.others i (λ is. absurd cc))

names_after : (Own : List ℕ → Type 0) (s : State) (from to name : List ℕ) → Own from → Own to → (Own name → ⊥) → file_named (after s (Rename from to)) name ≡ file_named s name
names_after Own s from to name own_from own_to away =
    changed_away s (names_of s from) (Moved from to) name (moved_away (names_of s) from to (names_of s from) name (λ is. away (subst Own is own_from)) (λ is. away (subst Own is own_to)))

gone_after : (Own : List ℕ → Type 0) (s : State) (gone name : List ℕ) → Own gone → (Own name → ⊥) → file_named (after s (Remove gone)) name ≡ file_named s name
gone_after Own s gone name own away = changed_away s (names_of s gone) (Removed gone) name (with_other (names_of s) gone None name (λ is. away (subst Own is own)))

file_after : (Own : List ℕ → Type 0) (s : State) (call : DiskCall) (name : List ℕ) → Owns Own call → IsSound s → (Own name → ⊥) → file_named (after s call) name ≡ file_named s name
file_after Own s (Write own at bytes) name owns sound away = content_after Own own s (Write own at bytes) name refl owns sound away
file_after Own s (Cut own len) name owns sound away = content_after Own own s (Cut own len) name refl owns sound away
file_after Own s (Sync own) name owns sound away = content_after Own own s (Sync own) name refl owns sound away
file_after Own s (Rename from to) name owns sound away = names_after Own s from to name owns.0 owns.1 away
file_after Own s (Remove gone) name owns sound away = gone_after Own s gone name owns away
file_after Own s SyncNames name owns sound away = refl

file_torn : (Own : List ℕ → Type 0) (s torn : State) (call : DiskCall) (name : List ℕ) → Owns Own call → IsSound s → (Own name → ⊥) → IsTorn (changed_file s call) (after s call) torn → file_named torn name ≡ file_named s name
file_torn Own s torn (Write own at bytes) name owns sound away part = content_torn Own own s torn (Write own at bytes) name refl owns sound away part
file_torn Own s torn (Cut own len) name owns sound away part = content_torn Own own s torn (Cut own len) name refl owns sound away part
file_torn Own s torn (Sync own) name owns sound away part = content_torn Own own s torn (Sync own) name refl owns sound away part
file_torn Own s torn (Rename from to) name owns sound away part = torn_as_done (after s (Rename from to)) torn part name ∙ names_after Own s from to name owns.0 owns.1 away
file_torn Own s torn (Remove gone) name owns sound away part = torn_as_done (after s (Remove gone)) torn part name ∙ gone_after Own s gone name owns away
file_torn Own s torn SyncNames name owns sound away part = torn_as_done (after s SyncNames) torn part name

-- a call, over all that a disk has been
pub call_leaves : {T E : Type 0} (Own : List ℕ → Type 0) (call : DiskCall) (old new : List State) (result : Result T E) → Owns Own call → AllSound old → Goes call old new result → KeepsFilesBut Own old new
call_leaves Own call [] new (Ok x) owns sound is = record { same = λ name away. ap (λ (l : List State). file_now l name) is }
call_leaves Own call [] new (Err e) owns sound is = record { same = λ name away. ap (λ (l : List State). file_now l name) is }
call_leaves Own call (s ∷ past) new (Ok x) owns sound is = record { same = λ name away. ap (λ (l : List State). file_now l name) is ∙ file_after Own s call name owns sound.0 away }
call_leaves Own call (s ∷ past) new (Err e) owns sound (inl same) = record { same = λ name away. ap (λ (l : List State). file_now l name) same }
call_leaves Own call (s ∷ past) new (Err e) owns sound (inr part) = record { same = λ name away. ap (λ (l : List State). file_now l name) part.2 ∙ file_torn Own s part.0 call name owns sound.0 away part.1 }

-- one call after another
pub others_on : (Own : List ℕ → Type 0) (old mid new : List State) → KeepsFilesBut Own old mid → KeepsFilesBut Own mid new → KeepsFilesBut Own old new
others_on Own old mid new first later = record { same = λ name away. later.same name away ∙ first.same name away }

-- a step's call is the commit's own
pub owns_step : (steps : List Step) (step : Step) → IsIn step steps → Owns (IsOfCommit steps) (call_of step)
owns_step steps (Put list) is = (inr (Put list, is, inr refl), inr (Put list, is, inl refl))
owns_step steps (Drop list) is = inr (Drop list, is, refl)

pub journal_write : {T E : Type 0} (steps : List Step) (name : List ℕ) (at : ℕ) (bytes : List ℕ) (old new : List State) (result : Result T E) → name ≡ journal → AllSound old → Goes (Write name at bytes) old new result → KeepsFilesBut (IsOfCommit steps) old new
journal_write steps name at bytes old new result is sound goes = call_leaves (IsOfCommit steps) (Write name at bytes) old new result (inl is) sound goes

pub journal_cut : {T E : Type 0} (steps : List Step) (name : List ℕ) (len : ℕ) (old new : List State) (result : Result T E) → name ≡ journal → AllSound old → Goes (Cut name len) old new result → KeepsFilesBut (IsOfCommit steps) old new
journal_cut steps name len old new result is sound goes = call_leaves (IsOfCommit steps) (Cut name len) old new result (inl is) sound goes

pub journal_sync : {T E : Type 0} (steps : List Step) (name : List ℕ) (old new : List State) (result : Result T E) → name ≡ journal → AllSound old → Goes (Sync name) old new result → KeepsFilesBut (IsOfCommit steps) old new
journal_sync steps name old new result is sound goes = call_leaves (IsOfCommit steps) (Sync name) old new result (inl is) sound goes

pub names_sync : {T E : Type 0} (steps : List Step) (old new : List State) (result : Result T E) → AllSound old → Goes SyncNames old new result → KeepsFilesBut (IsOfCommit steps) old new
names_sync steps old new result sound goes = call_leaves (IsOfCommit steps) SyncNames old new result tt sound goes

-- a new journal is made beside
pub beside_write : {T E : Type 0} (name : List ℕ) (at : ℕ) (bytes : List ℕ) (old new : List State) (result : Result T E) → name ≡ new_journal → AllSound old → Goes (Write name at bytes) old new result → KeepsFilesBut IsOfMaking old new
beside_write name at bytes old new result is sound goes = call_leaves IsOfMaking (Write name at bytes) old new result (inr is) sound goes

pub beside_cut : {T E : Type 0} (name : List ℕ) (len : ℕ) (old new : List State) (result : Result T E) → name ≡ new_journal → AllSound old → Goes (Cut name len) old new result → KeepsFilesBut IsOfMaking old new
beside_cut name len old new result is sound goes = call_leaves IsOfMaking (Cut name len) old new result (inr is) sound goes

pub beside_sync : {T E : Type 0} (name : List ℕ) (old new : List State) (result : Result T E) → name ≡ new_journal → AllSound old → Goes (Sync name) old new result → KeepsFilesBut IsOfMaking old new
beside_sync name old new result is sound goes = call_leaves IsOfMaking (Sync name) old new result (inr is) sound goes

pub beside_named : {T E : Type 0} (from to : List ℕ) (old new : List State) (result : Result T E) → from ≡ new_journal → to ≡ journal → AllSound old → Goes (Rename from to) old new result → KeepsFilesBut IsOfMaking old new
beside_named from to old new result is_from is_to sound goes = call_leaves IsOfMaking (Rename from to) old new result (inr is_from, inl is_to) sound goes

pub beside_lasts : {T E : Type 0} (old new : List State) (result : Result T E) → AllSound old → Goes SyncNames old new result → KeepsFilesBut IsOfMaking old new
beside_lasts old new result sound goes = call_leaves IsOfMaking SyncNames old new result tt sound goes
