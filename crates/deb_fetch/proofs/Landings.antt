-- Calls on a folder into which a package file is fetched, over all that the folder has been.
use Rattle.std.proofs.Common.{◌≡◌, ◌≢◌, inl, inr, refl, sym, ap, ◌∙◌, subst, ℕ, Bool, true, List, [], ◌∷◌, Option, Some, None, IsSomeAnd, option_map, Result, Ok, Err, OnOk, IfOk, IsTrue, ◌↔◌}
use Rattle.std.proofs.lemmas.Bool.{false≢true}
use Rattle.acq_base.specs.Sum.{Fits}
use Rattle.acq_base.specs.declared.sum.Sum.{Sum}
use Rattle.acq_outside.specs.Disk.{Files}
use Rattle.acq_outside.specs.Crash.{State, AllSound, Goes, IsShown, IsSound, IsTorn, after, all_renamed, changed_file, file_at, names_of}
use Rattle.acq_outside.specs.States.{From, IsNow, IsTold}
use Rattle.acq_outside.proofs.Going.{goes, no_time, onward, since_map}
use Rattle.acq_outside.specs.declared.change.DiskCall.{DiskCall}
use Rattle.acq_outside.specs.declared.change.DiskCall.TheVariants.{Rename, Sync, SyncNames}
use Rattle.acq_outside.specs.declared.state.FileState.{FileState}
use Rattle.journal_model.specs.Names.{partial}
use Rattle.journal_model.specs.Rest.{KeptAtRestSince, file_named, file_now}
use Rattle.journal_model.proofs.Aside.{reads_named}
use Rattle.journal_model.proofs.Twice.{partial_other}
use Rattle.job_fetch.specs.Fetched.{LastsAs, Staging}
use Rattle.job_fetch.specs.Others.{AllChangeNameAlone, LeavesOthers, OthersLeftSince}
use Rattle.deb_fetch.specs.Landing.{HasLanded, IsReady, IsSettled, IsSteady, KeepsOthers, Lands, LandsWhole, LandsWholeSince, LeavesWhole, MayLand}
use Rattle.deb_fetch.proofs.States.{lands_by_steps, names_land, names_ready, names_whole, rename_landed, rename_lands, rename_others, steady_whole, sync_lands, sync_others, sync_steady, torn_lands}

-- one after another
pub lands-more : (name : List ℕ) (sum : Sum) (old mid new : List State) → Lands name sum old mid → Lands name sum mid new → Lands name sum old new
lands-more name sum old mid new first later = record {
  moments = onward (LandsWhole name sum) (lands_by_steps name sum) old mid new first.moments later.moments;
  others = λ other differ aside. later.others other differ aside ∙ first.others other differ aside;
}

-- a torn call that changes no content has the files of the whole one
torn_named : (done torn : State) (other : List ℕ) → IsTorn None done torn → file_named torn other ≡ file_named done other
torn_named done torn other part =
    (λ i. option_map (file_at torn.files) (all_renamed (part.base i) (part.pending i) other)) ∙ by (names_of done other)
  where
    by : (o : Option ℕ) → option_map (file_at torn.files) o ≡ option_map (file_at done.files) o
    by None = refl
    by (Some i) = ap (λ (f : FileState). Some f) (part.others i (λ is. cc))

-- what a call does to the other files of a state, and to what a crash leaves
record StepLands (name : List ℕ) (sum : Sum) (s t : State) : Type 0 where
  lands : LandsWhole name sum s t
  others : (other : List ℕ) → other ≢ name → other ≢ partial name → file_named t other ≡ file_named s other

keeps : {T E : Type 0} (name : List ℕ) (sum : Sum) (P : State → Type 0) (call : DiskCall) (old new : List State) (result : Result T E)
    → ((s : State) → changed_file s call ≡ None) → AllSound old → ((s : State) → IsSound s → P s → StepLands name sum s (after s call))
    → IsNow P old → Goes call old new result → KeepsOthers name old new
keeps name sum P call [] new (Ok x) quiet sound step stands is other differ aside = ap (λ (l : List State). file_now l other) is
keeps name sum P call [] new (Err e) quiet sound step stands is other differ aside = ap (λ (l : List State). file_now l other) is
keeps name sum P call (s ∷ past) new (Ok x) quiet sound step stands is other differ aside = ap (λ (l : List State). file_now l other) is ∙ (step s sound.0 stands).others other differ aside
keeps name sum P call (s ∷ past) new (Err e) quiet sound step stands (inl same) other differ aside = ap (λ (l : List State). file_now l other) same
keeps name sum P call (s ∷ past) new (Err e) quiet sound step stands (inr part) other differ aside =
    ap (λ (l : List State). file_now l other) part.2
    ∙ torn_named (after s call) part.0 other (subst (λ (o : Option ℕ). IsTorn o (after s call) part.0) (quiet s) part.1)
    ∙ (step s sound.0 stands).others other differ aside

pub record Called (name : List ℕ) (sum : Sum) (old new : List State) (ends : Type 0) : Type 0 where
  pub lands : Lands name sum old new
  pub stands : ends

called : {T E : Type 0} (name : List ℕ) (sum : Sum) (P Q : State → Type 0) (call : DiskCall) (old new : List State) (result : Result T E)
    → ((s : State) → changed_file s call ≡ None) → AllSound old → ((s : State) → IsSound s → P s → StepLands name sum s (after s call)) → ((s : State) → IsSound s → P s → Q (after s call))
    → IsNow P old → Goes call old new result → Called name sum old new (OnOk result (IsNow Q new))
called name sum P Q call old new result quiet sound step ends stands is =
    let both = goes (LandsWhole name sum) P Q call old new result sound
    (λ s sound_s has. (step s sound_s has).lands)
    (λ s torn sound_s has part. torn_lands name sum s (after s call) torn (changed_file s call) (step s sound_s has).lands part)
    ends stands is in
    record { lands = record { moments = both.0; others = keeps name sum P call old new result quiet sound step stands is }; stands = both.1 }

any_stands : (old : List State) → IsNow (λ s. Unit {0}) old
any_stands [] = tt
any_stands (s ∷ past) = tt

step_names : (name : List ℕ) (sum : Sum) (s : State) → StepLands name sum s (after s SyncNames)
step_names name sum s = record { lands = names_land name sum s; others = λ other differ aside. refl }

-- ---- the calls

pub settles : {T E : Type 0} (name : List ℕ) (sum : Sum) (old new : List State) (result : Result T E) → AllSound old → Goes SyncNames old new result → Called name sum old new (OnOk result (IsNow IsSettled new))
settles name sum old new result sound is =
    called name sum (λ s. Unit {0}) IsSettled SyncNames old new result (λ s. refl) sound (λ s sound_s has. step_names name sum s) (λ s sound_s has. refl) (any_stands old) is

pub steadies : {T E : Type 0} (name : List ℕ) (sum : Sum) (of : List ℕ) (old new : List State) (result : Result T E) → of ≡ name → AllSound old → IsNow IsSettled old → Goes (Sync of) old new result
    → Called name sum old new (OnOk result (IsNow (IsSteady name) new))
steadies name sum of old new result same sound settled goes =
    let is : Goes (Sync name) old new result = subst (λ (n : List ℕ). Goes (Sync n) old new result) same goes in
    called name sum IsSettled (IsSteady name) (Sync name) old new result (λ s. refl) sound
    (λ s sound_s has. record { lands = sync_lands name sum s sound_s; others = λ other differ aside. sync_others name s sound_s other differ })
    (λ s sound_s has. sync_steady name s sound_s has) settled is

pub readies : {T E : Type 0} (name : List ℕ) (sum : Sum) (old new : List State) (result : Result T E) → AllSound old → IsNow (IsReady name sum) old → Goes SyncNames old new result
    → Called name sum old new (OnOk result (IsNow (MayLand name sum) new))
readies name sum old new result sound ready is =
    called name sum (IsReady name sum) (MayLand name sum) SyncNames old new result (λ s. refl) sound (λ s sound_s has. step_names name sum s) (λ s sound_s has. names_ready name sum s has) ready is

pub moves : {T E : Type 0} (name : List ℕ) (sum : Sum) (from to : List ℕ) (old new : List State) (result : Result T E) → from ≡ partial name → to ≡ name → AllSound old → IsNow (MayLand name sum) old → Goes (Rename from to) old new result
    → Called name sum old new (OnOk result (IsNow (HasLanded name sum) new))
moves name sum from to old new result from_is to_is sound may goes =
    let is : Goes (Rename (partial name) name) old new result = subst (λ (n : List ℕ). Goes (Rename (partial name) n) old new result) to_is (subst (λ (n : List ℕ). Goes (Rename n to) old new result) from_is goes) in
    called name sum (MayLand name sum) (HasLanded name sum) (Rename (partial name) name) old new result (λ s. refl) sound
    (λ s sound_s has. record { lands = rename_lands name sum s has; others = rename_others name sum s has }) (λ s sound_s has. rename_landed name sum s has) may is

pub lasts : {T E : Type 0} (name : List ℕ) (sum : Sum) (old new : List State) (result : Result T E) → AllSound old → IsNow (HasLanded name sum) old → Goes SyncNames old new result
    → Called name sum old new (OnOk result (IsNow (LeavesWhole name sum) new))
lasts name sum old new result sound landed is =
    called name sum (HasLanded name sum) (LeavesWhole name sum) SyncNames old new result (λ s. refl) sound (λ s sound_s has. step_names name sum s) (λ s sound_s has. names_whole name sum s has) landed is

-- ---- the fetch into the file on its way

left_alone : (name : List ℕ) (sum : Sum) (s t : State) → s.pending ≡ [] → LeavesOthers (partial name) s t → LandsWhole name sum s t
left_alone name sum s t settled leaves image is =
    let alone : AllChangeNameAlone (partial name) s.pending = subst (λ l. AllChangeNameAlone (partial name) l) (sym settled) tt in
    let earlier = leaves.leaves alone image is in
    record { before = earlier.before; was = earlier.was; others = λ other differ aside. earlier.same other aside; file = inl (earlier.same name (partial_other name)) }

left_since : (name : List ℕ) (sum : Sum) (old : List State) (t : State) → IsNow IsSettled old → From (LeavesOthers (partial name)) old t → From (LandsWhole name sum) old t
left_since name sum [] t settled leaves = tt
left_since name sum (s ∷ past) t settled leaves = left_alone name sum s t settled leaves

pub staged_lands : (name : List ℕ) (sum : Sum) (old new : List State) → IsNow IsSettled old → Staging name old new → Lands name sum old new
staged_lands name sum old new settled staging = record {
  moments = since_map (From (LeavesOthers (partial name)) old) (From (LandsWhole name sum) old) old new (λ t. left_since name sum old t settled) staging.only;
  others = λ other differ aside. staging.others other aside;
}

-- ---- what is there at first

steady_settled : (name : List ℕ) (now : List State) → IsNow (IsSteady name) now → IsNow IsSettled now
steady_settled name [] steady = tt
steady_settled name (s ∷ past) steady = steady.settled

pub settled_still : (name : List ℕ) (mid new : List State) → new ≡ mid → IsNow (IsSteady name) mid → IsNow IsSettled new
settled_still name mid new still steady = subst (λ (l : List State). IsNow IsSettled l) (sym still) (steady_settled name mid steady)

pub fits_whole : (name : List ℕ) (sum : Sum) (tells : Bool) (files : Files) (now : List State) → IsShown tells files now → IsNow (IsSteady name) now → (IsTrue tells → IsSomeAnd (files name) (λ bytes. Fits bytes sum)) → IsNow (LeavesWhole name sum) now
fits_whole name sum tells files [] shown steady fits = tt
fits_whole name sum tells files (s ∷ past) shown steady fits =
    steady_whole name sum s steady (subst (λ (f : Files). IsSomeAnd (f name) (λ bytes. Fits bytes sum)) shown.1 (fits shown.0))

pub ready_now : (name : List ℕ) (sum : Sum) (now : List State) → (IsTold now → LastsAs name now sum) → IsNow (IsReady name sum) now
ready_now name sum [] lasts = tt
ready_now name sum (s ∷ past) lasts = let file = lasts tt in record { bytes = file.bytes; file = file.file; sums = file.sums }

-- what reads give of the file stays, where the disk tells
shown_same : (name : List ℕ) (told tells : Bool) (was now : Files) (old new : List State) → IsShown told was old → IsShown tells now new → told ≡ true → tells ≡ true → file_now new name ≡ file_now old name → now name ≡ was name
shown_same name told tells was now [] new before after is still same = absurd (false≢true (sym before ∙ is))
shown_same name told tells was now (s ∷ past) [] before after is still same = absurd (false≢true (sym after ∙ still))
shown_same name told tells was now (s ∷ past) (t ∷ more) before after is still same =
    ap (λ (f : Files). f name) after.1 ∙ reads_named t name ∙ ap (option_map (λ (f : FileState). f.seen)) same ∙ sym (reads_named s name) ∙ ap (λ (f : Files). f name) (sym before.1)

pub staged_keeps : (name : List ℕ) (told tells : Bool) (was now : Files) (old new : List State) → IsShown told was old → IsShown tells now new → tells ≡ told → Staging name old new → told ≡ true → now name ≡ was name
staged_keeps name told tells was now old new before after telling staging is = shown_same name told tells was now old new before after is (telling ∙ is) (staging.others name (partial_other name))

-- nothing was done yet
pub nothing_staged : (name : List ℕ) (now : List State) → Staging name now now
nothing_staged name now = record {
  moments = no_time now now (KeptAtRestSince now) refl;
  others = λ other apart. refl;
  only = no_time now now (OthersLeftSince (partial name) now) refl;
}

pub nothing_lands : (name : List ℕ) (sum : Sum) (old new : List State) → new ≡ old → Lands name sum old new
nothing_lands name sum old new same = record {
  moments = no_time old new (LandsWholeSince name sum old) same;
  others = λ other differ aside. ap (λ (l : List State). file_now l other) same;
}

-- a file that is found to fit is whole in all that a crash leaves
pub checked_whole : {E : Type 0} (name : List ℕ) (sum : Sum) (tells : Bool) (files : Files) (mid new : List State) (result : Result Bool E) → IsShown tells files mid → new ≡ mid → IsNow (IsSteady name) mid
    → (IsTrue tells → IfOk result (λ fits. IsTrue fits ↔ IsSomeAnd (files name) (λ bytes. Fits bytes sum))) → IfOk result (λ fits. fits ≡ true → IsNow (LeavesWhole name sum) new)
checked_whole name sum tells files mid new (Err e) shown still steady told = tt
checked_whole name sum tells files mid new (Ok fits) shown still steady told = λ yes.
    subst (λ (l : List State). IsNow (LeavesWhole name sum) l) (sym still) (fits_whole name sum tells files mid shown steady (λ tell. (told tell).0 yes))
