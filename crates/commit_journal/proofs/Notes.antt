-- A record is written behind the shut gate, and what is at rest stays so.
use Rattle.std.proofs.Common.{◌≡◌, ◌≢◌, inl, ⊎_elim, refl, sym, ap, ◌∙◌, subst, arith, ℕ, ◌+◌, ◌≤◌, min, Bool, true, IsTrue, List, [], ◌∷◌, ◌++◌, length, set, take, drop, Option, Some, None, option_map, unwrap_or, Result, OnOk, IsSomeAnd}
use Rattle.std.proofs.lemmas.List.{get_or-set_same, get_or-set_other, append-nil, drop_all}
use Rattle.std.proofs.lemmas.Option.{same_Some}
use Rattle.acq_outside.specs.Disk.{Files, spliced}
use Rattle.acq_outside.specs.Crash.{State, Names, IsSound, AllSound, IsShown, IsTorn, Goes, after, changed_file, on_file, cut_or_made, file_at, no_file, names_of, all_renamed, reads, seen_at, synced, all_any, file_written, file_cut}
use Rattle.acq_outside.specs.States.{IsNow, Since}
use Rattle.acq_outside.proofs.Traces.{apart_now}
use Rattle.acq_outside.proofs.Crashes.{names_back, leaves_as_done}
use Rattle.acq_outside.proofs.Going.{goes}
use Rattle.acq_outside.specs.declared.change.DiskCall.TheVariants.{Write, Cut, Sync, SyncNames}
use Rattle.acq_outside.specs.declared.state.FileState.{FileState}
use Rattle.acq_outside.specs.declared.state.NameChange.{NameChange}
use Rattle.journal_model.specs.Names.{journal, is_installed_name}
use Rattle.journal_model.specs.Rest.{AllChangeNoInstalledName, IsShut, IsIdle, KeepsAtRest, KeptAtRestSince, file_named}
use Rattle.journal_model.proofs.Views.{list_not_aside, list_not_journal}
use Rattle.journal_model.proofs.Aside.{idle_quiet, quiet_unrecorded, leads_now, changed_by, first_kept, reads_named}
use Rattle.commit_journal.specs.Laying.{IsIdleUnmoved, HasRecordWritten, HasRecordSynced}
use Rattle.commit_journal.proofs.Carries.{turned_state, kept_closed}
use Rattle.commit_journal.proofs.Recovers.{names_recover, never}
use Rattle.commit_journal.proofs.Others.{torn_as_done}

journal_now : (s : State) (idle : IsIdle s) → names_of s journal ≡ Some idle.number
journal_now s idle = leads_now s journal idle.aside refl ∙ idle.leads

-- A state that differs in the journal's file alone, behind a gate that stays shut.
pub record IsBehind (s t : State) (idle : IsIdle s) : Type 0 where
  base : t.base ≡ s.base
  pending : t.pending ≡ s.pending
  files : (k : ℕ) → k ≢ idle.number → file_at t.files k ≡ file_at s.files k
  closed : IsShut (file_at t.files idle.number)

idle_in : (s t : State) (idle : IsIdle s) → IsBehind s t idle → IsIdle t
idle_in s t idle is = record {
  aside = subst (λ (l : List NameChange). AllChangeNoInstalledName l) (sym is.pending) idle.aside;
  number = idle.number;
  leads = ap (λ (m : Names). m journal) is.base ∙ idle.leads;
  shut = is.closed;
}

names_in : (s t : State) (idle : IsIdle s) → IsBehind s t idle → names_of t ≡ names_of s
names_in s t idle is = ap (λ (l : List NameChange). all_renamed t.base l) is.pending ∙ ap (λ (m : Names). all_renamed m s.pending) is.base

list_other : (s : State) (idle : IsIdle s) → IsSound s → (list : List ℕ) (k : ℕ) → is_installed_name list ≡ true → names_of s list ≡ Some k → k ≢ idle.number
list_other s idle sound list k is leads same = list_not_journal list is ((apart_now s sound).one list journal k leads (journal_now s idle ∙ ap (λ (n : ℕ). Some n) (sym same)))

list_file : (s t : State) (idle : IsIdle s) → IsSound s → IsBehind s t idle → (list : List ℕ) → is_installed_name list ≡ true → file_named t list ≡ file_named s list
list_file s t idle sound is list of_list = ap (λ (m : Names). option_map (file_at t.files) (m list)) (names_in s t idle is) ∙ at (names_of s list) refl
  where
    at : (o : Option ℕ) → names_of s list ≡ o → option_map (file_at t.files) o ≡ option_map (file_at s.files) o
    at None leads = refl
    at (Some k) leads = ap (λ (f : FileState). Some f) (is.files k (list_other s idle sound list k of_list leads))

behind_stays : (s t : State) (idle : IsIdle s) → IsSound s → IsBehind s t idle → KeepsAtRest s t
behind_stays s t idle sound is = record {
  rest = λ before folder rest. record {
    leaves = λ image left.
        let earlier = changed_by s t idle.number sound (idle_quiet s idle) (idle_quiet t (idle_in s t idle is)) is.base is.files
        (λ list k of_list base. list_other s idle sound list k of_list (leads_now s list idle.aside (list_not_aside list of_list) ∙ base)) image left in
        earlier.same ∙ rest.leaves earlier.before earlier.was;
    synced = λ name i counts leads. ⊎_elim
        (λ list.
        let led : names_of s name ≡ Some i = ap (λ (m : Names). m name) (sym (names_in s t idle is)) ∙ leads in
        subst (λ (f : FileState). f ≡ synced f.seen) (sym (is.files i (list_other s idle sound name i list led))) (rest.synced name i (inl list) led))
        (λ recorded. absurd (quiet_unrecorded t name (idle_quiet t (idle_in s t idle is)) recorded))
        counts;
    lists_are = λ list of_list.
        reads_named t list ∙ ap (option_map (λ (f : FileState). f.seen)) (list_file s t idle sound is list of_list) ∙ sym (reads_named s list) ∙ rest.lists_are list of_list;
  };
  idle = λ before. idle_in s t idle is;
}

turned_behind : (s : State) (idle : IsIdle s) (file : FileState) → IsSound s → IsShut file → IsBehind s (turned_state s idle.number file) idle
turned_behind s idle file sound closed = record {
  base = refl;
  pending = refl;
  files = λ k differ. get_or-set_other s.files idle.number k file no_file differ;
  closed = subst IsShut (sym (get_or-set_same s.files idle.number file no_file ((apart_now s sound).below journal idle.number (journal_now s idle)))) closed;
}

closed_seen : (file torn : FileState) (seen : List ℕ) → torn ≡ record file { seen = seen } → IsShut file → IsShut torn
closed_seen file torn seen is closed = subst IsShut (sym is) (record { rest = closed.rest; cells = closed.cells; least = closed.least })

torn_behind : (s done torn : State) (idle : IsIdle s) (changed : Option ℕ) → ((k : ℕ) → Some k ≡ changed → k ≡ idle.number) → IsTorn changed done torn → IsBehind s done idle → IsBehind s torn idle
torn_behind s done torn idle changed at part is = record {
  base = part.base ∙ is.base;
  pending = part.pending ∙ is.pending;
  files = λ k differ. part.others k (λ same. differ (at k same)) ∙ is.files k differ;
  closed = closed_seen (file_at done.files idle.number) (file_at torn.files idle.number) (part.content idle.number).0 (part.content idle.number).1 is.closed;
}

-- The names are synced.
names_behind : (s : State) → IsIdle s → IsIdle (after s SyncNames)
names_behind s idle = record { aside = tt; number = idle.number; leads = journal_now s idle; shut = idle.shut }

names_stay : (s : State) → IsIdle s → KeepsAtRest s (after s SyncNames)
names_stay s idle = record {
  rest = λ before folder rest. record {
    leaves = λ image left. rest.leaves image (names_back s image left);
    synced = (names_recover s).synced rest.synced;
    lists_are = rest.lists_are;
  };
  idle = λ before. names_behind s idle;
}

torn_names : (done torn : State) → IsTorn None done torn → names_of torn ≡ names_of done
torn_names done torn part = ap (λ (l : List NameChange). all_renamed torn.base l) part.pending ∙ ap (λ (m : Names). all_renamed m done.pending) part.base

torn_idle : (done torn : State) → IsTorn None done torn → IsIdle done → IsIdle torn
torn_idle done torn part idle = record {
  aside = subst (λ (l : List NameChange). AllChangeNoInstalledName l) (sym part.pending) idle.aside;
  number = idle.number;
  leads = ap (λ (m : Names). m journal) part.base ∙ idle.leads;
  shut = subst IsShut (sym (part.others idle.number (never idle.number))) idle.shut;
}

torn_stays : (s done torn : State) → IsTorn None done torn → IsIdle done → KeepsAtRest s done → KeepsAtRest s torn
torn_stays s done torn part idle stays = record {
  rest = λ before folder rest.
      let now = stays.rest before folder rest in
      record {
        leaves = λ image left. now.leaves image (leaves_as_done done None torn image part left);
        synced = λ name i counts leads. ⊎_elim
            (λ list. subst (λ (f : FileState). f ≡ synced f.seen) (sym (part.others i (never i))) (now.synced name i (inl list) (ap (λ (m : Names). m name) (sym (torn_names done torn part)) ∙ leads)))
            (λ recorded. absurd (quiet_unrecorded torn name (idle_quiet torn (torn_idle done torn part idle)) recorded))
            counts;
        lists_are = λ list of_list.
            reads_named torn list ∙ ap (option_map (λ (f : FileState). f.seen)) (torn_as_done done torn part list) ∙ sym (reads_named done list) ∙ now.lists_are list of_list;
      };
  idle = λ before. torn_idle done torn part idle;
}

pub names_noted : {T E : Type 0} (old new : List State) (result : Result T E) → AllSound old → IsNow IsIdle old → Goes SyncNames old new result → Since old new (KeptAtRestSince old) × OnOk result (IsNow IsIdleUnmoved new)
names_noted old new result sound stands is =
    goes KeepsAtRest IsIdle IsIdleUnmoved SyncNames old new result sound
    (λ s _ idle. names_stay s idle)
    (λ s torn _ idle part. torn_stays s (after s SyncNames) torn part (names_behind s idle) (names_stay s idle))
    (λ s _ idle. record { idle = names_behind s idle; unmoved = refl })
    stands is

-- What stands behind the gate is cut.
cut_closed : (file : FileState) → IsShut file → IsShut (file_cut file 1)
cut_closed file closed = record { rest = closed.rest; cells = closed.cells; least = omega (arith, closed.least) }

cut_is : (s : State) (idle : IsIdle s) → after s (Cut journal 1) ≡ turned_state s idle.number (file_cut (file_at s.files idle.number) 1)
cut_is s idle = ap (cut_or_made s journal 1) (journal_now s idle)

cut_behind : (s : State) (idle : IsIdle s) → IsSound s → IsBehind s (after s (Cut journal 1)) idle
cut_behind s idle sound = subst (λ (t : State). IsBehind s t idle) (sym (cut_is s idle)) (turned_behind s idle (file_cut (file_at s.files idle.number) 1) sound (cut_closed (file_at s.files idle.number) idle.shut))

cut_changed : (s : State) (idle : IsIdle s) → changed_file s (Cut journal 1) ≡ Some idle.number
cut_changed s idle = ap (λ (t : State). names_of t journal) (cut_is s idle) ∙ journal_now s idle

-- reads of the journal's file after it changed
seen_here : (s : State) (idle : IsIdle s) (file : FileState) (bytes : List ℕ) → IsSound s → file.seen ≡ bytes → (i : ℕ) → s.base journal ≡ Some i → (file_at (set s.files idle.number file) i).seen ≡ bytes
seen_here s idle file bytes sound is i leads =
    let same : i ≡ idle.number = same_Some i idle.number (sym leads ∙ idle.leads) in
    ap (λ (k : ℕ). (file_at (set s.files idle.number file) k).seen) same
    ∙ ap (λ (f : FileState). f.seen) (get_or-set_same s.files idle.number file no_file ((apart_now s sound).below journal idle.number (journal_now s idle))) ∙ is

first_seen : (s : State) (idle : IsIdle s) → IsSound s → (later : List ℕ) × ((file_at s.files idle.number).seen ≡ 0 ∷ later)
first_seen s idle sound = first_kept (file_at s.files idle.number) idle.shut (file_at s.files idle.number).seen (sound.outcomes idle.number)

cut_ends : (s : State) → IsSound s → IsIdleUnmoved s → HasRecordWritten (0 ∷ []) (after s (Cut journal 1))
cut_ends s sound has =
    let file : FileState = file_cut (file_at s.files has.idle.number) 1 in
    subst (HasRecordWritten (0 ∷ [])) (sym (cut_is s has.idle)) (record {
      idle = idle_in s (turned_state s has.idle.number file) has.idle (turned_behind s has.idle file sound (cut_closed (file_at s.files has.idle.number) has.idle.shut));
      unmoved = has.unmoved;
      seen = seen_here s has.idle file (0 ∷ []) sound (ap (take 1) (first_seen s has.idle sound).1);
    })

pub cut_noted : {T E : Type 0} (name : List ℕ) (old new : List State) (result : Result T E) → name ≡ journal → AllSound old → IsNow IsIdleUnmoved old → Goes (Cut name 1) old new result → Since old new (KeptAtRestSince old) × OnOk result (IsNow (HasRecordWritten (0 ∷ [])) new)
cut_noted name old new result same sound stands is =
    goes KeepsAtRest IsIdleUnmoved (HasRecordWritten (0 ∷ [])) (Cut journal 1) old new result sound
    (λ s sound_s has. behind_stays s (after s (Cut journal 1)) has.idle sound_s (cut_behind s has.idle sound_s))
    (λ s torn sound_s has part. behind_stays s torn has.idle sound_s (torn_behind s (after s (Cut journal 1)) torn has.idle (changed_file s (Cut journal 1)) (λ k at. same_Some k has.idle.number (at ∙ cut_changed s has.idle)) part (cut_behind s has.idle sound_s)))
    (λ s sound_s has. cut_ends s sound_s has)
    stands (subst (λ (n : List ℕ). Goes (Cut n 1) old new result) same is)

-- The body is written.
write_closed : (file : FileState) (body : List ℕ) → file.seen ≡ 0 ∷ [] → IsShut file → IsShut (file_written file 1 body)
write_closed file body seen closed = record {
  rest = all_any body ++ drop (1 + length (all_any body)) (Some 0 ∷ closed.rest);
  cells =
      ap (λ (cells : List (Option ℕ)). spliced cells (min 1 (length file.seen)) (all_any body)) closed.cells
      ∙ ap (λ (old : List ℕ). spliced (Some 0 ∷ closed.rest) (min 1 (length old)) (all_any body)) seen;
  least = closed.least;
}

write_is : (s : State) (idle : IsIdle s) (body : List ℕ) → after s (Write journal 1 body) ≡ turned_state s idle.number (file_written (file_at s.files idle.number) 1 body)
write_is s idle body = ap (λ (o : Option ℕ). on_file s o (λ file. file_written file 1 body)) (journal_now s idle)

write_file_closed : (s : State) (body : List ℕ) → (has : HasRecordWritten (0 ∷ []) s) → IsShut (file_written (file_at s.files has.idle.number) 1 body)
write_file_closed s body has = write_closed (file_at s.files has.idle.number) body (has.seen has.idle.number has.idle.leads) has.idle.shut

write_behind : (s : State) (body : List ℕ) (has : HasRecordWritten (0 ∷ []) s) → IsSound s → IsBehind s (after s (Write journal 1 body)) has.idle
write_behind s body has sound = subst (λ (t : State). IsBehind s t has.idle) (sym (write_is s has.idle body)) (turned_behind s has.idle (file_written (file_at s.files has.idle.number) 1 body) sound (write_file_closed s body has))

written_after : (body : List ℕ) → spliced (0 ∷ []) 1 body ≡ 0 ∷ body
written_after body = ap (λ (later : List ℕ). (0 ∷ body) ++ later) (drop_all (1 + length body) (0 ∷ []) (omega arith)) ∙ append-nil (0 ∷ body)

write_ends : (s : State) (body : List ℕ) → IsSound s → HasRecordWritten (0 ∷ []) s → HasRecordWritten (0 ∷ body) (after s (Write journal 1 body))
write_ends s body sound has =
    let file : FileState = file_written (file_at s.files has.idle.number) 1 body in
    subst (HasRecordWritten (0 ∷ body)) (sym (write_is s has.idle body)) (record {
      idle = idle_in s (turned_state s has.idle.number file) has.idle (turned_behind s has.idle file sound (write_file_closed s body has));
      unmoved = has.unmoved;
      seen = seen_here s has.idle file (0 ∷ body) sound (ap (λ (old : List ℕ). spliced old 1 body) (has.seen has.idle.number has.idle.leads) ∙ written_after body);
    })

pub write_noted : {T E : Type 0} (name body : List ℕ) (old new : List State) (result : Result T E) → name ≡ journal → AllSound old → IsNow (HasRecordWritten (0 ∷ [])) old → Goes (Write name 1 body) old new result → Since old new (KeptAtRestSince old) × OnOk result (IsNow (HasRecordWritten (0 ∷ body)) new)
write_noted name body old new result same sound stands is =
    goes KeepsAtRest (HasRecordWritten (0 ∷ [])) (HasRecordWritten (0 ∷ body)) (Write journal 1 body) old new result sound
    (λ s sound_s has. behind_stays s (after s (Write journal 1 body)) has.idle sound_s (write_behind s body has sound_s))
    (λ s torn sound_s has part. behind_stays s torn has.idle sound_s (torn_behind s (after s (Write journal 1 body)) torn has.idle (names_of s journal) (λ k at. same_Some k has.idle.number (at ∙ journal_now s has.idle)) part (write_behind s body has sound_s)))
    (λ s sound_s has. write_ends s body sound_s has)
    stands (subst (λ (n : List ℕ). Goes (Write n 1 body) old new result) same is)

-- And synced.
sync_is : (s : State) (body : List ℕ) (has : HasRecordWritten (0 ∷ body) s) → after s (Sync journal) ≡ turned_state s has.idle.number (synced (0 ∷ body))
sync_is s body has =
    ap (λ (o : Option ℕ). on_file s o (λ file. synced file.seen)) (journal_now s has.idle) ∙ ap (λ (seen : List ℕ). turned_state s has.idle.number (synced seen)) (has.seen has.idle.number has.idle.leads)

sync_behind : (s : State) (body : List ℕ) (has : HasRecordWritten (0 ∷ body) s) → IsSound s → IsBehind s (after s (Sync journal)) has.idle
sync_behind s body has sound = subst (λ (t : State). IsBehind s t has.idle) (sym (sync_is s body has)) (turned_behind s has.idle (synced (0 ∷ body)) sound (kept_closed body))

sync_ends : (s : State) (body : List ℕ) → IsSound s → HasRecordWritten (0 ∷ body) s → HasRecordSynced (0 ∷ body) (after s (Sync journal))
sync_ends s body sound has = subst (HasRecordSynced (0 ∷ body)) (sym (sync_is s body has)) (record {
  unmoved = has.unmoved;
  number = has.idle.number;
  leads = has.idle.leads;
  file = get_or-set_same s.files has.idle.number (synced (0 ∷ body)) no_file ((apart_now s sound).below journal has.idle.number (journal_now s has.idle));
})

pub sync_noted : {T E : Type 0} (name body : List ℕ) (old new : List State) (result : Result T E) → name ≡ journal → AllSound old → IsNow (HasRecordWritten (0 ∷ body)) old → Goes (Sync name) old new result → Since old new (KeptAtRestSince old) × OnOk result (IsNow (HasRecordSynced (0 ∷ body)) new)
sync_noted name body old new result same sound stands is =
    goes KeepsAtRest (HasRecordWritten (0 ∷ body)) (HasRecordSynced (0 ∷ body)) (Sync journal) old new result sound
    (λ s sound_s has. behind_stays s (after s (Sync journal)) has.idle sound_s (sync_behind s body has sound_s))
    (λ s torn sound_s has part. behind_stays s torn has.idle sound_s (torn_behind s (after s (Sync journal)) torn has.idle None (λ k at. absurd (never k at)) part (sync_behind s body has sound_s)))
    (λ s sound_s has. sync_ends s body sound_s has)
    stands (subst (λ (n : List ℕ). Goes (Sync n) old new result) same is)

-- The file that is cut or written is long enough.
pub told_in : (P : State → Type 0) (Q : Files → Type 0) → ((s : State) → IsSound s → P s → Q (reads s)) → (tells : Bool) (files : Files) (trace : List State) → IsShown tells files trace → AllSound trace → IsNow P trace → IsTrue tells → Q files
told_in P Q each tells files [] shown sound stands told = absurd (let clash = sym shown ∙ told in cc)
told_in P Q each tells files (s ∷ past) shown sound stands told = subst Q (sym shown.1) (each s sound.0 stands)

journal_reads : (s : State) (idle : IsIdle s) → reads s journal ≡ Some (file_at s.files idle.number).seen
journal_reads s idle = ap (seen_at s.files) (journal_now s idle)

pub long_enough : (s : State) → IsSound s → IsIdleUnmoved s → 1 ≤ length (unwrap_or (reads s journal) [])
long_enough s sound has =
    let first = first_seen s has.idle sound in
    let long : unwrap_or (reads s journal) [] ≡ 0 ∷ first.0 = ap (λ (o : Option (List ℕ)). unwrap_or o []) (journal_reads s has.idle) ∙ first.1 in
    omega (arith, ap (λ (l : List ℕ). length l) long)

pub noted_there : (s : State) → IsSound s → HasRecordWritten (0 ∷ []) s → IsSomeAnd (reads s journal) (λ content. 1 ≤ length content)
noted_there s sound has = subst (λ (o : Option (List ℕ)). IsSomeAnd o (λ content. 1 ≤ length content)) (sym (journal_reads s has.idle ∙ ap (λ (b : List ℕ). Some b) (has.seen has.idle.number has.idle.leads))) (omega arith)
