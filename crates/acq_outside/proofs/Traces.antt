-- Each state that a disk in memory has had is sound, and what reads give at it is what the list of its changes gives.
use Rattle.std.proofs.Common.{◌≡◌, ◌≢◌, refl, sym, ap, ◌∙◌, subst, ⊎_elim, arith, ℕ, zero, suc, ◌+◌, ◌-◌, ◌<◌, ◌≤◌, Bool, true, false, if◌then◌else◌, List, [], ◌∷◌, ◌++◌, length, take, get_or, set, Option, Some, None, option_map, unwrap_or}
use Rattle.std.proofs.Math.Path.{fun_ext}
use Rattle.std.proofs.lemmas.Bool.{cases_lt, cases_eq}
use Rattle.std.proofs.lemmas.Slice.Eq.{bytes_eq-Decides}
use Rattle.std.proofs.lemmas.List.{length-set, get_or-set_same, get_or-set_other, set_past, get_or_append_left, get_or-append_right, get_or_at, length_push}
use Rattle.acq_outside.specs.Disk.{Files, same_name, with_file, spliced, moved_file}
use Rattle.acq_outside.specs.History.{FileRows, Past, start_files, after_change, files_after, files_of}
use Rattle.acq_outside.specs.Crash.{State, IsOutcome, IsSound, IsApart, Ascends, AllSound, IsShown, Names, moved_name, renamed, all_renamed, file_at, no_file, names_of, seen_at, reads, on_file, with_change, cut_or_made, after, synced, file_written, file_cut, number_of, synced_rows, start_state, trace_after, trace_of}
use Rattle.acq_outside.specs.declared.state.FileState.{FileState}
use Rattle.acq_outside.specs.declared.state.NameChange.{NameChange}
use Rattle.acq_outside.specs.declared.state.NameChange.TheVariants.{Made, Moved, Removed}
use Rattle.acq_outside.specs.declared.change.DiskCall.{DiskCall}
use Rattle.acq_outside.specs.declared.change.DiskCall.TheVariants.{Write, Cut, Sync, Rename, Remove, SyncNames}
use Rattle.acq_outside.proofs.FileMaps.{same_content}
use Rattle.acq_outside.proofs.Outcomes.{synced_outcome, written_outcome, cut_outcome}
use Rattle.acq_outside.proofs.NamesApart.{part_apart, part_all, ascends_make, ascends_move, ascends_gone}

abbrev HasSeen : FileState → Type 0
HasSeen file = IsOutcome file file.seen

set_outcomes : (files : List FileState) (i : ℕ) (file : FileState) → ((k : ℕ) → HasSeen (file_at files k)) → HasSeen file → (k : ℕ) → HasSeen (file_at (set files i file) k)
set_outcomes files i file all here k = ⊎_elim within past (cases_lt i (length files))
  where
    at : i < length files → k ≡ i → HasSeen (file_at (set files i file) k)
    at low same = subst HasSeen (sym (ap (λ (j : ℕ). file_at (set files i file) j) same ∙ get_or-set_same files i file no_file low)) here

    other : k ≢ i → HasSeen (file_at (set files i file) k)
    other differ = subst HasSeen (sym (get_or-set_other files i k file no_file differ)) (all k)

    within : i < length files → HasSeen (file_at (set files i file) k)
    within low = ⊎_elim (at low) other (cases_eq k i)

    past : length files ≤ i → HasSeen (file_at (set files i file) k)
    past high = subst (λ (list : List FileState). HasSeen (file_at list k)) (sym (set_past files i file high)) (all k)

on_file_sound : (s : State) (o : Option ℕ) (change : FileState → FileState) → IsSound s → ((file : FileState) → HasSeen file → HasSeen (change file)) → IsSound (on_file s o change)
on_file_sound s None change sound keeps = sound
on_file_sound s (Some i) change sound keeps = record {
  outcomes = set_outcomes s.files i (change (file_at s.files i)) sound.outcomes (keeps (file_at s.files i) (sound.outcomes i));
  first = sound.first;
  apart = sound.apart;
  ascends = subst (λ (top : ℕ). Ascends sound.first s.pending top) (sym (length-set s.files i (change (file_at s.files i)))) sound.ascends;
}

last_outcome : (j : ℕ) → HasSeen (get_or (synced [] ∷ []) j no_file)
last_outcome zero = synced_outcome []
last_outcome (suc j) = record { long = omega arith; fits = tt }

made_outcomes : (files : List FileState) → ((k : ℕ) → HasSeen (file_at files k)) → (k : ℕ) → HasSeen (file_at (files ++ synced [] ∷ []) k)
made_outcomes files all k = ⊎_elim
    (λ low. subst HasSeen (sym (get_or_append_left files (synced [] ∷ []) no_file k low)) (all k))
    (λ high. subst HasSeen (sym (get_or-append_right files (synced [] ∷ []) (length files) k no_file refl high)) (last_outcome (k - length files)))
    (cases_lt k (length files))

cut_sound : (s : State) (name : List ℕ) (len : ℕ) (o : Option ℕ) → IsSound s → IsSound (cut_or_made s name len o)
cut_sound s name len None sound = record {
  outcomes = made_outcomes s.files sound.outcomes;
  first = sound.first;
  apart = sound.apart;
  ascends = subst (λ (top : ℕ). Ascends sound.first (s.pending ++ Made name (length s.files) ∷ []) top) (sym (length_push s.files (synced []))) (ascends_make s.pending sound.first (length s.files) name sound.ascends);
}
cut_sound s name len (Some i) sound = on_file_sound s (Some i) (λ file. file_cut file len) sound (λ file seen. cut_outcome file len seen)

change_sound : (s : State) (o : Option ℕ) (change : NameChange) → IsSound s → ((n top : ℕ) → Ascends n s.pending top → Ascends n (s.pending ++ change ∷ []) top) → IsSound (with_change s o change)
change_sound s None change sound more = sound
change_sound s (Some i) change sound more = record { outcomes = sound.outcomes; first = sound.first; apart = sound.apart; ascends = more sound.first (length s.files) sound.ascends }

pub apart_now : (s : State) → IsSound s → IsApart (names_of s) (length s.files)
apart_now s sound = part_apart s.pending s.pending (part_all s.pending) s.base sound.first (length s.files) sound.apart sound.ascends

pub sound_after : (s : State) (call : DiskCall) → IsSound s → IsSound (after s call)
sound_after s (Write name at bytes) sound = on_file_sound s (names_of s name) (λ file. file_written file at bytes) sound (λ file seen. written_outcome file at bytes seen)
sound_after s (Cut name len) sound = cut_sound s name len (names_of s name) sound
sound_after s (Sync name) sound = on_file_sound s (names_of s name) (λ file. synced file.seen) sound (λ file seen. synced_outcome file.seen)
sound_after s (Rename from to) sound = change_sound s (names_of s from) (Moved from to) sound (λ n top. ascends_move s.pending n top from to)
sound_after s (Remove name) sound = change_sound s (names_of s name) (Removed name) sound (λ n top. ascends_gone s.pending n top name)
sound_after s SyncNames sound = record { outcomes = sound.outcomes; first = length s.files; apart = apart_now s sound; ascends = omega arith }

-- Reads after a call.
some_same : (i j : ℕ) → Some i ≡ Some j → i ≡ j
some_same i j is = cc

on_file_reads : (s : State) (name : List ℕ) (o : Option ℕ) (change : FileState → FileState) (g : List ℕ → List ℕ) → IsApart (names_of s) (length s.files) → names_of s name ≡ o
    → ((file : FileState) → (change file).seen ≡ g file.seen) → with_file (reads s) name (option_map g (seen_at s.files o)) ≡ reads (on_file s o change)
on_file_reads s name None change g apart is gives = same_content (reads s) name None (ap (seen_at s.files) is)
on_file_reads s name (Some i) change g apart is gives = fun_ext (λ other. at other (same_name name other) refl (names_of s other) refl)
  where
    low : i < length s.files
    low = apart.below name i is

    new : FileState
    new = change (file_at s.files i)

    here : seen_at (set s.files i new) (Some i) ≡ Some (g (file_at s.files i).seen)
    here = ap (λ (file : FileState). Some file.seen) (get_or-set_same s.files i new no_file low) ∙ ap (λ (bytes : List ℕ). Some bytes) (gives (file_at s.files i))

    at : (other : List ℕ) (t : Bool) → same_name name other ≡ t → (p : Option ℕ) → names_of s other ≡ p → (if t then Some (g (file_at s.files i).seen) else seen_at s.files p) ≡ seen_at (set s.files i new) p
    at other true e p leads =
        let to_i : p ≡ Some i = sym leads ∙ ap (names_of s) (sym ((bytes_eq-Decides name other).0 e)) ∙ is in
        sym (ap (seen_at (set s.files i new)) to_i ∙ here)
    at other false e None leads = refl
    at other false e (Some j) leads =
        ap (λ (file : FileState). Some file.seen) (sym (get_or-set_other s.files i j new no_file (λ same.
        let yes : same_name name other ≡ true = (bytes_eq-Decides name other).1 (apart.one name other i is (leads ∙ ap (λ (k : ℕ). Some k) same)) in
        let clash : true ≡ false = sym yes ∙ e in cc)))

pub all_push : (m : Names) (changes : List NameChange) (change : NameChange) → all_renamed m (changes ++ change ∷ []) ≡ renamed (all_renamed m changes) change
all_push m [] change = refl
all_push m (first ∷ changes) change = all_push (renamed m first) changes change

take_nothing : (len : ℕ) → take {A = ℕ} len [] ≡ []
take_nothing zero = refl
take_nothing (suc len) = refl

cut_reads : (s : State) (name : List ℕ) (len : ℕ) (o : Option ℕ) → IsApart (names_of s) (length s.files) → names_of s name ≡ o → with_file (reads s) name (Some (take len (unwrap_or (seen_at s.files o) []))) ≡ reads (cut_or_made s name len o)
cut_reads s name len None apart is = fun_ext (λ other. ap (λ (bytes : List ℕ). if same_name name other then Some bytes else reads s other) (take_nothing len) ∙ at other (same_name name other) (names_of s other) refl ∙ ap (λ (m : Names). seen_at (s.files ++ synced [] ∷ []) (m other)) (sym (all_push s.base s.pending (Made name (length s.files)))))
  where
    at : (other : List ℕ) (t : Bool) (p : Option ℕ) → names_of s other ≡ p → (if t then Some [] else seen_at s.files p) ≡ seen_at (s.files ++ synced [] ∷ []) (if t then Some (length s.files) else p)
    at other true p leads = ap (λ (file : FileState). Some file.seen) (sym (get_or_at s.files (synced []) [] no_file (length s.files) refl))
    at other false None leads = refl
    at other false (Some j) leads = ap (λ (file : FileState). Some file.seen) (sym (get_or_append_left s.files (synced [] ∷ []) no_file j (apart.below other j leads)))
cut_reads s name len (Some i) apart is = on_file_reads s name (Some i) (λ file. file_cut file len) (take len) apart is (λ file. refl)

rename_reads : (s : State) (from to : List ℕ) (o : Option ℕ) → names_of s from ≡ o → moved_file (reads s) from to (seen_at s.files o) ≡ reads (with_change s o (Moved from to))
rename_reads s from to None is = refl
rename_reads s from to (Some i) is = fun_ext (λ other. at other (same_name to other) (same_name from other) ∙ ap (λ (o : Option ℕ). seen_at s.files (moved_name (names_of s) from to o other)) (sym is) ∙ ap (λ (m : Names). seen_at s.files (m other)) (sym (all_push s.base s.pending (Moved from to))))
  where
    at : (other : List ℕ) (t f : Bool) → (if t then Some (file_at s.files i).seen else (if f then None else reads s other)) ≡ seen_at s.files (if t then Some i else (if f then None else names_of s other))
    at other true f = refl
    at other false true = refl
    at other false false = refl

remove_reads : (s : State) (name : List ℕ) (o : Option ℕ) → names_of s name ≡ o → with_file (reads s) name None ≡ reads (with_change s o (Removed name))
remove_reads s name None is = same_content (reads s) name None (ap (seen_at s.files) is)
remove_reads s name (Some i) is = fun_ext (λ other. at other (same_name name other) ∙ ap (λ (m : Names). seen_at s.files (m other)) (sym (all_push s.base s.pending (Removed name))))
  where
    at : (other : List ℕ) (t : Bool) → (if t then None else reads s other) ≡ seen_at s.files (if t then None else names_of s other)
    at other true = refl
    at other false = refl

same_bytes : (o : Option (List ℕ)) → option_map (λ (bytes : List ℕ). bytes) o ≡ o
same_bytes None = refl
same_bytes (Some bytes) = refl

pub reads_after : (s : State) (call : DiskCall) → IsSound s → after_change (reads s) call ≡ reads (after s call)
reads_after s (Write name at bytes) sound = on_file_reads s name (names_of s name) (λ file. file_written file at bytes) (λ content. spliced content at bytes) (apart_now s sound) refl (λ file. refl)
reads_after s (Cut name len) sound = cut_reads s name len (names_of s name) (apart_now s sound) refl
reads_after s (Sync name) sound =
    sym (same_content (reads s) name (option_map (λ (bytes : List ℕ). bytes) (reads s name)) (sym (same_bytes (reads s name))))
    ∙ on_file_reads s name (names_of s name) (λ file. synced file.seen) (λ bytes. bytes) (apart_now s sound) refl (λ file. refl)
reads_after s (Rename from to) sound = rename_reads s from to (names_of s from) refl
reads_after s (Remove name) sound = remove_reads s name (names_of s name) refl
reads_after s SyncNames sound = refl

-- The disk as it begins.
rows_outcomes : (rows : FileRows) (k : ℕ) → HasSeen (file_at (synced_rows rows) k)
rows_outcomes [] k = record { long = omega arith; fits = tt }
rows_outcomes (row ∷ rows) zero = synced_outcome row.1
rows_outcomes (row ∷ rows) (suc k) = rows_outcomes rows k

within_case : (t : Bool) (i k n : ℕ) (o : Option ℕ) → (o ≡ Some k → (i + 1 ≤ k) × (k < i + 1 + n)) → (if t then Some i else o) ≡ Some k → (i ≤ k) × (k < i + suc n)
within_case true i k n o inner at = let same : i ≡ k = some_same i k at in (omega arith, omega arith)
within_case false i k n o inner at = let both = inner at in (omega (arith, both.0), omega (arith, both.1))

number_within : (i : ℕ) (rows : FileRows) (a : List ℕ) (k : ℕ) → number_of i rows a ≡ Some k → (i ≤ k) × (k < i + length rows)
number_within i [] a k is = absurd cc
number_within i (row ∷ rows) a k is = within_case (same_name row.0 a) i k (length rows) (number_of (i + 1) rows a) (number_within (i + 1) rows a k) is

number_one : (i : ℕ) (rows : FileRows) (a b : List ℕ) (k : ℕ) → number_of i rows a ≡ Some k → number_of i rows b ≡ Some k → a ≡ b
number_one i [] a b k is_a is_b = absurd cc
number_one i (row ∷ rows) a b k is_a is_b = by (number_one (i + 1) rows a b k) (same_name row.0 a) (same_name row.0 b) refl refl is_a is_b
  where
    by : (number_of (i + 1) rows a ≡ Some k → number_of (i + 1) rows b ≡ Some k → a ≡ b) → (p q : Bool) → same_name row.0 a ≡ p → same_name row.0 b ≡ q → (if p then Some i else number_of (i + 1) rows a) ≡ Some k → (if q then Some i else number_of (i + 1) rows b) ≡ Some k → a ≡ b
    by rec true true e f at_a at_b = sym ((bytes_eq-Decides row.0 a).0 e) ∙ (bytes_eq-Decides row.0 b).0 f
    by rec true false e f at_a at_b = let same : i ≡ k = some_same i k at_a in absurd (omega (arith, (number_within (i + 1) rows b k at_b).0))
    by rec false true e f at_a at_b = let same : i ≡ k = some_same i k at_b in absurd (omega (arith, (number_within (i + 1) rows a k at_a).0))
    by rec false false e f at_a at_b = rec at_a at_b

rows_length : (rows : FileRows) → length (synced_rows rows) ≡ length rows
rows_length [] = refl
rows_length (row ∷ rows) = ap suc (rows_length rows)

pub start_sound : (rows : FileRows) → IsSound (start_state rows)
start_sound rows = record {
  outcomes = rows_outcomes rows;
  first = length rows;
  apart = record { one = number_one 0 rows; below = λ a k is. omega (arith, (number_within 0 rows a k is).1) };
  ascends = omega (arith, rows_length rows);
}

rows_read : (front : List FileState) (rows : FileRows) (i : ℕ) → length front ≡ i → (name : List ℕ) → start_files rows name ≡ seen_at (front ++ synced_rows rows) (number_of i rows name)
rows_read front [] i long name = refl
rows_read front (row ∷ rows) i long name = by (rows_read (front ++ synced row.1 ∷ []) rows (i + 1) (length_push front (synced row.1) ∙ ap (λ (k : ℕ). k + 1) long) name ∙ shifted (number_of (i + 1) rows name)) (same_name row.0 name)
  where
    shifted : (o : Option ℕ) → seen_at ((front ++ synced row.1 ∷ []) ++ synced_rows rows) o ≡ seen_at (front ++ synced row.1 ∷ synced_rows rows) o
    shifted o = ap (λ (files : List FileState). seen_at files o) (assoc front)
      where
        assoc : (list : List FileState) → (list ++ synced row.1 ∷ []) ++ synced_rows rows ≡ list ++ synced row.1 ∷ synced_rows rows
        assoc [] = refl
        assoc (x ∷ list) = ap (λ (l : List FileState). x ∷ l) (assoc list)

    by : start_files rows name ≡ seen_at (front ++ synced row.1 ∷ synced_rows rows) (number_of (i + 1) rows name) → (t : Bool) → (if t then Some row.1 else start_files rows name) ≡ seen_at (front ++ synced row.1 ∷ synced_rows rows) (if t then Some i else number_of (i + 1) rows name)
    by rec true = ap (λ (file : FileState). Some file.seen) (sym (get_or_at front (synced row.1) (synced_rows rows) no_file i long))
    by rec false = rec

pub start_reads : (rows : FileRows) → start_files rows ≡ reads (start_state rows)
start_reads rows = fun_ext (λ name. rows_read [] rows 0 refl name)

-- The laws.
sound_trace : (s : State) (past : List State) (calls : List DiskCall) → IsSound s → AllSound past → AllSound (trace_after s past calls)
sound_trace s past [] sound before = (sound, before)
sound_trace s past (call ∷ calls) sound before = sound_trace (after s call) (s ∷ past) calls (sound_after s call sound) (sound, before)

pub trace_sound : (past : Past) → AllSound (trace_of past)
trace_sound past = sound_trace (start_state past.start) [] past.changes (start_sound past.start) tt

shown_trace : (files : Files) (s : State) (past : List State) (calls : List DiskCall) → IsSound s → files ≡ reads s → IsShown true (files_after files calls) (trace_after s past calls)
shown_trace files s past [] sound is = (refl, is)
shown_trace files s past (call ∷ calls) sound is =
    shown_trace (after_change files call) (after s call) (s ∷ past) calls (sound_after s call sound) (ap (λ (f : Files). after_change f call) is ∙ reads_after s call sound)

pub trace_shown : (past : Past) → IsShown true (files_of past) (trace_of past)
trace_shown past = shown_trace (start_files past.start) (start_state past.start) [] past.changes (start_sound past.start) (start_reads past.start)
