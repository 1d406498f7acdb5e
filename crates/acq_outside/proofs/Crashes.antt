-- What a crash leaves after each call, and within one.
use Rattle.std.proofs.Common.{◌≡◌, ◌≢◌, inl, inr, refl, sym, ap, subst, ◌∙◌, ⊎_elim, arith, ℕ, zero, suc, ◌-◌, ◌<◌, ◌≤◌, min, List, [], ◌∷◌, ◌++◌, length, get_or, set, drop, Option, Some, None, option_map}
use Rattle.std.proofs.lemmas.Bool.{cases_lt, cases_eq}
use Rattle.std.proofs.lemmas.List.{get_or-set_same, get_or-set_other, set_past, get_or_append_left, get_or-append_right, get_or_past}
use Rattle.acq_outside.specs.Disk.{Files}
use Rattle.acq_outside.specs.Crash.{State, IsOutcome, FitsAll, IsSubsequence, none, left_out, taken, IsImage, IsSound, Names, all_renamed, names_of, file_at, no_file, on_file, with_change, cut_or_made, after, changed_file, synced, all_any, file_written, file_cut, reads, seen_at}
use Rattle.acq_outside.specs.States.{SyncLasts, NamesLast, SyncsShrink, LeavesApart, LeavesAsDone, IsSync, MayBeLost, LeavesWithin}
use Rattle.acq_outside.specs.declared.change.DiskCall.{DiskCall}
use Rattle.acq_outside.specs.declared.change.DiskCall.TheVariants.{Write, Cut, Sync, Rename, Remove, SyncNames}
use Rattle.acq_outside.specs.declared.state.FileState.{FileState}
use Rattle.acq_outside.specs.declared.state.NameChange.{NameChange}
use Rattle.acq_outside.specs.declared.state.NameChange.TheVariants.{Made, Moved, Removed}
use Rattle.acq_outside.proofs.Outcomes.{only_synced, over, lay, over_is}
use Rattle.acq_outside.proofs.NamesApart.{part_apart, part_all}
use Rattle.acq_outside.proofs.Traces.{apart_now}

pub none_of_none : (some all : List NameChange) → IsSubsequence some all → all ≡ [] → some ≡ []
none_of_none some all none is = refl
none_of_none some all (left_out change part) is = absurd cc
none_of_none some all (taken change part) is = absurd cc

-- all that reads give may be left
pub reads_left : (s : State) → IsSound s → IsImage s (reads s)
reads_left s sound = record { some = s.pending; part = part_all s.pending; bytes = λ i. (file_at s.files i).seen; outcomes = sound.outcomes; shows = λ name. by_file (names_of s name) }
  where
    by_file : (o : Option ℕ) → seen_at s.files o ≡ option_map (λ i. (file_at s.files i).seen) o
    by_file None = refl
    by_file (Some i) = refl

-- the outcomes of one file that is replaced by another
pub outcome_back : (files : List FileState) (i : ℕ) (file : FileState) (bytes : List ℕ) (k : ℕ) → (k ≡ i → IsOutcome file bytes → IsOutcome (file_at files k) bytes) → IsOutcome (file_at (set files i file) k) bytes → IsOutcome (file_at files k) bytes
outcome_back files i file bytes k at is = ⊎_elim within past (cases_lt i (length files))
  where
    same : i < length files → k ≡ i → IsOutcome (file_at files k) bytes
    same low eq = at eq (subst (λ (f : FileState). IsOutcome f bytes) (ap (λ (j : ℕ). file_at (set files i file) j) eq ∙ get_or-set_same files i file no_file low) is)

    other : k ≢ i → IsOutcome (file_at files k) bytes
    other differ = subst (λ (f : FileState). IsOutcome f bytes) (get_or-set_other files i k file no_file differ) is

    within : i < length files → IsOutcome (file_at files k) bytes
    within low = ⊎_elim (same low) other (cases_eq k i)

    past : length files ≤ i → IsOutcome (file_at files k) bytes
    past high = subst (λ (l : List FileState). IsOutcome (file_at l k) bytes) (set_past files i file high) is

pub file_back : (s : State) (o : Option ℕ) (image : Files) → IsSound s → IsImage (on_file s o (λ file. synced file.seen)) image → IsImage s image
file_back s None image sound is = is
file_back s (Some i) image sound is = record { some = is.some; part = is.part; bytes = is.bytes; outcomes = λ k. back k (is.bytes k) (is.outcomes k); shows = is.shows }
  where
    only : (k : ℕ) (bytes : List ℕ) → k ≡ i → IsOutcome (synced (file_at s.files i).seen) bytes → IsOutcome (file_at s.files k) bytes
    only k bytes same of_it =
        subst (λ (b : List ℕ). IsOutcome (file_at s.files k) b) (ap (λ (j : ℕ). (file_at s.files j).seen) same ∙ sym (only_synced (file_at s.files i).seen bytes of_it)) (sound.outcomes k)

    back : (k : ℕ) (bytes : List ℕ) → IsOutcome (file_at (set s.files i (synced (file_at s.files i).seen)) k) bytes → IsOutcome (file_at s.files k) bytes
    back k bytes of_set = outcome_back s.files i (synced (file_at s.files i).seen) bytes k (only k bytes) of_set

pub names_back : (s : State) (image : Files) → IsImage (after s SyncNames) image → IsImage s image
names_back s image is =
    let empty : is.some ≡ [] = none_of_none is.some [] is.part refl in
    record {
      some = s.pending;
      part = part_all s.pending;
      bytes = is.bytes;
      outcomes = is.outcomes;
      shows = λ name. is.shows name ∙ ap (λ (l : List NameChange). option_map is.bytes (all_renamed (names_of s) l name)) empty;
    }

pub syncs_shrink : (s : State) → IsSound s → SyncsShrink s
syncs_shrink s sound = ((λ name image is. file_back s (names_of s name) image sound is), (λ image is. names_back s image is))

pub names_last : (s : State) → NamesLast s
names_last s image left name =
    let empty : left.some ≡ [] = none_of_none left.some [] left.part refl in
    left.shows name ∙ ap (λ (l : List NameChange). option_map left.bytes (all_renamed (names_of s) l name)) empty

sync_lasts-at : (s : State) (i : ℕ) (o : Option ℕ) (image : Files) (left : IsImage (on_file s o (λ file. synced file.seen)) image) → i < length s.files → o ≡ Some i → left.bytes i ≡ (file_at s.files i).seen
sync_lasts-at s i None image left low is = absurd cc
sync_lasts-at s i (Some k) image left low is =
    let same : k ≡ i = some_same k i is in
    let files : List FileState = set s.files k (synced (file_at s.files k).seen) in
    let here : file_at files i ≡ synced (file_at s.files i).seen =
    ap (λ (j : ℕ). file_at (set s.files j (synced (file_at s.files j).seen)) i) same ∙ get_or-set_same s.files i (synced (file_at s.files i).seen) no_file low in
    only_synced (file_at s.files i).seen (left.bytes i) (subst (λ (f : FileState). IsOutcome f (left.bytes i)) here (left.outcomes i))
  where
    some_same : (a b : ℕ) → Some a ≡ Some b → a ≡ b
    some_same a b e = cc

pub sync_lasts : (s : State) → IsSound s → SyncLasts s
sync_lasts s sound name i image left leads = sync_lasts-at s i (names_of s name) image left ((apart_now s sound).below name i leads) leads

pub leaves_apart : (s : State) → IsSound s → LeavesApart s
leaves_apart s sound image left = part_apart left.some s.pending left.part s.base sound.first (length s.files) sound.apart sound.ascends

torn_outcome : (done torn : FileState) (seen bytes : List ℕ) → torn ≡ record done { seen = seen } → IsOutcome torn bytes → IsOutcome done bytes
torn_outcome done torn seen bytes is outcome = let of_it = subst (λ (f : FileState). IsOutcome f bytes) is outcome in record { long = of_it.long; fits = of_it.fits }

pub leaves_as_done : (done : State) → LeavesAsDone done
leaves_as_done done file torn image like is = record {
  some = is.some;
  part = subst (λ (all : List NameChange). IsSubsequence is.some all) like.pending is.part;
  bytes = is.bytes;
  outcomes = λ i. torn_outcome (file_at done.files i) (file_at torn.files i) (like.content i).0 (is.bytes i) (like.content i).1 (is.outcomes i);
  shows = λ name. is.shows name ∙ ap (λ (m : Names). option_map is.bytes (all_renamed m is.some name)) like.base;
}

-- A call that isn't synced may be lost: what a crash may leave before it, it may leave after it.
fits_drop : (cells : List (Option ℕ)) (bytes : List ℕ) → FitsAll cells bytes → FitsAll (drop 1 cells) (drop 1 bytes)
fits_drop cells [] fits = tt
fits_drop [] (b ∷ bytes) fits = absurd fits
fits_drop (cell ∷ cells) (b ∷ bytes) fits = fits.1

lay_keeps : (new : List ℕ) (cells : List (Option ℕ)) (bytes : List ℕ) → FitsAll cells bytes → FitsAll (lay (all_any new) cells) bytes
lay_keeps new cells [] fits = tt
lay_keeps [] cells (b ∷ bytes) fits = fits
lay_keeps (n ∷ new) cells (b ∷ bytes) fits = (tt, lay_keeps new (drop 1 cells) bytes (fits_drop cells (b ∷ bytes) fits))

over_keeps : (at : ℕ) (cells : List (Option ℕ)) (new bytes : List ℕ) → FitsAll cells bytes → FitsAll (over at cells (all_any new)) bytes
over_keeps at cells new [] fits = tt
over_keeps zero cells new (b ∷ bytes) fits = lay_keeps new cells (b ∷ bytes) fits
over_keeps (suc at) [] new (b ∷ bytes) fits = absurd fits
over_keeps (suc at) (cell ∷ cells) new (b ∷ bytes) fits = (fits.0, over_keeps at cells new bytes fits.1)

write_lost : (file : FileState) (at : ℕ) (new bytes : List ℕ) → IsOutcome file bytes → IsOutcome (file_written file at new) bytes
write_lost file at new bytes is = record {
  long = is.long;
  fits = subst (λ (cells : List (Option ℕ)). FitsAll cells bytes) (sym (over_is (min at (length file.seen)) file.cells (all_any new))) (over_keeps (min at (length file.seen)) file.cells new bytes is.fits);
}

cut_lost : (file : FileState) (len : ℕ) (bytes : List ℕ) → IsOutcome file bytes → IsOutcome (file_cut file len) bytes
cut_lost file len bytes is = record { long = omega (arith, is.long); fits = is.fits }

file_lost : (s : State) (o : Option ℕ) (change : FileState → FileState) → ((file : FileState) (bytes : List ℕ) → IsOutcome file bytes → IsOutcome (change file) bytes) → (image : Files) → IsImage s image → IsImage (on_file s o change) image
file_lost s None change keeps image is = is
file_lost s (Some i) change keeps image is = record { some = is.some; part = is.part; bytes = is.bytes; outcomes = λ k. forth k (is.bytes k) (is.outcomes k); shows = is.shows }
  where
    forth : (k : ℕ) (bytes : List ℕ) → IsOutcome (file_at s.files k) bytes → IsOutcome (file_at (set s.files i (change (file_at s.files i))) k) bytes
    forth k bytes of_it = ⊎_elim within past (cases_lt i (length s.files))
      where
        same : i < length s.files → k ≡ i → IsOutcome (file_at (set s.files i (change (file_at s.files i))) k) bytes
        same low eq =
            subst (λ (f : FileState). IsOutcome f bytes) (sym (ap (λ (j : ℕ). file_at (set s.files i (change (file_at s.files i))) j) eq ∙ get_or-set_same s.files i (change (file_at s.files i)) no_file low))
            (keeps (file_at s.files i) bytes (subst (λ (j : ℕ). IsOutcome (file_at s.files j) bytes) eq of_it))

        other : k ≢ i → IsOutcome (file_at (set s.files i (change (file_at s.files i))) k) bytes
        other differ = subst (λ (f : FileState). IsOutcome f bytes) (sym (get_or-set_other s.files i k (change (file_at s.files i)) no_file differ)) of_it

        within : i < length s.files → IsOutcome (file_at (set s.files i (change (file_at s.files i))) k) bytes
        within low = ⊎_elim (same low) other (cases_eq k i)

        past : length s.files ≤ i → IsOutcome (file_at (set s.files i (change (file_at s.files i))) k) bytes
        past high = subst (λ (l : List FileState). IsOutcome (file_at l k) bytes) (sym (set_past s.files i (change (file_at s.files i)) high)) of_it

-- an empty file that was made is no file to a crash
pub made_files : (files : List FileState) (k : ℕ) → file_at (files ++ synced [] ∷ []) k ≡ file_at files k
made_files files k = ⊎_elim (λ low. get_or_append_left files (synced [] ∷ []) no_file k low) (λ high. get_or-append_right files (synced [] ∷ []) (length files) k no_file refl high ∙ last (k - length files) ∙ sym (get_or_past files k no_file high)) (cases_lt k (length files))
  where
    last : (j : ℕ) → get_or (synced [] ∷ []) j no_file ≡ no_file
    last zero = refl
    last (suc j) = refl

part_left : (some all : List NameChange) (change : NameChange) → IsSubsequence some all → IsSubsequence some (all ++ change ∷ [])
part_left some all change none = left_out change none
part_left some all change (left_out first part) = left_out first (part_left _ _ change part)
part_left some all change (taken first part) = taken first (part_left _ _ change part)

change_lost : (s : State) (o : Option ℕ) (change : NameChange) (image : Files) → IsImage s image → IsImage (with_change s o change) image
change_lost s None change image is = is
change_lost s (Some i) change image is = record { some = is.some; part = part_left is.some s.pending change is.part; bytes = is.bytes; outcomes = is.outcomes; shows = is.shows }

made_lost : (s : State) (name : List ℕ) (len : ℕ) (o : Option ℕ) (image : Files) → IsImage s image → IsImage (cut_or_made s name len o) image
made_lost s name len None image is = record {
  some = is.some;
  part = part_left is.some s.pending (Made name (length s.files)) is.part;
  bytes = is.bytes;
  outcomes = λ k. subst (λ (f : FileState). IsOutcome f (is.bytes k)) (sym (made_files s.files k)) (is.outcomes k);
  shows = is.shows;
}
made_lost s name len (Some i) image is = file_lost s (Some i) (λ file. file_cut file len) (λ file bytes. cut_lost file len bytes) image is

pub may_be_lost : (s : State) → MayBeLost s
may_be_lost s (Write name at bytes) call image is = file_lost s (names_of s name) (λ file. file_written file at bytes) (λ file left. write_lost file at bytes left) image is
may_be_lost s (Cut name len) call image is = made_lost s name len (names_of s name) image is
may_be_lost s (Sync name) call image is = absurd (call tt)
may_be_lost s (Rename from to) call image is = change_lost s (names_of s from) (Moved from to) image is
may_be_lost s (Remove name) call image is = change_lost s (names_of s name) (Removed name) image is
may_be_lost s SyncNames call image is = absurd (call tt)

sync_back : (s : State) (call : DiskCall) → IsSound s → IsSync call → (image : Files) → IsImage (after s call) image → IsImage s image
sync_back s (Write name at bytes) sound sync image is = absurd sync
sync_back s (Cut name len) sound sync image is = absurd sync
sync_back s (Sync name) sound sync image is = file_back s (names_of s name) image sound is
sync_back s (Rename from to) sound sync image is = absurd sync
sync_back s (Remove name) sound sync image is = absurd sync
sync_back s SyncNames sound sync image is = names_back s image is

pub leaves_within : (s : State) → IsSound s → LeavesWithin s
leaves_within s sound call image (inl undone) = ((λ unsynced. may_be_lost s call unsynced image undone), (λ sync. undone))
leaves_within s sound call image (inr torn) =
    let done : IsImage (after s call) image = leaves_as_done (after s call) (changed_file s call) torn.0 image torn.1 torn.2 in
    ((λ unsynced. done), (λ sync. sync_back s call sound sync image done))
