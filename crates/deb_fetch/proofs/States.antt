-- One call on a folder into which a package file is fetched, from one state of it to the next.
use Rattle.std.proofs.Common.{◌≡◌, ◌≢◌, ◌⊎◌, inl, inr, ⊎_elim, refl, sym, ap, ◌∙◌, subst, ℕ, ◌<◌, List, [], ◌∷◌, ◌++◌, length, Option, Some, None, IsSomeAnd, option_map}
use Rattle.std.proofs.lemmas.List.{get_or-set_same}
use Rattle.std.proofs.lemmas.Option.{same_Some}
use Rattle.acq_base.specs.Sum.{Fits}
use Rattle.acq_base.specs.declared.sum.Sum.{Sum}
use Rattle.acq_outside.specs.Disk.{Files}
use Rattle.acq_outside.specs.Crash.{State, IsOutcome, IsSubsequence, none, left_out, taken, IsImage, IsSound, IsTorn, Names, after, all_renamed, file_at, moved_name, names_of, no_file, on_file, reads, synced, with_change, with_name}
use Rattle.acq_outside.proofs.Crashes.{file_back, leaves_as_done, names_back, names_last, none_of_none}
use Rattle.acq_outside.proofs.Outcomes.{only_synced}
use Rattle.acq_outside.proofs.Traces.{all_push, apart_now}
use Rattle.acq_outside.specs.declared.change.DiskCall.TheVariants.{Rename, Sync, SyncNames}
use Rattle.acq_outside.specs.declared.state.FileState.{FileState}
use Rattle.acq_outside.specs.declared.state.NameChange.{NameChange}
use Rattle.acq_outside.specs.declared.state.NameChange.TheVariants.{Moved}
use Rattle.journal_model.specs.Names.{partial}
use Rattle.journal_model.specs.Rest.{file_named}
use Rattle.journal_model.proofs.Aside.{call_changes, other_file, reads_named}
use Rattle.journal_model.proofs.Twice.{with_other, with_same}
use Rattle.deb_fetch.specs.Landing.{HasLanded, HasWhole, IsAsOfOrWhole, IsReady, IsSteady, LandsWhole, LeavesWhole, MayLand}

-- ---- images one after another

pub lands_by_steps : (name : List ℕ) (sum : Sum) (a b c : State) → LandsWhole name sum a b → LandsWhole name sum b c → LandsWhole name sum a c
lands_by_steps name sum a b c first later image is =
    let near = later image is in
    let far = first near.before near.was in
    record {
      before = far.before;
      was = far.was;
      others = λ other differ aside. near.others other differ aside ∙ far.others other differ aside;
      file = ⊎_elim
          (λ same. ⊎_elim (λ earlier. inl (same ∙ earlier)) (λ whole. inr (subst (λ (o : Option (List ℕ)). IsSomeAnd o (λ bytes. Fits bytes sum)) (sym same) whole)) far.file)
          (λ whole. inr whole)
          near.file;
    }

-- what a crash might have left as it is
pub as_before : (name : List ℕ) (sum : Sum) (s : State) (image : Files) → IsImage s image → IsAsOfOrWhole name sum s image
as_before name sum s image is = record { before = image; was = is; others = λ other differ aside. refl; file = inl refl }

-- of a call that failed in its midst a crash leaves what it leaves of the whole one
pub torn_lands : (name : List ℕ) (sum : Sum) (s done torn : State) (changed : Option ℕ) → LandsWhole name sum s done → IsTorn changed done torn → LandsWhole name sum s torn
torn_lands name sum s done torn changed lands part image is = lands image (leaves_as_done done changed torn image part is)

-- ---- files by their names

-- a name that leads to a file leads to a number
pub record LeadsTo (s : State) (name : List ℕ) (file : FileState) : Type 0 where
  pub number : ℕ
  pub leads : names_of s name ≡ Some number
  pub is : file_at s.files number ≡ file

pub leads_to : (s : State) (name : List ℕ) (file : FileState) → file_named s name ≡ Some file → LeadsTo s name file
leads_to s name file is = by (names_of s name) refl is
  where
    by : (o : Option ℕ) → names_of s name ≡ o → option_map (file_at s.files) o ≡ Some file → LeadsTo s name file
    by None leads is = absurd cc
    by (Some i) leads is = record { number = i; leads = leads; is = same_Some (file_at s.files i) file is }

-- ---- the names are synced

pub names_land : (name : List ℕ) (sum : Sum) (s : State) → LandsWhole name sum s (after s SyncNames)
names_land name sum s image is = as_before name sum s image (names_back s image is)

pub names_ready : (name : List ℕ) (sum : Sum) (s : State) → IsReady name sum s → MayLand name sum (after s SyncNames)
names_ready name sum s ready = record { settled = refl; ready = record { bytes = ready.bytes; file = ready.file; sums = ready.sums } }

whole_by : (name bytes : List ℕ) (sum : Sum) (image : Files) (content : Option (List ℕ)) → image name ≡ content → content ≡ Some bytes → Fits bytes sum → HasWhole name sum image
whole_by name bytes sum image content shows is fits = subst (λ (o : Option (List ℕ)). IsSomeAnd o (λ b. Fits b sum)) (sym (shows ∙ is)) fits

left_synced : (s : State) (i : ℕ) (bytes left : List ℕ) → file_at s.files i ≡ synced bytes → IsOutcome (file_at s.files i) left → left ≡ bytes
left_synced s i bytes left is outcome = only_synced bytes left (subst (λ (f : FileState). IsOutcome f left) is outcome)

pub names_whole : (name : List ℕ) (sum : Sum) (s : State) → HasLanded name sum s → LeavesWhole name sum (after s SyncNames)
names_whole name sum s landed image is =
    let to = leads_to s name (synced landed.bytes) landed.file in
    whole_by name landed.bytes sum image (option_map is.bytes (names_of s name)) (names_last s image is name)
    (ap (option_map is.bytes) to.leads ∙ ap (λ (b : List ℕ). Some b) (left_synced s to.number landed.bytes (is.bytes to.number) to.is (is.outcomes to.number))) landed.sums

-- ---- the file that is there is synced

pub sync_lands : (name : List ℕ) (sum : Sum) (s : State) → IsSound s → LandsWhole name sum s (after s (Sync name))
sync_lands name sum s sound image is = as_before name sum s image (file_back s (names_of s name) image sound is)

pub sync_others : (name : List ℕ) (s : State) → IsSound s → (other : List ℕ) → other ≢ name → file_named (after s (Sync name)) other ≡ file_named s other
sync_others name s sound other differ = other_file name None s (after s (Sync name)) (call_changes name s (Sync name) sound refl) other differ

same_pending : (s : State) (o : Option ℕ) (change : FileState → FileState) → (on_file s o change).pending ≡ s.pending
same_pending s None change = refl
same_pending s (Some i) change = refl

synced_at : (s : State) (o : Option ℕ) (name : List ℕ) (file : FileState) → names_of s name ≡ o → ((i : ℕ) → o ≡ Some i → i < length s.files)
    → file_named (on_file s o (λ f. synced f.seen)) name ≡ Some file → file ≡ synced file.seen
synced_at s None name file leads within is = absurd (let nowhere : file_named s name ≡ None = ap (option_map (file_at s.files)) leads in cc)
synced_at s (Some i) name file leads within is =
    let seen : List ℕ = (file_at s.files i).seen in
    let led : file_named (on_file s (Some i) (λ f. synced f.seen)) name ≡ Some (synced seen) =
    ap (option_map (file_at (on_file s (Some i) (λ f. synced f.seen)).files)) leads ∙ ap (λ (f : FileState). Some f) (get_or-set_same s.files i (synced seen) no_file (within i refl)) in
    let same : synced seen ≡ file = same_Some (synced seen) file (sym led ∙ is) in
    sym same ∙ ap (λ (f : FileState). synced f.seen) same

pub sync_steady : (name : List ℕ) (s : State) → IsSound s → s.pending ≡ [] → IsSteady name (after s (Sync name))
sync_steady name s sound settled = record {
  settled = same_pending s (names_of s name) (λ f. synced f.seen) ∙ settled;
  lasts = λ file is. synced_at s (names_of s name) name file refl (λ i leads. (apart_now s sound).below name i leads) is;
}

-- a file that lasts and is read whole is whole in all that a crash leaves, where no change of names is pending
record HasRead (s : State) (name : List ℕ) (sum : Sum) : Type 0 where
  file : FileState
  is : file_named s name ≡ Some file
  fits : Fits file.seen sum

read_file : (s : State) (name : List ℕ) (sum : Sum) → IsSomeAnd (reads s name) (λ bytes. Fits bytes sum) → HasRead s name sum
read_file s name sum whole = by (file_named s name) refl (subst (λ (o : Option (List ℕ)). IsSomeAnd o (λ bytes. Fits bytes sum)) (reads_named s name) whole)
  where
    by : (o : Option FileState) → file_named s name ≡ o → IsSomeAnd (option_map (λ (f : FileState). f.seen) o) (λ bytes. Fits bytes sum) → HasRead s name sum
    by None is whole = absurd whole
    by (Some file) is whole = record { file = file; is = is; fits = whole }

settled_names : (s : State) → s.pending ≡ [] → names_of s ≡ s.base
settled_names s settled = ap (all_renamed s.base) settled

settled_shows : (s : State) (image : Files) (is : IsImage s image) (name : List ℕ) → s.pending ≡ [] → image name ≡ option_map is.bytes (names_of s name)
settled_shows s image is name settled =
    let empty : is.some ≡ [] = none_of_none is.some s.pending is.part settled in
    is.shows name ∙ ap (λ (l : List NameChange). option_map is.bytes (all_renamed s.base l name)) empty ∙ ap (λ (m : Names). option_map is.bytes (m name)) (sym (settled_names s settled))

pub steady_whole : (name : List ℕ) (sum : Sum) (s : State) → IsSteady name s → IsSomeAnd (reads s name) (λ bytes. Fits bytes sum) → LeavesWhole name sum s
steady_whole name sum s steady whole image is =
    let read = read_file s name sum whole in
    let bytes : List ℕ = read.file.seen in
    let to = leads_to s name read.file read.is in
    whole_by name bytes sum image (option_map is.bytes (names_of s name)) (settled_shows s image is name steady.settled)
    (ap (option_map is.bytes) to.leads ∙ ap (λ (b : List ℕ). Some b) (left_synced s to.number bytes (is.bytes to.number) (to.is ∙ steady.lasts read.file read.is) (is.outcomes to.number))) read.fits

-- ---- the file on its way gets its name

one_or_none : (change : NameChange) (some all : List NameChange) → IsSubsequence some all → all ≡ change ∷ [] → (some ≡ []) ⊎ (some ≡ change ∷ [])
one_or_none change some all none is = absurd cc
one_or_none change some all (left_out first part) is = inl (none_of_none _ _ part cc)
one_or_none change some all (taken first part) is = inr (let rest = none_of_none _ _ part cc in cc)

-- the state with its change of names
abbrev renamed_state : State → List ℕ → State
renamed_state s name = record { files = s.files; base = s.base; pending = s.pending ++ Moved (partial name) name ∷ [] }

rename_is : (name : List ℕ) (s : State) (i : ℕ) → names_of s (partial name) ≡ Some i → after s (Rename (partial name) name) ≡ renamed_state s name
rename_is name s i leads = ap (λ (o : Option ℕ). with_change s o (Moved (partial name) name)) leads

moved_here : (m : Names) (name : List ℕ) (i : ℕ) → moved_name m (partial name) name (Some i) name ≡ Some i
moved_here m name i = with_same (with_name m (partial name) None) name (Some i) name refl

moved_other : (m : Names) (name : List ℕ) (i : ℕ) (other : List ℕ) → other ≢ name → other ≢ partial name → moved_name m (partial name) name (Some i) other ≡ m other
moved_other m name i other differ aside =
    with_other (with_name m (partial name) None) name (Some i) other (λ same. differ (sym same)) ∙ with_other m (partial name) None other (λ same. aside (sym same))

moved_image : (name : List ℕ) (sum : Sum) (s : State) (i : ℕ) (bytes : List ℕ) → s.pending ≡ [] → s.base (partial name) ≡ Some i → file_at s.files i ≡ synced bytes → Fits bytes sum → LandsWhole name sum s (renamed_state s name)
moved_image name sum s i bytes settled leads synced_is fits image is = ⊎_elim before done (one_or_none (Moved (partial name) name) is.some (s.pending ++ Moved (partial name) name ∷ []) is.part (ap (λ (l : List NameChange). l ++ Moved (partial name) name ∷ []) settled))
  where
    no_part : (all : List NameChange) → all ≡ [] → IsSubsequence [] all
    no_part all empty = subst (λ (l : List NameChange). IsSubsequence [] l) (sym empty) none

    was : IsImage s (λ other. option_map is.bytes (s.base other))
    was = record { some = []; part = no_part s.pending settled; bytes = is.bytes; outcomes = is.outcomes; shows = λ other. refl }

    before : is.some ≡ [] → IsAsOfOrWhole name sum s image
    before empty = record {
      before = λ other. option_map is.bytes (s.base other);
      was = was;
      others = λ other differ aside. is.shows other ∙ ap (λ (l : List NameChange). option_map is.bytes (all_renamed s.base l other)) empty;
      file = inl (is.shows name ∙ ap (λ (l : List NameChange). option_map is.bytes (all_renamed s.base l name)) empty);
    }

    shows : is.some ≡ Moved (partial name) name ∷ [] → (other : List ℕ) → image other ≡ option_map is.bytes (moved_name s.base (partial name) name (Some i) other)
    shows one other =
        is.shows other ∙ ap (λ (l : List NameChange). option_map is.bytes (all_renamed s.base l other)) one
        ∙ ap (λ (o : Option ℕ). option_map is.bytes (moved_name s.base (partial name) name o other)) leads

    done : is.some ≡ Moved (partial name) name ∷ [] → IsAsOfOrWhole name sum s image
    done one = record {
      before = λ other. option_map is.bytes (s.base other);
      was = was;
      others = λ other differ aside. shows one other ∙ ap (option_map is.bytes) (moved_other s.base name i other differ aside);
      file = inr (whole_by name bytes sum image (option_map is.bytes (moved_name s.base (partial name) name (Some i) name)) (shows one name)
          (ap (option_map is.bytes) (moved_here s.base name i) ∙ ap (λ (b : List ℕ). Some b) (left_synced s i bytes (is.bytes i) synced_is (is.outcomes i))) fits);
    }

pub rename_lands : (name : List ℕ) (sum : Sum) (s : State) → MayLand name sum s → LandsWhole name sum s (after s (Rename (partial name) name))
rename_lands name sum s may =
    let to = leads_to s (partial name) (synced may.ready.bytes) may.ready.file in
    let base : s.base (partial name) ≡ Some to.number = ap (λ (m : Names). m (partial name)) (sym (settled_names s may.settled)) ∙ to.leads in
    subst (λ (t : State). LandsWhole name sum s t) (sym (rename_is name s to.number to.leads)) (moved_image name sum s to.number may.ready.bytes may.settled base to.is may.ready.sums)

names_moved : (name : List ℕ) (s : State) (i : ℕ) → names_of s (partial name) ≡ Some i → (other : List ℕ) → names_of (renamed_state s name) other ≡ moved_name (names_of s) (partial name) name (Some i) other
names_moved name s i leads other =
    ap (λ (m : Names). m other) (all_push s.base s.pending (Moved (partial name) name)) ∙ ap (λ (o : Option ℕ). moved_name (names_of s) (partial name) name o other) leads

pub rename_landed : (name : List ℕ) (sum : Sum) (s : State) → MayLand name sum s → HasLanded name sum (after s (Rename (partial name) name))
rename_landed name sum s may =
    let to = leads_to s (partial name) (synced may.ready.bytes) may.ready.file in
    subst (λ (t : State). HasLanded name sum t) (sym (rename_is name s to.number to.leads)) (record {
      bytes = may.ready.bytes;
      file = ap (option_map (file_at s.files)) (names_moved name s to.number to.leads name ∙ moved_here (names_of s) name to.number) ∙ ap (λ (f : FileState). Some f) to.is;
      sums = may.ready.sums;
    })

pub rename_others : (name : List ℕ) (sum : Sum) (s : State) → MayLand name sum s → (other : List ℕ) → other ≢ name → other ≢ partial name → file_named (after s (Rename (partial name) name)) other ≡ file_named s other
rename_others name sum s may other differ aside =
    let to = leads_to s (partial name) (synced may.ready.bytes) may.ready.file in
    ap (λ (t : State). file_named t other) (rename_is name s to.number to.leads)
    ∙ ap (option_map (file_at s.files)) (names_moved name s to.number to.leads other ∙ moved_other (names_of s) name to.number other differ aside)
