-- What a crash may leave of a disk (POSIX fsync, rename, unlink): a disk is its files by number, the names as they were at
-- the last sync of names, and the changes of names since.
use Rattle.std.specs.Prelude.{◌≡◌, ◌≢◌, ◌⊎◌, ℕ, ◌+◌, ◌<◌, ◌≤◌, min, Bool, true, false, if◌then◌else◌, List, [], ◌∷◌, ◌++◌, length, take, get_or, set, Option, Some, None, option_map, Result, Ok, Err}
use Rattle.acq_outside.specs.Disk.{Files, same_name, spliced}
use Rattle.acq_outside.specs.History.{FileRows, Past}
use Rattle.acq_outside.specs.declared.change.DiskCall.{DiskCall}
use Rattle.acq_outside.specs.declared.change.DiskCall.TheVariants.{Write, Cut, Sync, Rename, Remove, SyncNames}
use Rattle.acq_outside.specs.declared.state.FileState.{FileState}
use Rattle.acq_outside.specs.declared.state.NameChange.{NameChange}
use Rattle.acq_outside.specs.declared.state.NameChange.TheVariants.{Made, Moved, Removed}

-- A file. What reads give is its latest content; a crash leaves of each byte the one that lasts, or any where a write
-- that isn't synced covered it or that lies past the end that was synced; and a length between the least and the
-- greatest that the file had since its last sync.

-- what a crash leaves of a byte: the one that lasts, or any
abbrev pub Fits : Option ℕ → ℕ → Type 0
Fits None b = Unit {0}
Fits (Some lasting) b = b ≡ lasting

-- no more bytes than cells, and each as its cell says
abbrev pub FitsAll : List (Option ℕ) → List ℕ → Type 0
FitsAll cells [] = Unit {0}
FitsAll [] (b ∷ bytes) = ⊥
FitsAll (cell ∷ cells) (b ∷ bytes) = Fits cell b × FitsAll cells bytes

-- what a crash may leave of a file
pub record IsOutcome (file : FileState) (bytes : List ℕ) : Type 0 where
  pub long : file.least ≤ length bytes
  pub fits : FitsAll file.cells bytes

-- a file that isn't there
abbrev pub no_file : FileState
no_file = record { seen = []; cells = []; least = 0 }

abbrev pub all_kept : List ℕ → List (Option ℕ)
all_kept [] = []
all_kept (b ∷ bytes) = Some b ∷ all_kept bytes

abbrev pub all_any : List ℕ → List (Option ℕ)
all_any [] = []
all_any (b ∷ bytes) = None ∷ all_any bytes

-- fsync: what reads give lasts, and nothing else is left
abbrev pub synced : List ℕ → FileState
synced bytes = record { seen = bytes; cells = all_kept bytes; least = length bytes }

-- a write within the file or at its end: each byte of its range may be any until the next sync
abbrev pub file_written : FileState → ℕ → List ℕ → FileState
file_written file at bytes =
    record { seen = spliced file.seen at bytes; cells = spliced file.cells (min at (length file.seen)) (all_any bytes); least = file.least }

-- a cut: the file may come back as long as it was, with the bytes that it had
abbrev pub file_cut : FileState → ℕ → FileState
file_cut file len = record { seen = take len file.seen; cells = file.cells; least = min file.least len }

-- The names. Each leads to a file, and a change of names lasts once the names are synced (fsync of the folder); until
-- then any subsequence of the changes, in order, may have happened.

-- which file a name leads to
abbrev pub Names : Type 0
Names = List ℕ → Option ℕ

abbrev pub with_name : Names → List ℕ → Option ℕ → Names
with_name names name file = λ other. if same_name name other then file else names other

abbrev pub moved_name : Names → List ℕ → List ℕ → Option ℕ → Names
moved_name names from to None = names
moved_name names from to (Some file) = with_name (with_name names from None) to (Some file)

-- a change whose file isn't there does nothing
abbrev pub renamed : Names → NameChange → Names
renamed names (Made name file) = with_name names name (Some file)
renamed names (Moved from to) = moved_name names from to (names from)
renamed names (Removed name) = with_name names name None

abbrev pub all_renamed : Names → List NameChange → Names
all_renamed names [] = names
all_renamed names (change ∷ changes) = all_renamed (renamed names change) changes

-- some of the second list, in order
pub data IsSubsequence : List NameChange → List NameChange → Type 0 where
  none : IsSubsequence [] []
  left_out : {some all : List NameChange} → (change : NameChange) → IsSubsequence some all → IsSubsequence some (change ∷ all)
  taken : {some all : List NameChange} → (change : NameChange) → IsSubsequence some all → IsSubsequence (change ∷ some) (change ∷ all)

-- A disk at one moment.
pub record State : Type 0 where
  pub files : List FileState
  -- where names led at the last sync of names
  pub base : List ℕ → Option ℕ
  -- the changes of names since, in order
  pub pending : List NameChange

abbrev pub file_at : List FileState → ℕ → FileState
file_at files i = get_or files i no_file

-- where names lead now
abbrev pub names_of : State → Names
names_of s = all_renamed s.base s.pending

abbrev pub seen_at : List FileState → Option ℕ → Option (List ℕ)
seen_at files None = None
seen_at files (Some i) = Some (file_at files i).seen

-- what reads give
abbrev pub reads : State → Files
reads s = λ name. seen_at s.files (names_of s name)

-- what a crash may leave: some of the pending changes of names, and of each file one of its outcomes
pub record IsImage (s : State) (image : Files) : Type 0 where
  pub some : List NameChange
  pub part : IsSubsequence some s.pending
  pub bytes : ℕ → List ℕ
  pub outcomes : (i : ℕ) → IsOutcome (file_at s.files i) (bytes i)
  pub shows : (name : List ℕ) → image name ≡ option_map bytes (all_renamed s.base some name)

-- The calls.
abbrev pub on_file : State → Option ℕ → (FileState → FileState) → State
on_file s None change = s
on_file s (Some i) change = record { files = set s.files i (change (file_at s.files i)); base = s.base; pending = s.pending }

-- the change of a name that leads to a file is pending; one of a name that leads nowhere does nothing
abbrev pub with_change : State → Option ℕ → NameChange → State
with_change s None change = s
with_change s (Some i) change = record { files = s.files; base = s.base; pending = s.pending ++ change ∷ [] }

-- an absent file is made, empty
abbrev pub cut_or_made : State → List ℕ → ℕ → Option ℕ → State
cut_or_made s name len None = record { files = s.files ++ synced [] ∷ []; base = s.base; pending = s.pending ++ Made name (length s.files) ∷ [] }
cut_or_made s name len (Some i) = on_file s (Some i) (λ file. file_cut file len)

-- a disk after a call that is done
abbrev pub after : State → DiskCall → State
after s (Write name at bytes) = on_file s (names_of s name) (λ file. file_written file at bytes)
after s (Cut name len) = cut_or_made s name len (names_of s name)
after s (Sync name) = on_file s (names_of s name) (λ file. synced file.seen)
after s (Rename from to) = with_change s (names_of s from) (Moved from to)
after s (Remove name) = with_change s (names_of s name) (Removed name)
after s SyncNames = record { files = s.files; base = names_of s; pending = [] }

-- the file whose content a call changes, where it does
abbrev pub changed_file : State → DiskCall → Option ℕ
changed_file s (Write name at bytes) = names_of s name
changed_file s (Cut name len) = names_of (after s (Cut name len)) name
changed_file s (Sync name) = None
changed_file s (Rename from to) = None
changed_file s (Remove name) = None
changed_file s SyncNames = None

-- A disk after a call that failed in its midst: as after the call, but for what reads give of the file that it changes.
-- So a crash leaves of it what it may leave once the call is done, and of a write or a cut that is what it may leave
-- before it and more.
pub record IsTorn (file : Option ℕ) (done torn : State) : Type 0 where
  pub base : torn.base ≡ done.base
  pub pending : torn.pending ≡ done.pending
  pub others : (i : ℕ) → Some i ≢ file → file_at torn.files i ≡ file_at done.files i
  pub content : (i : ℕ) → (seen : List ℕ) × (file_at torn.files i ≡ record (file_at done.files i) { seen = seen })

-- What a call makes of the states that a disk has had, the newest first; a disk without any tells nothing. A call that
-- failed is not done, or done in part.
abbrev pub Goes : {T E : Type 0} → DiskCall → List State → List State → Result T E → Type 0
Goes call [] new result = new ≡ []
Goes call (s ∷ past) new (Ok x) = new ≡ after s call ∷ s ∷ past
Goes call (s ∷ past) new (Err e) = (new ≡ s ∷ past) ⊎ ((torn : State) × IsTorn (changed_file s call) (after s call) torn × (new ≡ torn ∷ s ∷ past))

-- Which states a disk may have.

-- no two names lead to one file, and each leads to one that is there
pub record IsApart (names : Names) (count : ℕ) : Type 0 where
  pub one : (a b : List ℕ) (i : ℕ) → names a ≡ Some i → names b ≡ Some i → a ≡ b
  pub below : (a : List ℕ) (i : ℕ) → names a ≡ Some i → i < count

-- files are made with rising numbers
abbrev pub Ascends : ℕ → List NameChange → ℕ → Type 0
Ascends n [] top = n ≤ top
Ascends n (Made name i ∷ changes) top = (n ≤ i) × Ascends (i + 1) changes top
Ascends n (Moved from to ∷ changes) top = Ascends n changes top
Ascends n (Removed name ∷ changes) top = Ascends n changes top

-- what reads give of a file is one of its outcomes, and no two names lead to one file in any part of the changes
pub record IsSound (s : State) : Type 0 where
  pub outcomes : (i : ℕ) → IsOutcome (file_at s.files i) (file_at s.files i).seen
  pub first : ℕ
  pub apart : IsApart s.base first
  pub ascends : Ascends first s.pending (length s.files)

abbrev pub AllSound : List State → Type 0
AllSound [] = Unit {0}
AllSound (s ∷ past) = IsSound s × AllSound past

-- a disk tells its files just where it tells its states, and they are what reads give at the newest
abbrev pub IsShown : Bool → Files → List State → Type 0
IsShown tells files [] = tells ≡ false
IsShown tells files (s ∷ past) = (tells ≡ true) × (files ≡ reads s)

-- A disk that begins with these files, of which all lasts.
abbrev pub number_of : ℕ → FileRows → Names
number_of i [] = λ name. None
number_of i (row ∷ rows) = with_name (number_of (i + 1) rows) row.0 (Some i)

abbrev pub synced_rows : FileRows → List FileState
synced_rows [] = []
synced_rows (row ∷ rows) = synced row.1 ∷ synced_rows rows

abbrev pub start_state : FileRows → State
start_state rows = record { files = synced_rows rows; base = number_of 0 rows; pending = [] }

-- its states after these calls
abbrev pub trace_after : State → List State → List DiskCall → List State
trace_after s past [] = s ∷ past
trace_after s past (call ∷ calls) = trace_after (after s call) (s ∷ past) calls

abbrev pub trace_of : Past → List State
trace_of past = trace_after (start_state past.start) [] past.changes

-- a disk as it is
abbrev pub newest : List State → State
newest [] = start_state []
newest (s ∷ past) = s
