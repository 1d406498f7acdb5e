-- Which steps a journal's bytes say, read from left to right. A reading answers a value and the bytes behind it, or how
-- many bytes are left from the first one on that can't stand where it stands.
use Rattle.std.specs.Prelude.{◌≡◌, ℕ, zero, suc, ◌-◌, nat_eq, nat_lt, Bool, true, false, not, ◌&&◌, ◌||◌, if◌then◌else◌, List, [], ◌∷◌, ◌++◌, length, take, drop, Result, Ok, Err, Option, Some, None, bytes_eq}
use Rattle.std.specs.Int.{Width, w16, w32, byte_len, from_be_bytes}
use Rattle.std.specs.Str.{is_utf8}
use Rattle.std.specs.List.{list_any}
use Rattle.sha2.specs.Sha256.{sha256}
use Rattle.acq_outside.specs.Disk.{same_name}
use Rattle.journal_model.specs.Names.{lock, journal, partial, stays_inside}
use Rattle.journal_model.specs.declared.step.Step.{Step}
use Rattle.journal_model.specs.declared.step.Step.TheVariants.{Put, Drop}
use Rattle.journal_model.specs.declared.record.ReadError.{ReadError}
use Rattle.journal_model.specs.declared.record.ReadError.TheVariants as errors
use Rattle.journal_model.specs.declared.step.JournalState.{JournalState}
use Rattle.journal_model.specs.declared.step.JournalState.TheVariants.{Open, Damaged, Shut}

infixl 10 ◌>>=◌
abbrev pub ◌>>=◌ : {A B : Type 0} → Result A ℕ → (A → Result B ℕ) → Result B ℕ
(Ok x) >>= f = f x
(Err left) >>= f = Err left

-- a number of so many bytes, the highest first
abbrev pub number_at : Width → List ℕ → Result (ℕ × List ℕ) ℕ
number_at w bytes = if nat_lt (length bytes) (byte_len w) then Err 0 else Ok (from_be_bytes w (take (byte_len w) bytes), drop (byte_len w) bytes)

-- 0 is a Put and 1 a Drop
abbrev pub kind_at : List ℕ → Result (Bool × List ℕ) ℕ
kind_at [] = Err 0
kind_at (kind ∷ rest) = if nat_lt 1 kind then Err (length (kind ∷ rest)) else Ok (nat_eq kind 0, rest)

abbrev pub step_named : Bool → List ℕ → Step
step_named true name = Put name
step_named false name = Drop name

abbrev pub most_long : Bool → ℕ
most_long true = 247
most_long false = 255

-- both change one name: a Put changes its own, and that under `partial/`
abbrev pub clashes : Step → Step → Bool
clashes (Put a) (Put b) = same_name a b || (same_name a (partial b) || same_name (partial a) b)
clashes (Put a) (Drop b) = same_name a b || same_name (partial a) b
clashes (Drop a) (Put b) = same_name a b || same_name a (partial b)
clashes (Drop a) (Drop b) = same_name a b

-- a name that a record may have: UTF-8 of 1 to 255 bytes, or to 247 for a Put, which stays in the folder and is neither
-- `lock` nor `journal`
abbrev pub is_name_of : Bool → List ℕ → Bool
is_name_of put name =
    ((not (nat_eq (length name) 0) && not (nat_lt (most_long put) (length name))) && (is_utf8 name && (not (same_name name lock) && not (same_name name journal))))
    && stays_inside put name

-- whether a record may have this step behind those before
abbrev pub is_allowed : List Step → Bool → List ℕ → Bool
is_allowed before put name = is_name_of put name && not (list_any (clashes (step_named put name)) before)

-- a name's length in two bytes, and the name
unfoldable pub name_at : List Step → Bool → List ℕ → Result (List ℕ × List ℕ) ℕ
name_at before put bytes = do
  n ← number_at w16 bytes
  if nat_lt (length n.1) n.0 then Err 0 else (if is_allowed before put (take n.0 n.1) then Ok (take n.0 n.1, drop n.0 n.1) else Err (length n.1))

unfoldable pub step_at : List Step → List ℕ → Result (Step × List ℕ) ℕ
step_at before bytes = do
  kind ← kind_at bytes
  name ← name_at before kind.0 kind.1
  Ok (step_named kind.0 name.0, name.1)

-- so many further steps, behind those before
unfoldable pub steps_at : ℕ → List Step → List ℕ → Result (List Step × List ℕ) ℕ
steps_at zero before bytes = Ok (before, bytes)
steps_at (suc n) before bytes = do
  step ← step_at before bytes
  steps_at n (before ++ step.0 ∷ []) step.1

-- a count of steps in four bytes, and so many steps
unfoldable pub group_at : List Step → List ℕ → Result (List Step × List ℕ) ℕ
group_at before bytes = do
  count ← number_at w32 bytes
  steps_at count.0 before count.1

unfoldable pub groups_at : ℕ → List Step → List ℕ → Result (List Step × List ℕ) ℕ
groups_at zero before bytes = Ok (before, bytes)
groups_at (suc n) before bytes = do
  steps ← group_at before bytes
  groups_at n steps.0 steps.1

-- where the file ends
abbrev pub ended : List Step → List ℕ → Result (List Step) ℕ
ended steps [] = Ok steps
ended steps (b ∷ rest) = Err (length (b ∷ rest))

-- version 1: one group
unfoldable pub old_at : List ℕ → Result (List Step) ℕ
old_at bytes = do
  steps ← group_at [] bytes
  ended steps.0 steps.1

-- the SHA-256 digest (FIPS 180-4, section 6.2) of all bytes of the body before it, and the file's end
unfoldable pub sealed : List ℕ → List Step → List ℕ → Result (List Step) ℕ
sealed body steps rest =
    if nat_lt (length rest) 32 then Err 0
    else (if bytes_eq (take 32 rest) (sha256 (take (length body - length rest) body)) then ended steps (drop 32 rest) else Err (length rest))

-- version 2: a count of groups in four bytes, so many groups, and the digest
unfoldable pub new_at : List ℕ → List ℕ → Result (List Step) ℕ
new_at body bytes = do
  count ← number_at w32 bytes
  steps ← groups_at count.0 [] count.1
  sealed body steps.0 steps.1

-- a version byte, 1 or 2, and what the version has
abbrev pub steps_of_body : List ℕ → Result (List Step) ℕ
steps_of_body [] = Err 0
steps_of_body (version ∷ rest) = if nat_eq version 1 then old_at rest else (if nat_eq version 2 then new_at (version ∷ rest) rest else Err (length (version ∷ rest)))

-- Byte 0 is the gate: open where it is 1. Behind an open gate stands the record, or damage at a place of the file.
abbrev pub journal_state_with : ℕ → Result (List Step) ℕ → JournalState
journal_state_with long (Ok steps) = Open steps
journal_state_with long (Err left) = Damaged (long - left)

abbrev pub journal_state_of : List ℕ → JournalState
journal_state_of [] = Shut
journal_state_of (gate ∷ body) = if nat_eq gate 1 then journal_state_with (length (gate ∷ body)) (steps_of_body body) else Shut

abbrev pub journal_state_in : Option (List ℕ) → JournalState
journal_state_in None = Shut
journal_state_in (Some bytes) = journal_state_of bytes

-- Why a reading stopped, as the code says it.

-- the reading stopped there, unless memory ran out
abbrev pub Fails : {Y : Type 0} → ReadError → Result Y ℕ → Type 0
Fails errors.NoMemory read = Unit {0}
Fails (errors.Bad left) read = read ≡ Err left

-- what a function returned, seen by view, is what the reading gives, unless memory ran out
abbrev pub Gives : {X Y : Type 0} → (X → Y) → Result X ReadError → Result Y ℕ → Type 0
Gives view (Ok x) read = read ≡ Ok (view x)
Gives view (Err e) read = Fails e read
