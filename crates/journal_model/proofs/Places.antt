-- Where damage is told, it is behind the gate and within the file, or at its end.
use Rattle.std.proofs.Common.{◌≡◌, arith, ℕ, zero, suc, ◌-◌, ◌≤◌, nat_eq, nat_lt, Bool, true, false, if◌then◌else◌, List, [], ◌∷◌, ◌++◌, length, take, drop, Result, Ok, Err, length-drop, bytes_eq}
use Rattle.std.specs.Int.{Width, w16, w32, byte_len, from_be_bytes}
use Rattle.sha2.specs.Sha256.{sha256}
use Rattle.journal_model.specs.Reading.{◌>>=◌, number_at, kind_at, step_named, is_allowed, name_at, step_at, steps_at, group_at, groups_at, ended, sealed, old_at, new_at, steps_of_body, journal_state_with, journal_state_of}
use Rattle.journal_model.specs.declared.step.Step.{Step}
use Rattle.journal_model.specs.declared.step.JournalState.TheVariants.{Damaged, Shut}

-- a reading leaves no more bytes than there were
abbrev Within : {A : Type 0} → ℕ → Result (A × List ℕ) ℕ → Type 0
Within long (Ok x) = length x.1 ≤ long
Within long (Err left) = left ≤ long

abbrev StopsWithin : {A : Type 0} → ℕ → Result A ℕ → Type 0
StopsWithin long (Ok x) = Unit {0}
StopsWithin long (Err left) = left ≤ long

then_within : {A B : Type 0} (long : ℕ) (r : Result (A × List ℕ) ℕ) (f : A × List ℕ → Result (B × List ℕ) ℕ) → Within long r → ((x : A × List ℕ) → length x.1 ≤ long → Within long (f x)) → Within long (r >>= f)
then_within long (Ok x) f first later = later x first
then_within long (Err left) f first later = first

then_stops : {A B : Type 0} (long : ℕ) (r : Result (A × List ℕ) ℕ) (f : A × List ℕ → Result B ℕ) → Within long r → ((x : A × List ℕ) → length x.1 ≤ long → StopsWithin long (f x)) → StopsWithin long (r >>= f)
then_stops long (Ok x) f first later = later x first
then_stops long (Err left) f first later = first

dropped : (n : ℕ) (bytes : List ℕ) → length (drop n bytes) ≤ length bytes
dropped n bytes = omega (arith, length-drop n bytes)

number_within : (w : Width) (bytes : List ℕ) (long : ℕ) → length bytes ≤ long → Within long (number_at w bytes)
number_within w bytes long fits = by (nat_lt (length bytes) (byte_len w))
  where
    by : (t : Bool) → Within long (if t then Err 0 else Ok (from_be_bytes w (take (byte_len w) bytes), drop (byte_len w) bytes))
    by true = omega arith
    by false = omega (arith, dropped (byte_len w) bytes, fits)

kind_within : (bytes : List ℕ) (long : ℕ) → length bytes ≤ long → Within long (kind_at bytes)
kind_within [] long fits = omega arith
kind_within (kind ∷ rest) long fits = by (nat_lt 1 kind)
  where
    by : (t : Bool) → Within long (if t then Err (length (kind ∷ rest)) else Ok (nat_eq kind 0, rest))
    by true = fits
    by false = omega (arith, fits)

name_within : (before : List Step) (put : Bool) (bytes : List ℕ) (long : ℕ) → length bytes ≤ long → Within long (name_at before put bytes)
unfolding name_at
name_within before put bytes long fits =
    then_within long (number_at w16 bytes) (λ n. if nat_lt (length n.1) n.0 then Err 0 else (if is_allowed before put (take n.0 n.1) then Ok (take n.0 n.1, drop n.0 n.1) else Err (length n.1))) (number_within w16 bytes long fits) (λ n fits_n. by n fits_n (nat_lt (length n.1) n.0) (is_allowed before put (take n.0 n.1)))
  where
    by : (n : ℕ × List ℕ) → length n.1 ≤ long → (t u : Bool) → Within long (if t then Err 0 else (if u then Ok (take n.0 n.1, drop n.0 n.1) else Err (length n.1)))
    by n fits_n true u = omega arith
    by n fits_n false true = omega (arith, dropped n.0 n.1, fits_n)
    by n fits_n false false = fits_n

step_within : (before : List Step) (bytes : List ℕ) (long : ℕ) → length bytes ≤ long → Within long (step_at before bytes)
unfolding step_at
step_within before bytes long fits =
    then_within long (kind_at bytes) (λ kind. name_at before kind.0 kind.1 >>= λ name. Ok (step_named kind.0 name.0, name.1)) (kind_within bytes long fits)
    (λ kind fits_kind. then_within long (name_at before kind.0 kind.1) (λ name. Ok (step_named kind.0 name.0, name.1)) (name_within before kind.0 kind.1 long fits_kind) (λ name fits_name. fits_name))

steps_within : (n : ℕ) (before : List Step) (bytes : List ℕ) (long : ℕ) → length bytes ≤ long → Within long (steps_at n before bytes)
unfolding steps_at
steps_within zero before bytes long fits = fits
steps_within (suc n) before bytes long fits =
    then_within long (step_at before bytes) (λ step. steps_at n (before ++ step.0 ∷ []) step.1) (step_within before bytes long fits) (λ step fits_step. steps_within n (before ++ step.0 ∷ []) step.1 long fits_step)

group_within : (before : List Step) (bytes : List ℕ) (long : ℕ) → length bytes ≤ long → Within long (group_at before bytes)
unfolding group_at
group_within before bytes long fits =
    then_within long (number_at w32 bytes) (λ count. steps_at count.0 before count.1) (number_within w32 bytes long fits) (λ count fits_count. steps_within count.0 before count.1 long fits_count)

groups_within : (n : ℕ) (before : List Step) (bytes : List ℕ) (long : ℕ) → length bytes ≤ long → Within long (groups_at n before bytes)
unfolding groups_at
groups_within zero before bytes long fits = fits
groups_within (suc n) before bytes long fits =
    then_within long (group_at before bytes) (λ steps. groups_at n steps.0 steps.1) (group_within before bytes long fits) (λ steps fits_steps. groups_within n steps.0 steps.1 long fits_steps)

ended_stops : (steps : List Step) (rest : List ℕ) (long : ℕ) → length rest ≤ long → StopsWithin long (ended steps rest)
ended_stops steps [] long fits = tt
ended_stops steps (b ∷ rest) long fits = fits

sealed_stops : (body : List ℕ) (steps : List Step) (rest : List ℕ) (long : ℕ) → length rest ≤ long → StopsWithin long (sealed body steps rest)
unfolding sealed
sealed_stops body steps rest long fits = by (nat_lt (length rest) 32) (bytes_eq (take 32 rest) (sha256 (take (length body - length rest) body)))
  where
    by : (t u : Bool) → StopsWithin long (if t then Err 0 else (if u then ended steps (drop 32 rest) else Err (length rest)))
    by true u = omega arith
    by false true = ended_stops steps (drop 32 rest) long (omega (arith, dropped 32 rest, fits))
    by false false = fits

old_stops : (bytes : List ℕ) (long : ℕ) → length bytes ≤ long → StopsWithin long (old_at bytes)
unfolding old_at
old_stops bytes long fits = then_stops long (group_at [] bytes) (λ steps. ended steps.0 steps.1) (group_within [] bytes long fits) (λ steps fits_steps. ended_stops steps.0 steps.1 long fits_steps)

new_stops : (body bytes : List ℕ) (long : ℕ) → length bytes ≤ long → StopsWithin long (new_at body bytes)
unfolding new_at
new_stops body bytes long fits =
    then_stops long (number_at w32 bytes) (λ count. groups_at count.0 [] count.1 >>= λ steps. sealed body steps.0 steps.1) (number_within w32 bytes long fits)
    (λ count fits_count. then_stops long (groups_at count.0 [] count.1) (λ steps. sealed body steps.0 steps.1) (groups_within count.0 [] count.1 long fits_count) (λ steps fits_steps. sealed_stops body steps.0 steps.1 long fits_steps))

body_stops : (body : List ℕ) → StopsWithin (length body) (steps_of_body body)
body_stops [] = omega arith
body_stops (version ∷ rest) = by (nat_eq version 1) (nat_eq version 2)
  where
    by : (one two : Bool) → StopsWithin (length (version ∷ rest)) (if one then old_at rest else (if two then new_at (version ∷ rest) rest else Err (length (version ∷ rest))))
    by true two = old_stops rest (length (version ∷ rest)) (omega arith)
    by false true = new_stops (version ∷ rest) rest (length (version ∷ rest)) (omega arith)
    by false false = omega arith

damaged_is : (a b : ℕ) → Damaged a ≡ Damaged b → a ≡ b
damaged_is a b is = cc

placed : (gate : ℕ) (body : List ℕ) (read : Result (List Step) ℕ) (at : ℕ) → StopsWithin (length body) read → journal_state_with (length (gate ∷ body)) read ≡ Damaged at → (1 ≤ at) × (at ≤ length (gate ∷ body))
placed gate body (Ok steps) at stops is = absurd cc
placed gate body (Err left) at stops is = let here = damaged_is (length (gate ∷ body) - left) at is in (omega (arith, here, stops), omega (arith, here))

pub within_file : (bytes : List ℕ) (at : ℕ) → journal_state_of bytes ≡ Damaged at → (1 ≤ at) × (at ≤ length bytes)
within_file [] at is = absurd cc
within_file (gate ∷ body) at is = by (nat_eq gate 1) is
  where
    by : (t : Bool) → (if t then journal_state_with (length (gate ∷ body)) (steps_of_body body) else Shut) ≡ Damaged at → (1 ≤ at) × (at ≤ length (gate ∷ body))
    by true gated = placed gate body (steps_of_body body) at (body_stops body) gated
    by false gated = absurd cc
