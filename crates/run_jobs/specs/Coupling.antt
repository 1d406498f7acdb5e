-- Whether what a board wants of the lists on their way is on the disk.
use Rattle.std.specs.Prelude.{◌≡◌, ℕ, ◌≤◌, List, length, take}
use Rattle.acq_outside.specs.Crash.{State}
use Rattle.acq_outside.specs.States.{IsTold}
use Rattle.board_model.specs.Uses.{WantedPart, Resumes, Whole, Free}
use Rattle.job_fetch.specs.Fetched.{LastsAs}
use Rattle.journal_model.specs.Rest.{part_bytes}
use Rattle.update_model.specs.Outcomes.{PartFiles}

-- its first bytes are those that it had at first
pub record KeepsFirstBytes (size : ℕ) (first now : List ℕ) : Type 0 where
  pub front : take size now ≡ take size first
  pub within : size ≤ length now

-- what is wanted of a list's file on its way is there: the bytes that it had at first, or all of it, lastingly
abbrev pub HasWantedPart : WantedPart → List ℕ → List ℕ → List State → Type 0
HasWantedPart (Resumes size) name first now = KeepsFirstBytes size first (part_bytes now name)
HasWantedPart (Whole sum) name first now = LastsAs name now sum
HasWantedPart Free name first now = Unit {0}

-- so is all that is wanted, where the disk tells it
pub record HasWantedParts (wanted : List ℕ → WantedPart) (first : PartFiles) (now : List State) : Type 0 where
  pub each : (name : List ℕ) → IsTold now → HasWantedPart (wanted name) name (first name) now
