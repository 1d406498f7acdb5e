-- What the fetch of one job of a run does to the disk: its file goes to the list's on its way, or into memory.
use Rattle.std.specs.Prelude.{◌≡◌, ℕ, List, Option, Some, None}
use Rattle.acq_base.specs.declared.uri.ListName.{ListName}
use Rattle.acq_outside.specs.Crash.{State}
use Rattle.job_fetch.specs.Fetched.{IsInMemory, IsStagedBody, KeepsFront, Staging}
use Rattle.update_model.specs.declared.ask.Closed.{Closed}

-- what it does to the disk: nothing, or what changes the list's file on its way alone
abbrev pub IsFetched : Option ListName → List State → List State → Type 0
IsFetched None old now = now ≡ old
IsFetched (Some name) old now = Staging name.0 old now

-- the bytes that it leaves out stay
abbrev pub KeepsBytes : Option ListName → ℕ → List State → List State → Type 0
KeepsBytes None from old now = now ≡ old
KeepsBytes (Some name) from old now = KeepsFront name.0 from old now

-- a file that came is in memory, or the list's file on its way
abbrev pub ComesTo : Option ListName → List State → Closed → Type 0
ComesTo None now closed = IsInMemory closed
ComesTo (Some name) now closed = IsStagedBody name.0 now closed
