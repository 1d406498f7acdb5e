-- The fetch that is out on a lane, as its slot keeps it.
use Rattle.std.specs.Prelude.{◌≡◌, ℕ, ◌≤◌, Bool, true, false, List, length, Option, Some, None}
use Rattle.acq_base.specs.declared.uri.Scheme.{Scheme}
use Rattle.acq_base.specs.declared.uri.Uri.{Uri}
use Rattle.acq_outside.specs.declared.word.Fetch.{Fetch}
use Rattle.acq_outside.specs.Word.{after_word}
use Rattle.lane_pool.specs.declared.told.Told.{Told}
use Rattle.lane_pool.specs.Words.{count_after, StandsAt, IsInOrder}

abbrev pub fetch_of : Bool → ℕ → ℕ → ℕ → ℕ → Scheme → ℕ → List ℕ → List ℕ → Option Fetch
fetch_of false number max from at scheme port host path = None
fetch_of true number max from at scheme port host path =
    Some (record { job = record { no = number; uri = record { scheme = scheme; host = host; port = port; path = path }; max = max; from = from }; at = at })

-- the URI fits the room of a slot
abbrev pub HasRoom : Uri → Type 0
HasRoom uri = (length uri.host ≤ 16384) × (length uri.path ≤ 16384)

-- The coordinator's own test of a word, where `out` is out on its lane and `last` was the last count taken of it: it is to
-- that very job, goes on where that job's bytes end, and a fault begins at or above the last count.
pub record PassesTest (out : Option Fetch) (last : ℕ) (told : Told) : Type 0 where
  pub fetch : Fetch
  pub out_is : out ≡ Some fetch
  pub job : told.job ≡ fetch.job
  pub stands : StandsAt fetch.at told.word
  pub in_order : IsInOrder last told.word

-- a word passed the test, and its lane goes on behind it
pub record IsChecked (out : Option Fetch) (last : ℕ) (told : Told) (out_after : Option Fetch) (last_after : ℕ) : Type 0 where
  pub passes : PassesTest out last told
  pub goes_on : out_after ≡ after_word passes.fetch told.word
  pub counts : last_after ≡ count_after last told.word
