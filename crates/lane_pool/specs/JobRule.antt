-- The rule of a lane's channel of jobs, and the kinds of step that keep it.
--
--   Step                      View that changes              What it asks
--   making the channel        the first, new                 nothing: `nothing_yet`, which stands for both ends
--   parting the ends          the first, and a new one       that the first stands for both ends: `giving`, `taking`
--   send                      that of the sending end        that it stands for it: `IsHanded`
--   receive                   that of the receiving end      that it stands for it: `IsTaken`
--   putting them together     both                           that each stands for its end: `both`, `spent`
--
-- A send or a receive that fails changes nothing.
use Rattle.std.specs.Prelude.{◌≡◌, ℕ, ◌+◌, true, false, List, [], ◌∷◌, Option, Some, None}
use mathlib.Core.Option.{some}
use lib.ListN.{get_elem?}
use Rattle.acq_base.specs.declared.fetch.Job.{Job}
use Rattle.lane_pool.specs.declared.job_rule.Tally.{Tally}

abbrev pub nothing_yet : Tally
nothing_yet = record { gives = true; takes = true; handed = 0; received = 0 }

-- the two views when the ends are parted
abbrev pub giving : Tally → Tally
giving v = record { gives = v.gives; takes = false; handed = v.handed; received = 0 }

abbrev pub taking : Tally → Tally
taking v = record { gives = false; takes = v.takes; handed = 0; received = v.received }

-- an item of the channel is a job, or the mark that no job comes any more
abbrev pub job_count : Option Job → ℕ
job_count None = 0
job_count (Some job) = 1

abbrev pub jobs_in : List (Option Job) → ℕ
jobs_in [] = 0
jobs_in (item ∷ items) = job_count item + jobs_in items

-- an item went in
abbrev pub IsHanded : Tally → Option Job → Tally → Type 0
IsHanded v item w = w ≡ record { gives = v.gives; takes = v.takes; handed = v.handed + job_count item; received = v.received }

-- an item came out
abbrev pub IsTaken : Tally → Option Job → Tally → Type 0
IsTaken v item w = w ≡ record { gives = v.gives; takes = v.takes; handed = v.handed; received = v.received + job_count item }

-- the two views when their passes are put together again
abbrev pub both : Tally → Tally → Tally
both v u = record { gives = v.gives; takes = u.takes; handed = v.handed; received = u.received }

abbrev pub spent : Tally
spent = record { gives = false; takes = false; handed = 0; received = 0 }

-- an end belongs to one pass, which knows how many jobs went in there, or came out
pub record FitsTally (giver taker handed received pass : ℕ) (v : Tally) : Type 0 where
  pub gives : v.gives ≡ true → (pass ≡ giver) × (v.handed ≡ handed)
  pub takes : v.takes ≡ true → (pass ≡ taker) × (v.received ≡ received)

-- The rule, over the items that wait and the views of all passes: each job that went in came out or waits.
pub record AreCounted (items : List (Option Job)) (views : List Tally) : Type 0 where
  pub giver : ℕ
  pub taker : ℕ
  pub handed : ℕ
  pub received : ℕ
  pub waiting : received + jobs_in items ≡ handed
  pub known : (pass : ℕ) (v : Tally) → get_elem? views pass ≡ some v → FitsTally giver taker handed received pass v
