-- The rule of the channel of replies, and the five kinds of step that keep it.
--
--   Step                      View that changes              What it asks
--   making the channel        the coordinator's, new         that it knows no worker's lane: `fresh`
--   splitting off a pass      the new worker's, and the      that the lane is the next one, its mirror the method's, and
--                             coordinator's                  its last count the method's: `worker_of`, `with_lane`
--   send                      the sender's                   `IsSent`
--   receive                   the coordinator's              nothing, and it learns `IsReceived`
--   taking a pass back in     the coordinator's              that the lane is the next one that is not back: `with_note`
--
-- A send or a receive that fails changes nothing.
use Rattle.std.specs.Prelude.{◌≡◌, ℕ, ◌<◌, ◌≤◌, max, true, false, List, [], ◌∷◌, ◌++◌, length, slice_index, slice_index_or, slice_set, Option, None}
use mathlib.Core.Option.{some}
use lib.ListN.{get_elem?}
use Rattle.acq_base.specs.Mirror.{MirrorMap}
use Rattle.lane_pool.specs.declared.told.Told.{Told}
use Rattle.lane_pool.specs.declared.rule.View.{View}
use Rattle.lane_pool.specs.Words.{count_after, IsWordTo, IsInOrder}

-- the coordinator's view: by lane the mirror and the count taken so far, and by lane that is back its last count. Lane 0,
-- its own, stands at the head of each
abbrev pub coordinator : List (Option MirrorMap) → List ℕ → List ℕ → View
coordinator worlds taken notes = record { live = true; lane = 0; world = None; last = 0; worlds = worlds; taken = taken; notes = notes }

-- a worker's view: its lane, the mirror that its method tells, and the last count that it told
abbrev pub worker : Option MirrorMap → ℕ → ℕ → View
worker world lane last = record { live = true; lane = lane; world = world; last = last; worlds = []; taken = []; notes = [] }

-- what is left of a pass that was taken back in
abbrev pub gone : View
gone = record { live = false; lane = 0; world = None; last = 0; worlds = []; taken = []; notes = [] }

abbrev pub fresh : View
fresh = coordinator (None ∷ []) (0 ∷ []) (0 ∷ [])

abbrev pub with_lane : Option MirrorMap → ℕ → View → View
with_lane world count v = coordinator (v.worlds ++ world ∷ []) (v.taken ++ count ∷ []) v.notes

abbrev pub worker_of : Option MirrorMap → ℕ → View → View
worker_of world count v = worker world (length v.taken) count

-- The word names its lane and job and is the method's word to that job; a fault begins at or above the last count. The last
-- count becomes the one that a fault tells, which is the method's count after it.
pub record IsSent (v : View) (told : Told) (w : View) : Type 0 where
  pub lane : told.lane ≡ v.lane
  pub word : IsWordTo v.world told.job told.word
  pub in_order : IsInOrder v.last told.word
  pub then : w ≡ worker v.world v.lane (count_after v.last told.word)

-- the mirror of a lane, as the coordinator knows it
abbrev pub world_at : View → ℕ → Option MirrorMap
world_at v lane = slice_index_or v.worlds lane None

-- the coordinator's view after a receive: the count taken of the lane becomes the greater of itself and what a fault tells
abbrev pub after_receive : View → Told → View
after_receive v told = coordinator v.worlds (slice_set v.taken told.lane (max (slice_index v.taken told.lane) (count_after 0 told.word))) v.notes

-- what was received is a word of a worker's lane to the job that it names, by the mirror of that lane
pub record IsReceived (v : View) (told : Told) (w : View) : Type 0 where
  pub a_worker : 0 < told.lane
  pub a_lane : told.lane < length v.taken
  pub word : IsWordTo (world_at v told.lane) told.job told.word
  pub then : w ≡ after_receive v told

abbrev pub with_note : View → View → View
with_note v w = coordinator v.worlds v.taken (v.notes ++ w.last ∷ [])

-- what was taken of each lane that is back is at or below its last count
abbrev pub AreBounded : View → Type 0
AreBounded v = (lane : ℕ) → lane < length v.notes → slice_index v.taken lane ≤ slice_index v.notes lane

-- The parts of the rule, where each lane has a mirror and a last count, there are so many lanes, and so many of them are
-- back, lane 0 among both.

-- A reply that waits is a word of its lane's mirror to its own job at its own place, and a fault ends at or below its
-- lane's last count.
pub record FitsWaiting (world : ℕ → Option MirrorMap) (last : ℕ → ℕ) (lanes : ℕ) (told : Told) : Type 0 where
  pub a_worker : 0 < told.lane
  pub a_lane : told.lane < lanes
  pub word : IsWordTo (world told.lane) told.job told.word
  pub below : count_after 0 told.word ≤ last told.lane

-- The coordinator holds the mirror of each lane. What it has taken of a lane is at or below the lane's last count, which
-- is at or below its note once the lane is back.
pub record FitsCoordinator (world : ℕ → Option MirrorMap) (last : ℕ → ℕ) (lanes back : ℕ) (v : View) : Type 0 where
  pub counted : length v.taken ≡ lanes
  pub named : length v.worlds ≡ lanes
  pub noted : length v.notes ≡ back
  pub worlds : (lane : ℕ) → lane < lanes → world_at v lane ≡ world lane
  pub taken : (lane : ℕ) → slice_index v.taken lane ≤ last lane
  pub notes : (lane : ℕ) → lane < back → last lane ≤ slice_index v.notes lane

-- A worker, which is not back, holds its lane's mirror, and the lane's last count is at or below its own.
pub record FitsWorker (world : ℕ → Option MirrorMap) (last : ℕ → ℕ) (back : ℕ) (v : View) : Type 0 where
  pub away : back ≤ v.lane
  pub mirror : v.world ≡ world v.lane
  pub below : last v.lane ≤ v.last

-- a lane belongs to one pass, lane 0 to the coordinator's
pub record FitsView (world : ℕ → Option MirrorMap) (owner last : ℕ → ℕ) (lanes back pass : ℕ) (v : View) : Type 0 where
  pub owns : pass ≡ owner v.lane
  pub a_lane : v.lane < lanes
  pub coordinator : v.lane ≡ 0 → FitsCoordinator world last lanes back v
  pub worker : 0 < v.lane → FitsWorker world last back v

-- The rule, over the replies that wait and the views of all passes. It says nothing of the order of the waiting faults.
pub record IsKept (items : List Told) (views : List View) : Type 0 where
  pub world : ℕ → Option MirrorMap
  pub owner : ℕ → ℕ
  pub last : ℕ → ℕ
  pub lanes : ℕ
  pub back : ℕ
  pub some_back : 0 < back
  pub few_back : back ≤ lanes
  pub waiting : (i : ℕ) (told : Told) → get_elem? items i ≡ some told → FitsWaiting world last lanes told
  pub known : (pass : ℕ) (v : View) → get_elem? views pass ≡ some v → v.live ≡ true → FitsView world owner last lanes back pass v
