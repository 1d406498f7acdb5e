-- What ties the lanes as the coordinator keeps them to what its pass knows, and to the lanes as callers see them.
use Rattle.std.specs.Prelude.{◌≡◌, ℕ, ◌+◌, ◌<◌, ◌≤◌, List, [], ◌∷◌, map, length, slice_index, slice_index_or, Option, MatchOption}
use Rattle.crossbeam_channel.specs.Claims.{view}
use Rattle.crossbeam_channel.specs.Ends.{sends_on}
use Rattle.acq_base.specs.Mirror.{MirrorMap}
use Rattle.acq_outside.specs.declared.word.Fetch.{Fetch}
use Rattle.lane_pool.specs.declared.lane.Lane.{Lane}
use Rattle.lane_pool.specs.declared.replies.Replies.{Replies}
use Rattle.lane_pool.specs.Counting.{counted_on, IsBegun}
use Rattle.lane_pool.specs.Pool.{Pool}
use Rattle.lane_pool.specs.Rule.{world_at}

module _ {M : Type 0} (world : M → Option MirrorMap) (faults : M → ℕ) (under : M → Option Fetch) (begins : M → ℕ) where
  -- the coordinator's own method, and then the workers' lanes
  abbrev pub pool_of : M → List (Lane M) → Pool
  pool_of own lanes = record {
    worlds = world own ∷ map (λ lane. world lane.worker.promise.method.value) lanes;
    counts = faults own ∷ map (λ lane. lane.last) lanes;
    outs = under own ∷ map (λ lane. lane.slot) lanes;
    begins = begins own ∷ map (λ lane. counted_on (begins lane.worker.promise.method.value) lane.worker.handed) lanes;
  }

module _ {M : Type 0} (world : M → Option MirrorMap) where
  -- a worker's lane with its number, as the coordinator's pass knows it
  pub record IsLane (replies : Replies) (number : ℕ) (lane : Lane M) : Type 0 where
    pub number_is : lane.worker.promise.lane ≡ number
    pub on : sends_on lane.worker.promise.sends.value ≡ sends_on replies.sends
    pub mirror : world_at (view replies.pass) number ≡ world lane.worker.promise.method.value
    pub below : lane.last ≤ slice_index (view replies.pass).taken number

  -- the workers' lanes are all that the coordinator's pass knows, in their order, and none is back
  pub record AreLanes (replies : Replies) (lanes : List (Lane M)) : Type 0 where
    pub taken : length (view replies.pass).taken ≡ length lanes + 1
    pub worlds : length (view replies.pass).worlds ≡ length lanes + 1
    pub notes : length (view replies.pass).notes ≡ 1
    pub each : (i : ℕ) (d : Lane M) → i < length lanes → IsLane replies (1 + i) (slice_index_or lanes i d)

  -- there is a channel where there are workers
  abbrev pub HasReplies : Option Replies → List (Lane M) → Type 0
  HasReplies replies lanes = MatchOption replies (lanes ≡ []) (λ r. AreLanes r lanes)

module _ {M : Type 0} (world : M → Option MirrorMap) (faults begins : M → ℕ) where
  -- the methods that stood in `all`, and then those of the lanes, each with its mirror, a count at or above the last that was
  -- taken of it, and as many fetches begun as jobs handed out, but for those that weren't begun
  pub record AreBack (all : List M) (lanes : List (Lane M)) (back : List M) : Type 0 where
    pub len : length back ≡ length all + length lanes
    pub first : (i : ℕ) (d : M) → i < length all → slice_index_or back i d ≡ slice_index_or all i d
    pub worlds : (i : ℕ) (d : M) (e : Lane M) → i < length lanes → world (slice_index_or back (length all + i) d) ≡ world (slice_index_or lanes i e).worker.promise.method.value
    pub counts : (i : ℕ) (d : M) (e : Lane M) → i < length lanes → (slice_index_or lanes i e).last ≤ faults (slice_index_or back (length all + i) d)
    pub begun : (i : ℕ) (d : M) (e : Lane M) → i < length lanes → IsBegun (counted_on (begins (slice_index_or lanes i e).worker.promise.method.value) (slice_index_or lanes i e).worker.handed) (begins (slice_index_or back (length all + i) d))
