-- Lanes as callers see them. Lane 0 is the coordinator's own method, and each further lane is a worker's.
use Rattle.std.specs.Prelude.{◌≡◌, ℕ, ◌<◌, ◌≤◌, List, [], ◌∷◌, map, slice_get, slice_set, slice_index, slice_index_or, Option, Some, None}
use Rattle.acq_base.specs.Mirror.{MirrorMap}
use Rattle.acq_outside.specs.declared.word.Fetch.{Fetch}
use Rattle.acq_outside.specs.Word.{after_word}
use Rattle.lane_pool.specs.declared.told.Told.{Told}
use Rattle.lane_pool.specs.Words.{count_after, IsHeard}

-- By lane: the mirror that its method tells, if it tells one; its last count of faults, at first the method's own; the fetch
-- that is out on it; and how many fetches were begun. That is of lane 0 just how many its method began, and of a worker's
-- lane at most how many: its method's count at the start, with one more for each job that it was handed.
pub record Pool : Type 0 where
  pub worlds : List (Option MirrorMap)
  pub counts : List ℕ
  pub outs : List (Option Fetch)
  pub begins : List ℕ

-- what is out at the start: what the coordinator's method has under way, and nothing on a worker's lane
abbrev pub outs_at_start : {M : Type 0} → (M → Option Fetch) → List M → List (Option Fetch)
outs_at_start under [] = []
outs_at_start under (own ∷ others) = under own ∷ map (λ method. None) others

-- the coordinator's own lane
abbrev pub own_world : Pool → Option MirrorMap
own_world pool = slice_index_or pool.worlds 0 None

abbrev pub own_count : Pool → ℕ
own_count pool = slice_index pool.counts 0

abbrev pub own_fetch : Pool → Option Fetch
own_fetch pool = slice_index_or pool.outs 0 None

abbrev pub own_begins : Pool → ℕ
own_begins pool = slice_index pool.begins 0

-- The frame of a call of the own method: its count never falls, all mirrors stay, and so do the counts and fetches of the
-- workers' lanes.
pub record OthersStay (old new : Pool) : Type 0 where
  pub count : own_count old ≤ own_count new
  pub worlds : new.worlds ≡ old.worlds
  pub counts : new.counts ≡ slice_set old.counts 0 (own_count new)
  pub outs : new.outs ≡ slice_set old.outs 0 (own_fetch new)
  pub begins : new.begins ≡ slice_set old.begins 0 (own_begins new)

-- A word was taken: it is to the job that is out on its lane, at the place where that job's bytes end, and its lane goes on
-- behind it.
pub record IsWordTaken (old : Pool) (told : Told) (new : Pool) : Type 0 where
  -- the fetch that was out
  pub fetch : Fetch
  pub worker : 0 < told.lane
  pub out : slice_get old.outs told.lane ≡ Some (Some fetch)
  pub job : told.job ≡ fetch.job
  pub heard : IsHeard (slice_index old.counts told.lane) (slice_index_or old.worlds told.lane None) fetch told.word
  pub worlds : new.worlds ≡ old.worlds
  pub counts : new.counts ≡ slice_set old.counts told.lane (count_after (slice_index old.counts told.lane) told.word)
  pub outs : new.outs ≡ slice_set old.outs told.lane (after_word fetch told.word)
  pub begins : new.begins ≡ old.begins
