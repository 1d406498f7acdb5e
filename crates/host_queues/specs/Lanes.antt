-- Lanes of hosts: which lane a host has, and what waits in each lane, first in first out.
use Rattle.std.specs.Prelude.{ℕ, zero, suc, ◌+◌, ◌%◌, Bool, true, false, if◌then◌else◌, List, [], ◌∷◌, ◌++◌, length, bytes_eq, replicate, slice_get, Option, Some, None, option_map, option_and_then, unwrap_or}

-- what waits in a lane, the oldest first, and whether a job of the lane is out
pub record Queue : Type 0 where
  pub waiting : List ℕ
  pub is_out : Bool

-- The lanes, with the hosts that were seen: each has a place in the order in which they were first seen, from 0 on.
pub record Lanes : Type 0 where
  pub places : List ℕ → Option ℕ
  pub seen : ℕ
  pub queues : List Queue

-- ---- one lane

abbrev pub empty_queue : Queue
empty_queue = record { waiting = []; is_out = false }

-- a number comes last
abbrev pub with_last : ℕ → Queue → Queue
with_last number queue = record { waiting = queue.waiting ++ number ∷ []; is_out = queue.is_out }

-- the oldest number, where no job of the lane is out
abbrev pub first : Queue → Option ℕ
first queue = if queue.is_out then None else slice_get queue.waiting 0

abbrev pub sent : List ℕ → Queue
sent [] = empty_queue
sent (number ∷ more) = record { waiting = more; is_out = true }

-- and what is left once that number is out
abbrev pub without_first : Queue → Queue
without_first queue = if queue.is_out then queue else sent queue.waiting

-- the job that was out is done
abbrev pub freed : Queue → Queue
freed queue = record { waiting = queue.waiting; is_out = false }

-- ---- all lanes

-- this many lanes, of which nothing is known yet
abbrev pub no_hosts : ℕ → Lanes
no_hosts count = record { places = λ host. None; seen = 0; queues = replicate count empty_queue }

-- the list with one element changed
abbrev pub changed_at : {A : Type 0} → ℕ → (A → A) → List A → List A
changed_at n f [] = []
changed_at zero f (x ∷ xs) = f x ∷ xs
changed_at (suc n) f (x ∷ xs) = x ∷ changed_at n f xs

-- hosts take the lanes in turn, in the order in which they were first seen
abbrev pub lane_of : Lanes → List ℕ → Option ℕ
lane_of lanes host = option_map (λ place. place % length lanes.queues) (lanes.places host)

-- a host that is new has the next place
abbrev pub place_for : Lanes → List ℕ → ℕ
place_for lanes host = unwrap_or (lanes.places host) lanes.seen

abbrev pub seen_with : Option ℕ → ℕ → ℕ
seen_with None seen = seen + 1
seen_with (Some place) seen = seen

-- the hosts with this one, which keeps the place that it has
abbrev pub with_host : List ℕ → Lanes → Lanes
with_host host lanes = record {
  places = λ other. if bytes_eq host other then Some (place_for lanes host) else lanes.places other;
  seen = seen_with (lanes.places host) lanes.seen;
  queues = lanes.queues;
}

-- a number comes last in the lane of its host
abbrev pub put_for : List ℕ → ℕ → Lanes → Lanes
put_for host number lanes = record (with_host host lanes) {
  queues = changed_at (place_for lanes host % length lanes.queues) (with_last number) lanes.queues;
}

abbrev pub first_of : Lanes → ℕ → Option ℕ
first_of lanes lane = option_and_then first (slice_get lanes.queues lane)

abbrev pub taken_from : ℕ → Lanes → Lanes
taken_from lane lanes = record lanes { queues = changed_at lane without_first lanes.queues }

abbrev pub freed_at : ℕ → Lanes → Lanes
freed_at lane lanes = record lanes { queues = changed_at lane freed lanes.queues }
