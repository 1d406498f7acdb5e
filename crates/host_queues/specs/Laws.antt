-- What the laws of this crate say.
use Rattle.std.specs.Prelude.{◌≡◌, ℕ, ◌+◌, ◌%◌, ◌<◌, ◌==◌, Bool, true, false, not, if◌then◌else◌, List, [], ◌∷◌, ◌++◌, bytes_eq, slice_get, Option, Some, None, option_to_list, option_map}
use Rattle.std.specs.List.{list_all, list_any}
use Rattle.std.specs.Option.{option_map_or}
use Rattle.host_queues.specs.Lanes.{Queue, Lanes, no_hosts, lane_of, put_for, first_of, taken_from, freed_at}

-- one call
pub data Call : Type 0 where
  Put : (host : List ℕ) → (number : ℕ) → Call
  Next : (lane : ℕ) → Call
  Done : (lane : ℕ) → Call

abbrev pub after_call : Call → Lanes → Lanes
after_call (Put host number) lanes = put_for host number lanes
after_call (Next lane) lanes = taken_from lane lanes
after_call (Done lane) lanes = freed_at lane lanes

-- calls one after another
abbrev pub after : List Call → Lanes → Lanes
after [] lanes = lanes
after (call ∷ calls) lanes = after calls (after_call call lanes)

-- ---- hosts

-- the hosts of calls behind those that were seen before, each once, in the order in which they are first seen
abbrev pub hosts_after : List (List ℕ) → List Call → List (List ℕ)
hosts_after seen [] = seen
hosts_after seen (Put host number ∷ calls) =
    hosts_after (if list_any (λ other. bytes_eq other host) seen then seen else seen ++ host ∷ []) calls
hosts_after seen (call ∷ calls) = hosts_after seen calls

-- the place of a host among hosts
abbrev pub place_among : List (List ℕ) → List ℕ → Option ℕ
place_among [] host = None
place_among (other ∷ others) host = if bytes_eq other host then Some 0 else option_map (λ place. place + 1) (place_among others host)

-- hosts have the lanes in turn, in the order in which they were first seen, whatever else was called between
abbrev pub HostsTakeTurns : Type 0
HostsTakeTurns =
    (count : ℕ) (calls : List Call) (host : List ℕ)
    → lane_of (after calls (no_hosts count)) host ≡ option_map (λ place. place % count) (place_among (hosts_after [] calls) host)

-- a host keeps its lane
abbrev pub HostsKeepLanes : Type 0
HostsKeepLanes =
    (lanes : Lanes) (calls : List Call) (host : List ℕ) (lane : ℕ)
    → lane_of lanes host ≡ Some lane → lane_of (after calls lanes) host ≡ Some lane

-- ---- numbers

abbrev pub is_lane : ℕ → Option ℕ → Bool
is_lane lane None = false
is_lane lane (Some other) = lane == other

-- the number that a call puts into a lane, if it puts one there
abbrev pub put_by : Call → ℕ → Lanes → List ℕ
put_by (Put host number) lane lanes = if is_lane lane (lane_of (put_for host number lanes) host) then number ∷ [] else []
put_by (Next other) lane lanes = []
put_by (Done other) lane lanes = []

-- the number that a call hands out of a lane, if it hands one out
abbrev pub handed_by : Call → ℕ → Lanes → List ℕ
handed_by (Put host number) lane lanes = []
handed_by (Next other) lane lanes = if lane == other then option_to_list (first_of lanes lane) else []
handed_by (Done other) lane lanes = []

-- what calls do with a lane, one after another
abbrev pub all_by : (Call → ℕ → Lanes → List ℕ) → List Call → ℕ → Lanes → List ℕ
all_by does [] lane lanes = []
all_by does (call ∷ calls) lane lanes = does call lane lanes ++ all_by does calls lane (after_call call lanes)

abbrev pub waiting_in : ℕ → Lanes → List ℕ
waiting_in lane lanes = option_map_or (λ (queue : Queue). queue.waiting) (slice_get lanes.queues lane) []

-- what is put into a lane is handed out of it in that order, or still waits in that order
abbrev pub LanesKeepOrder : Type 0
LanesKeepOrder =
    (count lane : ℕ) (calls : List Call) → lane < count
    → all_by put_by calls lane (no_hosts count)
    ≡ all_by handed_by calls lane (no_hosts count) ++ waiting_in lane (after calls (no_hosts count))

-- a call frees a lane
abbrev pub frees : ℕ → Call → Bool
frees lane (Put host number) = false
frees lane (Next other) = false
frees lane (Done other) = lane == other

-- once a number is out of a lane, none is handed out of it until the lane is freed
abbrev pub OneIsOut : Type 0
OneIsOut =
    (lanes : Lanes) (lane number : ℕ) (calls : List Call)
    → first_of lanes lane ≡ Some number → list_all (λ call. not (frees lane call)) calls ≡ true
    → all_by handed_by calls lane (taken_from lane lanes) ≡ []
