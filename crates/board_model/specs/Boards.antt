-- A board: all sources of a plan, the jobs that are out, and what was told so far. And what each call makes of it.
use Rattle.std.specs.Prelude.{ℕ, zero, suc, pos, is_some, ◌+◌, ◌==◌, Bool, false, if◌then◌else◌, List, [], ◌∷◌, ◌++◌, length, map, replicate, slice_get, Option, Some, None, option_map, option_and_then}
use Rattle.acq_base.specs.declared.fetch.Job.{Job}
use Rattle.acq_base.specs.declared.installed.Old.{Old}
use Rattle.acq_base.specs.declared.plan.Source.{Source}
use Rattle.acq_base.specs.declared.uri.ListName.{ListName}
use Rattle.host_queues.specs.Lanes.{Lanes, changed_at, no_hosts, put_for, first_of, taken_from, freed_at}
use Rattle.uri_names.specs.Names.{host_key_of}
use Rattle.update_model.specs.Obtained.{◌>>=◌}
use Rattle.update_model.specs.Points.{entry}
use Rattle.update_model.specs.Trails.{LaneAnswer}
use Rattle.update_model.specs.Walks.{release_walk}
use Rattle.update_model.specs.declared.ask.Ask.{Ask}
use Rattle.update_model.specs.declared.ask.Closed.{Closed}
use Rattle.update_model.specs.declared.log.Asked.{Asked}
use Rattle.update_model.specs.declared.log.RunLog.{RunLog}
use Rattle.update_model.specs.declared.settled.Settled.{Settled}
use Rattle.update_model.specs.declared.settled.Verdict2.{Verdict2}
use Rattle.update_model.specs.declared.settled.Verdict2.TheVariants.{Older}
use Rattle.board_model.specs.Keys.{key_at, path_at, name_at}
use Rattle.board_model.specs.declared.key.Key.{Key}
use Rattle.board_model.specs.Settling.{settled_in}
use Rattle.board_model.specs.Slots.{Setup, Slot, Asking, SettledSlot, items_in, item_in, item_at, ask_of, Standing, begun, heard_at, is_ready}

pub record Board : Type 0 where
  pub config : Setup
  pub slots : List Slot
  -- the numbers of the items whose asks wait for their hosts
  pub lanes : Lanes
  -- the number of the item whose job is out, for each lane
  pub out : List (Option ℕ)
  pub asks : List Asked
  -- the sources that are settled, in this order, and what each source came to; one that isn't settled has a mark there
  pub settled : List ℕ
  pub verdicts : List Verdict2

-- ---- at the beginning

-- what stands for the verdict of a source that isn't settled
abbrev pub no_verdict : Verdict2
no_verdict = Older (pos 0)

-- an item that asks waits for its host
abbrev pub put_ask : ℕ → Option Ask → Lanes → Lanes
put_ask number None lanes = lanes
put_ask number (Some ask) lanes = put_for (host_key_of ask.uri) number lanes

-- each of the items with these numbers that asks does
abbrev pub put_items : ℕ → List (Option Standing) → Lanes → Lanes
put_items number [] lanes = lanes
put_items number (item ∷ items) lanes = put_items (suc number) items (put_ask number (ask_of item) lanes)

abbrev pub first_release : Setup → Source → Standing
first_release config source = begun config (release_walk source)

-- each Release is asked for
abbrev pub first_slots : Setup → List Source → List Old → List Slot
first_slots config [] olds = []
first_slots config (source ∷ sources) [] = []
first_slots config (source ∷ sources) (old ∷ olds) = Asking old (first_release config source) ∷ first_slots config sources olds

-- and waits for its host
abbrev pub put_releases : Setup → ℕ → List Source → Lanes → Lanes
put_releases config number [] lanes = lanes
put_releases config number (source ∷ sources) lanes =
    put_releases config (number + length source.targets + 1) sources (put_ask number (ask_of (Some (first_release config source))) lanes)

abbrev pub first_board : Setup → List Old → ℕ → Board
first_board config olds lanes = record {
  config = config;
  slots = first_slots config config.sources olds;
  lanes = put_releases config 0 config.sources (no_hosts lanes);
  out = replicate lanes None;
  asks = [];
  settled = [];
  verdicts = map (λ source. no_verdict) config.sources;
}

-- ---- one number

-- an item that asks, with its source
pub record Asker : Type 0 where
  pub key : Key
  pub source : Source
  pub ask : Ask

-- which item asks under a number, if one does
abbrev pub asker_of : Board → ℕ → Option Asker
asker_of b number = do
  key ← key_at b.config.sources number
  source ← slice_get b.config.sources key.source
  ask ← ask_of (item_at b.slots key)
  Some (record { key = key; source = source; ask = ask })

abbrev pub is_out_as : ℕ → Option ℕ → Bool
is_out_as number None = false
is_out_as number (Some other) = other == number

-- the lane from which a job is out
abbrev pub lane_with : List (Option ℕ) → ℕ → Option ℕ
lane_with [] number = None
lane_with (out ∷ outs) number = if is_out_as number out then Some 0 else option_map (λ lane. lane + 1) (lane_with outs number)

-- whether a job is out
abbrev pub is_out : Board → ℕ → Bool
is_out b number = is_some (lane_with b.out number)

abbrev pub name_staged : Asker → Option ListName
name_staged a = if a.ask.stage then name_at a.source a.key.place else None

-- the list into whose partial file the job's answer goes, if the job is out and there is one
abbrev pub staged_name : Board → ℕ → Option ListName
staged_name b number = if is_out b number then option_and_then name_staged (asker_of b number) else None

-- ---- a job goes out

abbrev pub job_for : ℕ → Ask → Job
job_for number ask = record { no = number; uri = ask.uri; max = ask.max; from = ask.from }

-- the job of a lane: what is asked under the oldest number that waits in it, where none of the lane is out
abbrev pub issued_job : Board → ℕ → Option Job
issued_job b lane = option_and_then (λ number. option_map (λ (a : Asker). job_for number a.ask) (asker_of b number)) (first_of b.lanes lane)

abbrev pub put_out : ℕ → Option Job → List (Option ℕ) → List (Option ℕ)
put_out lane None out = out
put_out lane (Some job) out = changed_at lane (λ o. Some job.no) out

abbrev pub issued : Board → ℕ → Board
issued b lane = record b { lanes = taken_from lane b.lanes; out = put_out lane (issued_job b lane) b.out }

-- ---- an answer comes in

-- what asks then: the item that heard it, or each list of the source whose Release has come
abbrev pub put_heard : ℕ → ℕ → Option Slot → Lanes → Lanes
put_heard number place None lanes = lanes
put_heard number zero (Some slot) lanes = put_items number (items_in slot) lanes
put_heard number (suc place) (Some slot) lanes = put_ask number (ask_of (item_in slot (suc place))) lanes

abbrev pub heard_by : Board → Asker → LaneAnswer → List Slot
heard_by b a told = changed_at a.key.source (heard_at b.config a.source a.key.place told) b.slots

-- an item hears the answer to its job, which was out from a lane
abbrev pub took : Board → ℕ → Asker → ℕ → LaneAnswer → Board
took b number a from told = record b {
  slots = heard_by b a told;
  lanes = put_heard number a.key.place (slice_get (heard_by b a told) a.key.source) (freed_at from b.lanes);
  out = changed_at from (λ o. None) b.out;
  asks = b.asks ++ entry a.key.source (path_at a.source a.key.place) a.ask told ∷ [];
}

abbrev pub took_from : Board → ℕ → LaneAnswer → Option ℕ → Option Asker → Board
took_from b number told (Some from) (Some a) = took b number a from told
took_from b number told None a = b
took_from b number told (Some from) None = b

-- the answer of a lane's method to a job; one to a job that isn't out changes nothing
abbrev pub absorbed : Board → ℕ → ℕ → Closed → Board
absorbed b lane number closed = took_from b number (record { lane = lane; closed = closed }) (lane_with b.out number) (asker_of b number)

-- ---- a source is settled

-- the first source that is ready
abbrev pub first_ready : List Slot → Option ℕ
first_ready [] = None
first_ready (slot ∷ slots) = if is_ready slot then Some 0 else option_map (λ n. n + 1) (first_ready slots)

-- what a source comes to, once it is ready
abbrev pub settled_of : Board → ℕ → Option Settled
settled_of b n = do
  source ← slice_get b.config.sources n
  slot ← slice_get b.slots n
  settled_in source slot

abbrev pub settled_as : Board → ℕ → Verdict2 → Board
settled_as b n verdict = record b {
  slots = changed_at n (λ slot. SettledSlot) b.slots;
  settled = b.settled ++ n ∷ [];
  verdicts = changed_at n (λ other. verdict) b.verdicts;
}

-- every source is settled
abbrev pub is_finished : Board → Bool
is_finished b = length b.settled == length b.config.sources

-- what a board tells in the end
abbrev pub log_of : Board → RunLog
log_of b = record { verdicts = b.verdicts; settled = b.settled; asks = b.asks; removed = [] }
