-- The items of a source, one answer at a time.
use Rattle.std.specs.Prelude.{ℕ, ℤ, zero, suc, ◌&&◌, is_none, Bool, true, false, List, [], ◌∷◌, map, slice_get, Option, Some, None, option_map, option_and_then, Result, Ok, Err}
use Rattle.std.specs.List.{list_all}
use Rattle.acq_base.specs.Sum.{sum_of}
use Rattle.acq_base.specs.declared.installed.Old.{Old}
use Rattle.acq_base.specs.declared.plan.Source.{Source}
use Rattle.acq_base.specs.declared.plan.Target.{Target}
use Rattle.acq_base.specs.declared.settings.Settings.{Settings}
use Rattle.host_queues.specs.Lanes.{changed_at}
use Rattle.item_graph.specs.Refinement.{asked}
use Rattle.release_file.specs.Release.{listed_sum}
use Rattle.release_file.specs.declared.changing.Change.{Change}
use Rattle.release_file.specs.declared.release.Release.{Release}
use Rattle.update_model.specs.Next.{same_bytes, same_sums}
use Rattle.update_model.specs.Outcomes.{AdmittedRelease, Staying, admitted}
use Rattle.update_model.specs.Points.{Point, Over, At, start, point_after}
use Rattle.update_model.specs.Trails.{LaneAnswer}
use Rattle.update_model.specs.Walks.{Walk, target_walk}
use Rattle.update_model.specs.Wanted.{want}
use Rattle.update_model.specs.declared.ask.Ask.{Ask}
use Rattle.board_model.specs.Keys.{named}
use Rattle.board_model.specs.declared.key.Key.{Key}

-- what a run was begun with
pub record Setup : Type 0 where
  pub sources : List Source
  pub sizes : List ℕ → ℕ
  pub settings : Settings
  pub change : Change
  pub now : ℤ

-- where an item stands, and how often a fault at one place is asked again
pub record Standing : Type 0 where
  pub retries : ℕ
  pub point : Point

abbrev pub item_after : LaneAnswer → Standing → Standing
item_after told item = record { retries = item.retries; point = point_after item.retries item.point told }

abbrev pub begun : Setup → Walk → Standing
begun config walk = record { retries = config.settings.retries; point = start config.settings.retries walk }

-- Where a source stands. Its Release is asked for, and until then what is installed is kept; or its Release may be
-- installed, and each list that this one names is asked for, in plan order; or its Release may not be installed; or it is
-- settled. Of lists, `there` says whether the whole set was installed already, and a list that isn't named is no item.
pub data Slot : Type 0 where
  Asking : (old : Old) → (release : Standing) → Slot
  Listing : (set : AdmittedRelease) → (there : Bool) → (lists : List (Option Standing)) → Slot
  Refused : (why : Staying) → Slot
  SettledSlot : Slot

-- ---- what its items ask

-- its items by place
abbrev pub items_in : Slot → List (Option Standing)
items_in (Asking old release) = Some release ∷ []
items_in (Listing set there lists) = None ∷ lists
items_in (Refused why) = []
items_in SettledSlot = []

abbrev pub joined : {A : Type 0} → Option (Option A) → Option A
joined None = None
joined (Some o) = o

abbrev pub item_in : Slot → ℕ → Option Standing
item_in slot place = joined (slice_get (items_in slot) place)

abbrev pub item_at : List Slot → Key → Option Standing
item_at slots key = option_and_then (λ slot. item_in slot key.place) (slice_get slots key.source)

abbrev pub ask_of : Option Standing → Option Ask
ask_of item = option_and_then (λ (i : Standing). asked i.point) item

abbrev pub has_ended : Option Standing → Bool
has_ended item = is_none (ask_of item)

-- each of its items has ended, and it isn't settled
abbrev pub is_ready : Slot → Bool
is_ready (Asking old release) = false
is_ready (Listing set there lists) = list_all has_ended lists
is_ready (Refused why) = true
is_ready SettledSlot = false

-- ---- what an answer makes of it

-- a list begins where the Release names it, beside the file that is installed under its name
abbrev pub first_list : Setup → Source → Release → (List ℕ → Option (List ℕ)) → Target → Option Standing
first_list config source release installed target =
    option_map (λ sum. begun config (target_walk (installed target.name.0) (config.sizes target.name.0) (want source release config.settings target sum)))
    (listed_sum release target.path)

-- a list's file is installed already: one of the listed sum, or none where none is listed
abbrev pub stands_there : Release → (List ℕ → Option (List ℕ)) → Target → Bool
stands_there release installed target = same_sums (option_map sum_of (installed target.name.0)) (listed_sum release target.path)

-- whether a set is installed already, with nothing else
abbrev pub is_there : Source → Old → AdmittedRelease → Bool
is_there source old set =
    same_bytes old.release set.bytes && list_all (stands_there set.release (named old.lists)) source.targets

-- its lists are asked for, where the Release may be installed
abbrev pub listed : Setup → Source → Old → Result AdmittedRelease Staying → Slot
listed config source old (Ok set) = Listing set (is_there source old set) (map (first_list config source set.release (named old.lists)) source.targets)
listed config source old (Err why) = Refused why

-- the Release is asked for until it has ended
abbrev pub after_release : Setup → Source → Old → Standing → Point → Slot
after_release config source old item (Over end) = listed config source old (admitted end old.release config.settings config.change config.now)
after_release config source old item (At ask left faults next) = Asking old item

abbrev pub released : Setup → Source → Old → Standing → Slot
released config source old item = after_release config source old item item.point

-- one of its items hears an answer
abbrev pub heard_at : Setup → Source → ℕ → LaneAnswer → Slot → Slot
heard_at config source zero told (Asking old release) = released config source old (item_after told release)
heard_at config source (suc place) told (Listing set there lists) = Listing set there (changed_at place (option_map (item_after told)) lists)
heard_at config source place told slot = slot
