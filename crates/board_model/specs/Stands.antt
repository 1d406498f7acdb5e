-- How each source of a board stands to what its items have heard.
use Rattle.std.specs.Prelude.{◌≡◌, ◌⊎◌, ℕ, suc, true, if◌then◌else◌, List, [], ◌∷◌, map, slice_get, Option, Some, None, Result, Ok, Err}
use Rattle.acq_base.specs.declared.installed.Old.{Old}
use Rattle.acq_base.specs.declared.plan.Source.{Source}
use Rattle.acq_base.specs.declared.plan.Target.{Target}
use Rattle.acq_base.specs.declared.sum.Sum.{Sum}
use Rattle.item_graph.specs.Refinement.{asked}
use Rattle.release_file.specs.Release.{listed_sum}
use Rattle.release_file.specs.declared.release.Release.{Release}
use Rattle.update_model.specs.Outcomes.{AdmittedRelease, Staying, admitted}
use Rattle.update_model.specs.Points.{Point, Over, ran, run, start, point_after}
use Rattle.update_model.specs.Releases.{release_text}
use Rattle.update_model.specs.Trails.{LaneAnswer}
use Rattle.update_model.specs.Walks.{Walk, release_walk, target_walk}
use Rattle.update_model.specs.Wanted.{want}
use Rattle.update_model.specs.declared.end.End.{End}
use Rattle.update_model.specs.declared.log.Asked.{Asked}
use Rattle.update_model.specs.declared.settled.Settled.{Settled}
use Rattle.update_model.specs.declared.settled.Verdict2.{Verdict2}
use Rattle.board_model.specs.Keys.{named, same_key}
use Rattle.board_model.specs.Runs.{Note, BoardRun, entry_of}
use Rattle.board_model.specs.Settling.{settled_in}
use Rattle.board_model.specs.Slots.{Setup, Standing, Slot, Asking, Listing, Refused, SettledSlot, is_ready, is_there}
use Rattle.board_model.specs.declared.key.Key.{Key}

-- ---- what one item has heard

-- the notes of an item, in order
abbrev pub of_key : Key → List Note → List Note
of_key key [] = []
of_key key (note ∷ notes) = if same_key note.key key then note ∷ of_key key notes else of_key key notes

abbrev pub lane_answers : List Note → List LaneAnswer
lane_answers notes = map (λ note. note.told) notes

abbrev pub entries_of : List Note → List Asked
entries_of notes = map entry_of notes

-- each of these answers is to what was asked at its point
abbrev pub AreAsked : ℕ → Point → List Note → Type 0
AreAsked retries p [] = Unit {0}
AreAsked retries p (note ∷ notes) = (asked p ≡ Some note.ask) × AreAsked retries (point_after retries p note.told) notes

-- an item has heard just these answers since its walk began, and the log's entries of it are theirs
pub record ItemHasHeard (retries source : ℕ) (path : List ℕ) (walk : Walk) (heard : List Note) (item : Standing) : Type 0 where
  pub repeats : item.retries ≡ retries
  pub stands : item.point ≡ run retries (start retries walk) (lane_answers heard)
  pub asks : AreAsked retries (start retries walk) heard
  pub logged : entries_of heard ≡ ran retries source path (start retries walk) (lane_answers heard)

-- the items of a source by place, each with what it has heard
abbrev pub History : Type 0
History = ℕ → List Note

abbrev pub history_of : ℕ → List Note → History
history_of n notes place = of_key (record { source = n; place = place }) notes

-- ---- a source

-- its Release has ended, and this is what it came to
pub record HasCome (config : Setup) (n : ℕ) (source : Source) (old : Old) (heard : List Note) (came : Result AdmittedRelease Staying) : Type 0 where
  pub end : End
  pub ends : run config.settings.retries (start config.settings.retries (release_walk source)) (lane_answers heard) ≡ Over end
  pub asks : AreAsked config.settings.retries (start config.settings.retries (release_walk source)) heard
  pub logged : entries_of heard ≡ ran config.settings.retries n release_text (start config.settings.retries (release_walk source)) (lane_answers heard)
  pub came_to : admitted end old.release config.settings config.change config.now ≡ came

-- no list has heard anything
abbrev pub ListsUnheard : History → Type 0
ListsUnheard history = (place : ℕ) → history (suc place) ≡ []

abbrev pub walk_of : Setup → Source → Old → Release → Target → Sum → Walk
walk_of config source old release target sum =
    target_walk (named old.lists target.name.0) (config.sizes target.name.0) (want source release config.settings target sum)

-- a list is an item exactly where the Release names it, and it has heard just these answers
abbrev pub ListStands : Setup → ℕ → Source → Old → Release → Target → List Note → Option Standing → Type 0
ListStands config n source old release target heard None = (listed_sum release target.path ≡ None) × (heard ≡ [])
ListStands config n source old release target heard (Some item) =
    (sum : Sum) × (listed_sum release target.path ≡ Some sum)
    × ItemHasHeard config.settings.retries n target.path (walk_of config source old release target sum) heard item

-- so is each list from a place on
abbrev pub ListsStand : Setup → ℕ → Source → Old → Release → ℕ → List Target → List (Option Standing) → History → Type 0
ListsStand config n source old release place [] lists history = lists ≡ []
ListsStand config n source old release place (target ∷ targets) [] history = ⊥
ListsStand config n source old release place (target ∷ targets) (list ∷ lists) history =
    ListStands config n source old release target (history place) list
    × ListsStand config n source old release (suc place) targets lists history

-- a source that isn't settled
abbrev pub IsOpen : Setup → ℕ → Source → Old → Slot → History → Type 0
IsOpen config n source old (Asking kept release) history =
    (kept ≡ old) × ItemHasHeard config.settings.retries n release_text (release_walk source) (history 0) release × ListsUnheard history
IsOpen config n source old (Listing set there lists) history =
    HasCome config n source old (history 0) (Ok set) × (there ≡ is_there source old set)
    × ListsStand config n source old set.release 1 source.targets lists history
IsOpen config n source old (Refused why) history = HasCome config n source old (history 0) (Err why) × ListsUnheard history
IsOpen config n source old SettledSlot history = ⊥

-- a source that is settled: it was ready, and this is what it came to
pub record WasSettled (config : Setup) (n : ℕ) (source : Source) (old : Old) (verdict : Verdict2) (history : History) : Type 0 where
  pub slot : Slot
  pub open_slot : IsOpen config n source old slot history
  pub ready : is_ready slot ≡ true
  pub settled : Settled
  pub comes_to : settled_in source slot ≡ Some settled
  pub told : verdict ≡ settled.verdict

abbrev pub SourceStands : Setup → ℕ → Source → Old → Slot → Verdict2 → History → Type 0
SourceStands config n source old slot verdict history =
    IsOpen config n source old slot history ⊎ ((slot ≡ SettledSlot) × WasSettled config n source old verdict history)

-- ---- a board

-- a source of the plan beside what was installed of it, as it stands in a world
pub record StandsAt (config : Setup) (n : ℕ) (source : Source) (old : Old) (w : BoardRun) : Type 0 where
  pub slot : Slot
  pub verdict : Verdict2
  pub slot_is : slice_get w.board.slots n ≡ Some slot
  pub verdict_is : slice_get w.board.verdicts n ≡ Some verdict
  pub stands : SourceStands config n source old slot verdict (history_of n w.notes)

-- so does each; and the log is what was noted
pub record AllStand (config : Setup) (olds : List Old) (w : BoardRun) : Type 0 where
  pub config_is : w.board.config ≡ config
  pub sources : (n : ℕ) (source : Source) (old : Old) → slice_get config.sources n ≡ Some source → slice_get olds n ≡ Some old → StandsAt config n source old w
  pub log : w.board.asks ≡ entries_of w.notes
