-- What a source comes to, by the routes of its items.
use Rattle.std.specs.Prelude.{◌≡◌, ℕ, length, if◌then◌else◌, List, map, Some, Ok, Err}
use Rattle.std.specs.List.{AllByRecursion as Each}
use Rattle.acq_base.specs.Mirror.{MirrorMap}
use Rattle.acq_base.specs.declared.installed.Old.{Old}
use Rattle.acq_base.specs.declared.plan.Source.{Source}
use Rattle.item_graph.specs.Histories.{AgreesAlong, LivesAlong}
use Rattle.item_graph.specs.Laws.{IsHeardRoute}
use Rattle.update_model.specs.Outcomes.{Outcome, Directory, PartFiles, admitted, outcome, wanted_by}
use Rattle.update_model.specs.Points.{Over, run, start}
use Rattle.update_model.specs.Releases.{release_text}
use Rattle.update_model.specs.Trails.{entries}
use Rattle.update_model.specs.Walks.{Walk, release_walk, target_walk}
use Rattle.update_model.specs.declared.end.End.{End}
use Rattle.update_model.specs.declared.settled.Verdict2.{Verdict2}
use Rattle.update_model.specs.declared.settled.Verdict2.TheVariants.{Installed, Hit}
use Rattle.update_model.specs.declared.wanted.Wanted.{Wanted}
use Rattle.board_model.specs.Keys.{name_at, named}
use Rattle.board_model.specs.Settling.{held_of, staying_verdict}
use Rattle.board_model.specs.Slots.{Setup, is_there}
use Rattle.board_model.specs.Stands.{AreAsked, History, lane_answers, entries_of}

-- the verdict of an outcome: a set is a hit where it is installed already, with nothing else
abbrev pub verdict_for : Source → Old → Outcome → Verdict2
verdict_for source old (Ok set) = if is_there source old set then Hit (held_of source set) else Installed (held_of source set)
verdict_for source old (Err why) = staying_verdict why

-- a list that was asked for, its place among the items of its source, and how it ended
pub record ListEnd : Type 0 where
  pub wanted : Wanted
  pub place : ℕ
  pub end : End

abbrev pub walk_for : Setup → Old → Wanted → Walk
walk_for config old w = target_walk (named old.lists w.name.0) (config.sizes w.name.0) w

-- what the item at a place has heard is a route of this walk, whose entries are those of the log, and this is its end
pub record EndsInRoute (config : Setup) (n place : ℕ) (path : List ℕ) (walk : Walk) (history : History) (end : End) : Type 0 where
  pub told : IsHeardRoute config.settings.retries walk (lane_answers (history place)) end
  pub asks : AreAsked config.settings.retries (start config.settings.retries walk) (history place)
  pub ends : run config.settings.retries (start config.settings.retries walk) (lane_answers (history place)) ≡ Over end
  pub logged : entries_of (history place) ≡ entries n path told.trails

abbrev pub ListEndsInRoute : Setup → ℕ → Old → History → ListEnd → Type 0
ListEndsInRoute config n old history l = EndsInRoute config n l.place l.wanted.path (walk_for config old l.wanted) history l.end

-- All items of a source have ended in routes, and its verdict is that of the outcome of their ends. Just those lists were
-- asked for that a Release that may be installed names.
pub record ComesTo (config : Setup) (n : ℕ) (source : Source) (old : Old) (history : History) (verdict : Verdict2) : Type 0 where
  pub end : End
  pub release : EndsInRoute config n 0 release_text (release_walk source) history end
  pub lists : List ListEnd
  pub named_lists : map (λ l. l.wanted) lists ≡ wanted_by source config.settings (admitted end old.release config.settings config.change config.now)
  pub routes : Each (ListEndsInRoute config n old history) lists
  pub places : Each (λ l. name_at source l.place ≡ Some l.wanted.name) lists
  pub is : verdict ≡ verdict_for source old (outcome end (map (λ l. l.end) lists) old.release config.settings config.change config.now)

-- ---- over a mirror

-- all answers to the item at a place were the mirror's or faults, and none of its asks was given up
pub record IsHeardFrom (mirror : MirrorMap) (part : List ℕ) (retries : ℕ) (walk : Walk) (history : History) (place : ℕ) : Type 0 where
  pub agrees : AgreesAlong mirror part retries (start retries walk) (lane_answers (history place))
  pub lives : LivesAlong retries (start retries walk) (lane_answers (history place))

-- so were those to a list, beside this directory and these partial files
pub record ListIsHeardFrom (mirror : MirrorMap) (dir : Directory) (parts : PartFiles) (config : Setup) (old : Old) (history : History) (l : ListEnd) : Type 0 where
  pub installed : named old.lists l.wanted.name.0 ≡ dir l.wanted.name.0
  pub size : config.sizes l.wanted.name.0 ≡ length (parts l.wanted.name.0)
  pub heard : IsHeardFrom mirror (parts l.wanted.name.0) config.settings.retries (walk_for config old l.wanted) history l.place
