-- What the laws of this crate say.
use Rattle.std.specs.Prelude.{◌≡◌, ◌↔◌, ◌++◌, ℕ, true, List, [], length}
use Rattle.std.specs.List.{AllByRecursion as Each}
use Rattle.acq_base.specs.Mirror.{MirrorMap}
use Rattle.acq_base.specs.declared.installed.Old.{Old}
use Rattle.acq_base.specs.declared.plan.Source.{Source}
use Rattle.update_model.specs.Next.{has_whole_set}
use Rattle.update_model.specs.Outcomes.{AdmittedRelease, Directory, PartFiles, new_set}
use Rattle.update_model.specs.Points.{AsksFirst}
use Rattle.update_model.specs.Trails.{Trail, entries}
use Rattle.update_model.specs.Walks.{Walk, IsRoute, release_walk}
use Rattle.update_model.specs.declared.end.End.{End}
use Rattle.update_model.specs.declared.log.Asked.{Asked}
use Rattle.update_model.specs.declared.settled.Verdict2.{Verdict2}
use Rattle.board_model.specs.Boards.{is_finished}
use Rattle.board_model.specs.Ends.{ComesTo, IsHeardFrom, ListIsHeardFrom, verdict_for}
use Rattle.board_model.specs.Keys.{named}
use Rattle.board_model.specs.Runs.{Event, Note, run, start}
use Rattle.board_model.specs.Slots.{Setup, SettledSlot, Standing, is_there}
use Rattle.board_model.specs.Stands.{AllStand, ItemHasHeard, History, WasSettled, entries_of}

-- whatever is called and answered, in whatever order, each source stands to what its items have heard
abbrev pub BoardsStand : Type 0
BoardsStand = (config : Setup) (olds : List Old) (lanes : ℕ) (events : List Event) → AllStand config olds (run events (start config olds lanes))

-- a source that is settled, or ready to be, has ended in routes, and its verdict is that of their outcome
abbrev pub SettledSourcesCome : Type 0
SettledSourcesCome =
    (config : Setup) (n : ℕ) (source : Source) (old : Old) (verdict : Verdict2) (history : History)
    → WasSettled config n source old verdict history → ComesTo config n source old history verdict

-- where all that its items heard was a mirror's, and no ask was given up, the verdict is that of what the mirror has
abbrev pub VerdictsAreMirrors : Type 0
VerdictsAreMirrors =
    (config : Setup) (n : ℕ) (source : Source) (old : Old) (verdict : Verdict2) (history : History)
    (mirror : MirrorMap) (dir : Directory) (parts : PartFiles) (came : ComesTo config n source old history verdict)
    → old.release ≡ dir source.release_name.0
    → IsHeardFrom mirror [] config.settings.retries (release_walk source) history 0
    → Each (ListIsHeardFrom mirror dir parts config old history) came.lists
    → verdict ≡ verdict_for source old (new_set mirror dir parts source config.settings config.change config.now)

-- an item that hasn't ended asks the next of a route of its walk, of which the log's entries are the front
abbrev pub ItemsAskNext : Type 0
ItemsAskNext =
    (retries n : ℕ) (path : List ℕ) (walk : Walk) (heard : List Note) (item : Standing) → ItemHasHeard retries n path walk heard item
    → (trails : List Trail) × (end : End) × (rest : List Asked)
    × IsRoute retries walk trails end
    × (entries n path trails ≡ entries_of heard ++ rest)
    × AsksFirst item.point rest end

-- a set is there exactly where a directory with what is installed holds it
abbrev pub SetsThereAreHeld : Type 0
SetsThereAreHeld =
    (dir : Directory) (source : Source) (old : Old) (set : AdmittedRelease) → old.release ≡ dir source.release_name.0
    → Each (λ target. named old.lists target.name.0 ≡ dir target.name.0) source.targets
    → is_there source old set ≡ has_whole_set dir source set

-- a board is finished exactly where each source is settled
abbrev pub FinishedExactly : Type 0
FinishedExactly =
    (config : Setup) (olds : List Old) (lanes : ℕ) (events : List Event) → length olds ≡ length config.sources
    → (is_finished (run events (start config olds lanes)).board ≡ true) ↔ Each (λ slot. slot ≡ SettledSlot) (run events (start config olds lanes)).board.slots
