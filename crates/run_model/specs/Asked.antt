-- For what a run asks.
use Rattle.std.specs.Prelude.{◌≡◌, ◌⊎◌, ℕ, suc, true, Contains, List, [], slice_get, Some, Ok}
use Rattle.std.specs.List.{AllByRecursion as Each}
use Rattle.acq_base.specs.declared.installed.Old.{Old}
use Rattle.acq_base.specs.declared.plan.Source.{Source}
use Rattle.acq_base.specs.declared.plan.Target.{Target}
use Rattle.acq_base.specs.declared.sum.Sum.{Sum}
use Rattle.board_model.specs.Boards.{Board, is_finished, log_of}
use Rattle.board_model.specs.Keys.{keys_from}
use Rattle.board_model.specs.Reached.{Reached}
use Rattle.board_model.specs.RunLaws.{IsSourceAt}
use Rattle.board_model.specs.Runs.{Note}
use Rattle.board_model.specs.Slots.{Setup}
use Rattle.board_model.specs.Stands.{entries_of, history_of, lane_answers}
use Rattle.release_file.specs.Release.{listed_sum}
use Rattle.update_model.specs.Outcomes.{AdmittedRelease, admitted}
use Rattle.update_model.specs.Points.{Over, run, start}
use Rattle.update_model.specs.Walks.{release_walk}
use Rattle.update_model.specs.declared.end.End.{End}

-- whatever was heard was heard by an item of the plan
abbrev pub NotesAreOfItems : Type 0
NotesAreOfItems =
    (config : Setup) (olds : List Old) (notes : List Note) (b : Board) → Reached config olds notes b
    → Each (λ note. Contains (keys_from 0 config.sources) note.key) notes

-- and just that is told by the log
abbrev pub LogsTellNotes : Type 0
LogsTellNotes = (config : Setup) (olds : List Old) (notes : List Note) (b : Board) → Reached config olds notes b → (log_of b).asks ≡ entries_of notes

-- the Release with which a source's asks for it ended may be installed, and names the list
pub record IsListed (config : Setup) (old : Old) (source : Source) (target : Target) (heard : List Note) : Type 0 where
  pub end : End
  pub ends : run config.settings.retries (start config.settings.retries (release_walk source)) (lane_answers heard) ≡ Over end
  pub set : AdmittedRelease
  pub came_to : admitted end old.release config.settings config.change config.now ≡ Ok set
  pub sum : Sum
  pub listed : listed_sum set.release target.path ≡ Some sum

-- and of the lists of a source just those that its Release names have heard anything
abbrev pub OthersHearNothing : Type 0
OthersHearNothing =
    (config : Setup) (olds : List Old) (notes : List Note) (b : Board) (n k : ℕ) (source : Source) (old : Old) (target : Target)
    → Reached config olds notes b → is_finished b ≡ true → IsSourceAt config olds n source old → slice_get source.targets k ≡ Some target
    → (history_of n notes (suc k) ≡ []) ⊎ IsListed config old source target (history_of n notes 0)
