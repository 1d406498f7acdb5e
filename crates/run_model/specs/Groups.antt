-- The commits of a run: which changes they make.
use Rattle.std.specs.Prelude.{◌≡◌, ◌≢◌, ℕ, ◌≤◌, Bool, true, false, Contains, List, [], ◌∷◌, ◌++◌, length, map, slice_get, Some}
use Rattle.std.specs.List.{flat_map, AllByRecursion as Each}
use Rattle.acq_base.specs.Plan.{names_of}
use Rattle.acq_base.specs.declared.plan.Source.{Source}
use Rattle.board_model.specs.Boards.{Board, first_ready, settled_of}
use Rattle.board_model.specs.Reached.{Reached}
use Rattle.board_model.specs.Runs.{Note}
use Rattle.commit_journal.specs.Changes.{Filled, DropFile, filled}
use Rattle.commit_journal.specs.Runs.{Commit}
use Rattle.list_commits.specs.Changes.{changes_for}
use Rattle.list_commits.specs.SetLaws.{HaveSums}
use Rattle.update_model.specs.Outcomes.{PartFiles}
use Rattle.update_model.specs.declared.settled.Held.{Held}
use Rattle.update_model.specs.declared.settled.Settled.{Settled}
use Rattle.update_model.specs.declared.settled.Verdict2.TheVariants.{Installed}
use Rattle.run_model.specs.Begun.{RunInput}

-- one group of a commit's changes: those of a source that was settled, or the removal of names that belong to no source
pub data Group : Type 0 where
  SetOf : (n : ℕ) → (changes : List Filled) → Group
  CleanUp : (names : List (List ℕ)) → Group

abbrev pub changes_in : Group → List Filled
changes_in (SetOf n changes) = changes
changes_in (CleanUp names) = map DropFile names

abbrev pub commit_of : List Group → Commit
commit_of groups = map changes_in groups

abbrev pub commits_of : List (List Group) → List Commit
commits_of commits = map commit_of commits

-- ---- the changes of a source

-- A source came to this: it was the first that was ready on a board to which the run's calls led, when the first of what
-- the run heard had been heard.
pub record CameToOnBoard (begun : RunInput) (heard : List Note) (n : ℕ) (settled : Settled) : Type 0 where
  pub notes : List Note
  pub later : List Note
  pub so_far : heard ≡ notes ++ later
  pub board : Board
  pub reached : Reached begun.config begun.olds notes board
  pub ready : first_ready board.slots ≡ Some n
  pub comes_to : settled_of board n ≡ Some settled

-- they put the new set of a source under its names, each staged file with bytes of the sum that is told
pub record IsNewSet (begun : RunInput) (heard : List Note) (n : ℕ) (changes : List Filled) : Type 0 where
  pub source : Source
  pub source_is : slice_get begun.config.sources n ≡ Some source
  pub settled : Settled
  pub settles : CameToOnBoard begun heard n settled
  pub held : Held
  pub installs : settled.verdict ≡ Installed held
  pub staged : PartFiles
  pub sums : HaveSums staged settled
  pub are : changes ≡ filled staged (changes_for source settled)

-- there are some, and none belongs to a source
pub record AreRemovable (begun : RunInput) (names : List (List ℕ)) : Type 0 where
  pub some : names ≢ []
  pub apart : (name : List ℕ) → Contains names name → Contains (flat_map names_of begun.config.sources) name → ⊥

-- ---- the groups of a run

-- new sets, and perhaps the clean-up behind them
abbrev pub AreGroups : RunInput → List Note → List Group → Type 0
AreGroups begun heard [] = Unit {0}
AreGroups begun heard (SetOf n changes ∷ groups) = IsNewSet begun heard n changes × AreGroups begun heard groups
AreGroups begun heard (CleanUp names ∷ groups) = AreRemovable begun names × (groups ≡ [])

abbrev pub all_groups : List (List Group) → List Group
all_groups commits = flat_map (λ groups. groups) commits

-- the sources whose sets are in them, in order
abbrev pub sources_in : List Group → List ℕ
sources_in [] = []
sources_in (SetOf n changes ∷ groups) = n ∷ sources_in groups
sources_in (CleanUp names ∷ groups) = sources_in groups

-- the names that the clean-up removes
abbrev pub removed_in : List Group → List (List ℕ)
removed_in [] = []
removed_in (SetOf n changes ∷ groups) = removed_in groups
removed_in (CleanUp names ∷ groups) = names

-- together there is at most one commit, of one group or more, and else each has one group
abbrev pub AreCommitGroups : Bool → List (List Group) → Type 0
AreCommitGroups true commits = (length commits ≤ 1) × Each (λ groups. groups ≢ []) commits
AreCommitGroups false commits = Each (λ groups. length groups ≡ 1) commits
