-- A run over a board: the commits that it makes, and what its log tells.
use Rattle.std.specs.Prelude.{◌≡◌, ◌⊎◌, ◌<◌, ℕ, Bool, true, false, not, ◌&&◌, Contains, List, [], ◌∷◌, ◌++◌, filter, slice_get, Option, Some, None}
use Rattle.std.specs.List.{flat_map, list_all, AllByRecursion as Each}
use Rattle.acq_base.specs.Plan.{names_of}
use Rattle.acq_base.specs.declared.plan.Source.{Source}
use Rattle.acq_base.specs.declared.settings.Settings.{Settings}
use Rattle.acq_outside.specs.Disk.{Files}
use Rattle.board_model.specs.Boards.{Board, is_finished, log_of}
use Rattle.board_model.specs.Reached.{Reached}
use Rattle.board_model.specs.Runs.{Note}
use Rattle.journal_model.specs.Names.{is_installed_name}
use Rattle.list_commits.specs.Loose.{AreLooseNames, removed_names}
use Rattle.update_model.specs.declared.log.RunLog.{RunLog}
use Rattle.update_model.specs.declared.settled.Verdict2.{Verdict2}
use Rattle.update_model.specs.declared.settled.Verdict2.TheVariants.{Installed, Hit, Older, Kept}
use Rattle.run_model.specs.Begun.{RunInput}
use Rattle.run_model.specs.Groups.{Group, AreGroups, AreCommitGroups, all_groups, removed_in, sources_in}

-- ---- what a log tells

abbrev pub is_installed : Verdict2 → Bool
is_installed (Installed held) = true
is_installed (Hit held) = false
is_installed (Older date) = false
is_installed (Kept cause) = false

abbrev pub is_kept : Verdict2 → Bool
is_kept (Kept cause) = true
is_kept (Installed held) = false
is_kept (Hit held) = false
is_kept (Older date) = false

abbrev pub is_told_installed : Option Verdict2 → Bool
is_told_installed None = false
is_told_installed (Some verdict) = is_installed verdict

-- the sources that a run installed, in the order in which it settled them
abbrev pub installed_by : RunLog → List ℕ
installed_by log = filter (λ n. is_told_installed (slice_get log.verdicts n)) log.settled

-- whether the names of no source go: that is switched on, and no source is kept for a cause
abbrev pub cleans_up : Settings → List Verdict2 → Bool
cleans_up settings verdicts = settings.cleanup && list_all (λ verdict. not (is_kept verdict)) verdicts

-- ---- the clean-up

-- All names in the folder, of no source, under which the disk has a file, in byte order; those that are lists are the
-- ones with which the run began.
pub record AreLooseLists (sources : List Source) (lists : Files) (names : List (List ℕ)) : Type 0 where
  pub files : Files
  pub are : AreLooseNames files sources names
  pub same : (name : List ℕ) → is_installed_name name ≡ true → (Contains (flat_map names_of sources) name → ⊥) → files name ≡ lists name

-- all of them go, or none
abbrev pub RemovesLooseNames : Bool → List Source → Files → List (List ℕ) → Type 0
RemovesLooseNames true sources lists names = AreLooseLists sources lists names
RemovesLooseNames false sources lists names = names ≡ []

-- ---- what is committed

-- All that a run has to commit: every source is settled, the sets are those of the sources that are told as installed, in
-- the order in which they were settled, and the names of no source go exactly where they are to.
pub record AreAllGroups (begun : RunInput) (lists : Files) (board : Board) (groups : List Group) : Type 0 where
  pub finished : is_finished board ≡ true
  pub order : sources_in groups ≡ installed_by (log_of board)
  pub cleans : RemovesLooseNames (cleans_up begun.config.settings board.verdicts) begun.config.sources lists (removed_in groups)

-- the first of the sets of the sources that are told as installed so far, and no clean-up
pub record AreGroupsSoFar (board : Board) (groups : List Group) : Type 0 where
  pub rest : List ℕ
  pub order : installed_by (log_of board) ≡ sources_in groups ++ rest
  pub no_clean_up : removed_in groups ≡ []

-- what may have been begun: one set after another and then the clean-up, or, together, nothing before all
abbrev pub MayBeCommitted : Bool → RunInput → Files → Board → List Group → Type 0
MayBeCommitted false begun lists board groups = AreGroupsSoFar board groups ⊎ AreAllGroups begun lists board groups
MayBeCommitted true begun lists board groups = (groups ≡ []) ⊎ AreAllGroups begun lists board groups

-- each is above all before it
abbrev pub AreRising : List ℕ → Type 0
AreRising [] = Unit {0}
AreRising (n ∷ ns) = Each (λ m. n < m) ns × AreRising ns

-- in plan order, where all is committed together
abbrev pub AreInPlanOrder : Bool → List Group → Type 0
AreInPlanOrder false groups = Unit {0}
AreInPlanOrder true groups = AreRising (sources_in groups)

-- ---- runs

-- A run over these lists so far, whatever it answers: what it has heard, the board to which that has led, and the commits
-- that it has begun, each the whole set of a source that had none before in this run, or, last, the clean-up.
pub record MayBeStopped (together : Bool) (begun : RunInput) (lists : Files) (commits : List (List Group)) : Type 0 where
  pub heard : List Note
  pub board : Board
  pub reached : Reached begun.config begun.olds heard board
  pub groups : AreGroups begun heard (all_groups commits)
  pub may : MayBeCommitted together begun lists board (all_groups commits)
  pub in_turn : AreInPlanOrder together (all_groups commits)
  pub shape : AreCommitGroups together commits

-- A run over these lists that has ended with this log: its board is finished, and all that it had to commit is committed.
pub record HasRun (together : Bool) (begun : RunInput) (lists : Files) (log : RunLog) (commits : List (List Group)) : Type 0 where
  pub heard : List Note
  pub board : Board
  pub reached : Reached begun.config begun.olds heard board
  pub groups : AreGroups begun heard (all_groups commits)
  pub all : AreAllGroups begun lists board (all_groups commits)
  pub in_turn : AreInPlanOrder together (all_groups commits)
  pub shape : AreCommitGroups together commits
  pub told : log ≡ record (log_of board) { removed = removed_names (removed_in (all_groups commits)) }
