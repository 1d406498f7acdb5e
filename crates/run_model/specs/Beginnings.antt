-- What is known as a run begins and goes on, for those who carry one out.
use Rattle.std.specs.Prelude.{◌≡◌, ◌<◌, ℕ, true, if◌then◌else◌, List, [], ◌∷◌, ◌++◌, filter, length, map, slice_get, Some}
use Rattle.acq_base.specs.declared.installed.Old.{Old}
use Rattle.std.specs.List.{AllByRecursion as Each}
use Rattle.acq_base.specs.Plan.{IsPlanned}
use Rattle.acq_base.specs.declared.plan.Source.{Source}
use Rattle.acq_outside.specs.Crash.{State, reads}
use Rattle.acq_outside.specs.Disk.{Files}
use Rattle.board_model.specs.Boards.{Board, first_ready, log_of, settled_as, settled_of}
use Rattle.board_model.specs.CallLaws.{AreOnce}
use Rattle.board_model.specs.Reached.{Reached}
use Rattle.board_model.specs.RunLaws.{IsBegunOver}
use Rattle.board_model.specs.Runs.{Note}
use Rattle.board_model.specs.Slots.{Setup}
use Rattle.journal_model.specs.Names.{is_installed_name}
use Rattle.journal_model.specs.Reopen.{installed_now}
use Rattle.journal_model.specs.Rest.{IsAtRest}
use Rattle.list_commits.specs.Loose.{AreLooseNames}
use Rattle.list_commits.specs.Made.{after_all}
use Rattle.list_commits.specs.SetLaws.{HasInstalledFilesAlone}
use Rattle.lists_dir.specs.Installed.{installed_of}
use Rattle.update_model.specs.Next.{Keeps}
use Rattle.update_model.specs.Outcomes.{PartFiles}
use Rattle.update_model.specs.declared.settled.Settled.{Settled}
use Rattle.update_model.specs.declared.settled.Verdict2.{Verdict2}
use Rattle.run_model.specs.Begun.{RunInput, ReadsPlanned}
use Rattle.run_model.specs.Groups.{Group, AreGroups, all_groups, commits_of, removed_in}
use Rattle.run_model.specs.Runs.{AreLooseLists, AreRising, installed_by, is_installed, is_told_installed}

-- a run over what is installed begins over these lists
abbrev pub InstalledListsAreRunInput : Type 0
InstalledListsAreRunInput =
    (config : Setup) (olds : List Old) (lists : Files) (parts : PartFiles)
    → olds ≡ map (installed_of lists) config.sources → ((name : List ℕ) → config.sizes name ≡ length (parts name))
    → IsBegunOver config olds lists parts

-- the lists that a disk stands for are lists alone
abbrev pub OpenedListsAreAlone : Type 0
OpenedListsAreAlone = (entry : List State) → HasInstalledFilesAlone (installed_now entry)

-- each source that is told to be installed was settled once
abbrev pub InstalledAreOnce : Type 0
InstalledAreOnce =
    (config : Setup) (olds : List Old) (notes : List Note) (b : Board) (told : List Verdict2) → Reached config olds notes b
    → AreOnce (filter (λ n. is_told_installed (slice_get told n)) b.settled)

-- the sources that are told as installed, once one more is settled
abbrev pub InstalledFollow : Type 0
InstalledFollow =
    (config : Setup) (olds : List Old) (notes : List Note) (b : Board) (n : ℕ) (settled : Settled)
    → Reached config olds notes b → first_ready b.slots ≡ Some n → settled_of b n ≡ Some settled
    → installed_by (log_of (settled_as b n settled.verdict)) ≡ installed_by (log_of b) ++ (if is_installed settled.verdict then n ∷ [] else [])

-- sources have been settled in plan order, and go on so
pub record SettlesInTurn (b : Board) : Type 0 where
  pub rising : AreRising b.settled
  pub next : (n : ℕ) → first_ready b.slots ≡ Some n → Each (λ m. m < n) b.settled

-- so it is where none is settled, and stays so where nothing is heard between
abbrev pub NoneIsInTurn : Type 0
NoneIsInTurn = (b : Board) → b.settled ≡ [] → SettlesInTurn b

abbrev pub NextIsInTurn : Type 0
NextIsInTurn = (b : Board) (n : ℕ) (verdict : Verdict2) → SettlesInTurn b → first_ready b.slots ≡ Some n → SettlesInTurn (settled_as b n verdict)

-- and then those that are told as installed are in plan order
abbrev pub InstalledAreInTurn : Type 0
InstalledAreInTurn = (b : Board) → SettlesInTurn b → AreRising (installed_by (log_of b))

-- at rest a disk reads as its lists do, under the names of each source
abbrev pub ListsAreRead : Type 0
ListsAreRead = (source : Source) (lists : Files) (s : State) → IsPlanned source → IsAtRest lists s → Keeps source lists (reads s)

-- the names of no source that a disk has, once sets are installed, were there when the run began
abbrev pub LooseListsStay : Type 0
LooseListsStay =
    (begun : RunInput) (lists files : Files) (heard : List Note) (commits : List (List Group)) (names : List (List ℕ))
    → ReadsPlanned begun lists → AreGroups begun heard (all_groups commits) → removed_in (all_groups commits) ≡ []
    → AreLooseNames files begun.config.sources names
    → ((name : List ℕ) → is_installed_name name ≡ true → files name ≡ after_all (commits_of commits) lists name)
    → AreLooseLists begun.config.sources lists names
