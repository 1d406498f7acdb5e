-- A run between two of its steps, with the commits that it has made.
use Rattle.std.specs.Prelude.{◌≡◌, ◌≢◌, ◌⊎◌, ◌<◌, ◌&&◌, ℕ, suc, length, Bool, true, false, not, if◌then◌else◌, Contains, List, [], ◌∷◌, ◌++◌, filter, map, slice_get, Option, Some, None}
use Rattle.std.specs.List.{AllByRecursion as Each, list_all}
use Rattle.acq_base.specs.declared.installed.Old.{Old}
use Rattle.acq_base.specs.declared.plan.Source.{Source}
use Rattle.acq_outside.specs.Crash.{State, reads}
use Rattle.acq_outside.specs.Disk.{Files}
use Rattle.acq_outside.specs.States.{IsTold, IsNow, ToldAs}
use Rattle.acq_outside.specs.declared.word.Fetch.{Fetch}
use Rattle.board_model.specs.Agreeing.{Agrees}
use Rattle.board_model.specs.Boards.{Board, first_ready, settled_as, settled_of}
use Rattle.board_model.specs.Jobs.{NoneAsks}
use Rattle.board_model.specs.Runs.{Note}
use Rattle.commit_journal.specs.Changes.{Filled}
use Rattle.commit_journal.specs.Runs.{CommitProgress}
use Rattle.commit_journal.specs.declared.changing.Change.{Change}
use Rattle.journal_model.specs.Reopen.{installed_now}
use Rattle.journal_model.specs.Rest.{IsAtRest, IsIdle, IsSynced, part_bytes}
use Rattle.list_commits.specs.Changes.{changes_for}
use Rattle.list_commits.specs.Loose.{NoneIsLoose, removed_names}
use Rattle.list_commits.specs.Made.{CommitsMade}
use Rattle.list_commits.specs.RecordLaws.{IsSyncedPart, names_of_group}
use Rattle.list_commits.specs.SetLaws.{HasPutNames, HaveSums, OwnsChanges}
use Rattle.run_jobs.specs.Mirrors.{ForMirror}
use Rattle.lane_jobs.specs.Going.{AreOut, IsRunningOver, RunLanes, run_lanes}
use Rattle.lane_jobs.specs.JobsOut.{JobsOut, is_filled, none_out}
use Rattle.lane_pool.specs.Pool.{Pool}
use Rattle.run_jobs.specs.Running.{RunStart, IsSoundBegun, IsUnderWay}
use Rattle.run_jobs.specs.declared.error.RunError.{RunError}
use Rattle.run_jobs.specs.declared.error.RunError.TheVariants.{NoMemory}
use Rattle.run_model.specs.Begun.{RunInput}
use Rattle.update_engine.specs.Run.{IsConfiguredBy, IsListOf, IsReadFromDisk, IsTaken, KeepsAside, Run, IsLogOfBoard}
use Rattle.run_model.specs.Groups.{Group, SetOf, AreGroups, CameToOnBoard, all_groups, commits_of, sources_in}
use Rattle.run_model.specs.Begun.{ReadsPlanned}
use Rattle.run_model.specs.Runs.{AreRising, MayBeStopped, HasRun, cleans_up, installed_by, is_installed, is_kept, is_told_installed}
use Rattle.update_model.specs.declared.log.RunLog.{RunLog}
use Rattle.update_model.specs.declared.settled.Held.{Held}
use Rattle.update_model.specs.declared.settled.Settled.{Settled}
use Rattle.update_model.specs.declared.settled.Verdict2.{Verdict2}
use Rattle.update_model.specs.declared.settled.Verdict2.TheVariants.{Installed}

-- with what a run begins, whatever its mirror
abbrev pub begun_of : RunStart → RunInput
begun_of start = record { config = start.config; olds = start.olds; parts = start.parts }

-- the sources that a board tells as installed, in the order in which they were settled
abbrev pub installed_in : Board → List ℕ
installed_in b = filter (λ n. is_told_installed (slice_get b.verdicts n)) b.settled

-- ---- the commits so far

-- a commit of one source's set
pub record CommitsOneSource (groups : List Group) : Type 0 where
  pub n : ℕ
  pub changes : List Filled
  pub is : groups ≡ SetOf n changes ∷ []

-- The sets of the sources that were settled as installed are committed, one by one and in that order.
pub record HasMadeSets (begun : RunInput) (heard : List Note) (opened now : List State) (b : Board) : Type 0 where
  pub told : IsTold now
  pub commits : List (List Group)
  pub made : CommitsMade (commits_of commits) opened now
  pub each : Each CommitsOneSource commits
  pub groups : AreGroups begun heard (all_groups commits)
  pub order : sources_in (all_groups commits) ≡ installed_in b

-- And what lies beside the lists stays.
pub record HasCommittedSets (begun : RunInput) (heard : List Note) (opened now : List State) (b : Board) : Type 0 where
  pub sets : HasMadeSets begun heard opened now b
  pub open sets use *
  pub aside : KeepsAside begun.config.sources (IsListOf begun.config.sources (installed_in b)) heard opened now

-- a list that a run may have moved from its way, or whose file is being filled
abbrev pub IsMovedOrFilled : List Source → List ℕ → JobsOut → List ℕ → Type 0
IsMovedOrFilled sources installed jobs name = IsListOf sources installed name ⊎ (is_filled jobs name ≡ true)

-- The same while jobs are out: of a list that is being filled nothing is said.
pub record HasCommittedBeside (begun : RunInput) (jobs : JobsOut) (heard : List Note) (opened now : List State) (b : Board) : Type 0 where
  pub sets : HasMadeSets begun heard opened now b
  pub aside : KeepsAside begun.config.sources (IsMovedOrFilled begun.config.sources (installed_in b) jobs) heard opened now

-- The commits of a run over these lists are made one after another since the journal was open: so many are acknowledged and
-- so many begun, and as many where it stops for want of memory. Where the disk was at rest then, it is synced.
pub record HasProgress (error : RunError) (start : RunStart) (together : Bool) (lists : Files) (opened now : List State) : Type 0 where
  pub commits : List (List Group)
  pub acknowledged : ℕ
  pub started : ℕ
  pub progress : CommitProgress (commits_of commits) acknowledged started opened now
  pub whole : error ≡ NoMemory → acknowledged ≡ started
  pub has : MayBeStopped together (begun_of start) lists commits
  pub agrees : IsTold now → ForMirror start.mirrors (λ mirror. Agrees mirror start.parts start.config.sources has.heard)
  pub synced : IsNow (IsAtRest lists) opened → IsNow IsSynced now

-- ---- between two jobs

-- a run that is under way over a sound plan, where a commit may be prepared
pub record MayCommit (b : Board) (now : List State) : Type 0 where
  pub start : RunStart
  pub notes : List Note
  pub sound : IsSoundBegun start
  pub under_way : IsUnderWay start notes b now
  pub idle : IsNow IsIdle now

-- a source was settled
pub record HasSettled (n : ℕ) (before after : Board) : Type 0 where
  pub verdict : Verdict2
  pub is : after ≡ settled_as before n verdict

-- nothing else of a board has changed than that sources are settled
pub record OnlySettles (before after : Board) : Type 0 where
  pub config : after.config ≡ before.config
  pub asks : after.asks ≡ before.asks
  pub out : after.out ≡ before.out
  pub quiet : NoneAsks before → NoneAsks after

-- A run that is under way still is where nothing was heard, and so is its having made its sets, and each job that is out is its
-- item's. What lies beside the lists stays, but for what is on its way of the sources that were installed.
pub record KeepsRunGoing (before after : Board) (old now : List State) : Type 0 where
  pub under_way : (start : RunStart) (notes : List Note) → IsSoundBegun start → IsUnderWay start notes before old → IsUnderWay start notes after now
  pub made : (start : RunStart) (notes : List Note) (opened : List State) → IsSoundBegun start → IsUnderWay start notes before old
      → HasMadeSets (begun_of start) notes opened old before → HasMadeSets (begun_of start) notes opened now after
  pub aside : (start : RunStart) (notes : List Note) → IsSoundBegun start → IsUnderWay start notes before old
      → KeepsAside start.config.sources (IsListOf start.config.sources (installed_in after)) [] old now
  pub more : (start : RunStart) (notes : List Note) → IsSoundBegun start → IsUnderWay start notes before old → (n : ℕ) → Contains (installed_in before) n → Contains (installed_in after) n
  pub out : (start : RunStart) (notes : List Note) (pool : Pool) (jobs : JobsOut) → IsSoundBegun start → IsUnderWay start notes before old
      → AreOut start (run_lanes pool jobs before) old → AreOut start (run_lanes pool jobs after) now

-- and where it stops, its commits have got so far
abbrev pub StopsBetweenAsks : RunError → Board → List State → List State → Type 0
StopsBetweenAsks error before old now =
    (start : RunStart) (notes : List Note) (lists : Files) (opened : List State) → IsSoundBegun start → IsUnderWay start notes before old
    → HasMadeSets (begun_of start) notes opened old before → HasProgress error start false lists opened now

-- ---- over jobs

-- a run that goes on has heard more, and has committed its sets where it had before
pub record RunGoesOnWith (start : RunStart) (notes : List Note) (before after : RunLanes) (old now : List State) : Type 0 where
  pub more : List Note
  pub running : IsRunningOver start (notes ++ more) after now
  pub sets : (opened : List State) → HasCommittedBeside (begun_of start) before.jobs notes opened old before.board
      → HasCommittedBeside (begun_of start) after.jobs (notes ++ more) opened now after.board

-- so does each run that goes on over these lanes
abbrev pub RunGoesOn : RunLanes → RunLanes → List State → List State → Type 0
RunGoesOn before after old now =
    (start : RunStart) (notes : List Note) → IsSoundBegun start → IsRunningOver start notes before old → RunGoesOnWith start notes before after old now

-- and where it stops, its commits have got so far
abbrev pub StopsWhileAsking : RunError → RunLanes → List State → List State → Type 0
StopsWhileAsking error before old now =
    (start : RunStart) (notes : List Note) (lists : Files) (opened : List State) → IsSoundBegun start → IsRunningOver start notes before old
    → HasCommittedBeside (begun_of start) before.jobs notes opened old before.board → HasProgress error start false lists opened now

-- ---- all together

-- a source that came to a new set, and what it came to
pub record NewSource : Type 0 where
  pub n : ℕ
  pub source : Source
  pub settled : Settled

-- It came to it on a board to which the run's calls led, where the disk tells. Its changes are its own, and what is put from its way is there, of
-- its sum, and lasts.
pub record IsNewSource (start : RunStart) (notes : List Note) (now : List State) (p : NewSource) : Type 0 where
  pub source_is : slice_get start.config.sources p.n ≡ Some p.source
  pub settles : IsTold now → CameToOnBoard (begun_of start) notes p.n p.settled
  pub held : Held
  pub installs : p.settled.verdict ≡ Installed held
  pub put : HasPutNames p.source
  pub own : OwnsChanges p.source p.settled
  pub lasts : IsNow (λ s. Each (λ put. IsSyncedPart s put.0 put.1) p.settled.puts) now
  pub sums : IsTold now → HaveSums (part_bytes now) p.settled

abbrev pub numbers_of : List NewSource → List ℕ
numbers_of picks = map (λ p. p.n) picks

abbrev pub groups_for : List NewSource → List (List Change)
groups_for picks = map (λ p. changes_for p.source p.settled) picks

-- Sources were settled, and these of them came to new sets, in plan order; the next that is ready is behind them.
pub record HasGatheredChanges (start : RunStart) (notes : List Note) (now : List State) (before after : Board) (groups : List (List Change)) : Type 0 where
  pub under_way : IsUnderWay start notes after now
  pub picks : List NewSource
  pub are : groups ≡ groups_for picks
  pub each : Each (IsNewSource start notes now) picks
  pub order : installed_in after ≡ installed_in before ++ numbers_of picks
  pub in_turn : AreRising (numbers_of picks)
  pub next : (m : ℕ) → first_ready after.slots ≡ Some m → Each (λ n. n < m) (numbers_of picks)

-- so they are of each run that is under way
abbrev pub GathersChanges : Board → Board → List (List Change) → Type 0
GathersChanges before after groups =
    (start : RunStart) (notes : List Note) (now : List State) → IsSoundBegun start → IsUnderWay start notes before now
    → HasGatheredChanges start notes now before after groups

-- one source was settled, and its changes are one more group where it came to a new set
pub record GathersChangesOf (n : ℕ) (before after : Board) (groups later : List (List Change)) : Type 0 where
  pub settled : Settled
  pub comes : settled_of before n ≡ Some settled
  pub board : after ≡ settled_as before n settled.verdict
  pub group : (source : Source) → slice_get before.config.sources n ≡ Some source
      → later ≡ groups ++ (if is_installed settled.verdict then changes_for source settled ∷ [] else [])

-- ---- the clean-up

-- whether the names of no source go: that is switched on, and no source is kept for a cause
abbrev pub cleans : Bool → List Verdict2 → Bool
cleans cleanup verdicts = cleanup && list_all (λ verdict. not (is_kept verdict)) verdicts

abbrev pub some_names : List (List ℕ) → Option (List (List ℕ))
some_names [] = None
some_names (name ∷ names) = Some (name ∷ names)

-- the names that the clean-up takes, where there are any and it is to be
abbrev pub names_to_remove : Bool → List Verdict2 → List (List ℕ) → Option (List (List ℕ))
names_to_remove cleanup verdicts loose = if cleans cleanup verdicts then some_names loose else None

-- what a log tells with the clean-up
abbrev pub with_removed : RunLog → Option (List (List ℕ)) → RunLog
with_removed log names = record log { removed = removed_names (names_of_group names) }

-- ---- the end

-- The sets of all sources that are told as installed are committed but those of these: one by one all are, together none.
pub record HasCommittedAllBut (together : Bool) (start : RunStart) (notes : List Note) (opened now : List State) (b : Board) (picks : List NewSource) : Type 0 where
  pub told : IsTold now
  pub commits : List (List Group)
  pub made : CommitsMade (commits_of commits) opened now
  pub each : Each CommitsOneSource commits
  pub groups : AreGroups (begun_of start) notes (all_groups commits)
  pub order : installed_in b ≡ sources_in (all_groups commits) ++ numbers_of picks
  pub first : together ≡ true → commits ≡ []
  pub alone : together ≡ false → picks ≡ []
  pub aside : KeepsAside start.config.sources (IsListOf start.config.sources (installed_in b)) notes opened now

-- what is left to be committed of a run that is under way: the changes of these sources
pub record HasUncommitted (together : Bool) (start : RunStart) (notes : List Note) (before : Board) (old now : List State) (b : Board) (groups : List (List Change)) : Type 0 where
  pub under_way : IsUnderWay start notes b now
  pub picks : List NewSource
  pub are : groups ≡ groups_for picks
  pub each : Each (IsNewSource start notes now) picks
  pub in_turn : AreRising (numbers_of picks)
  pub sets : (opened : List State) → (together ≡ true → before.settled ≡ []) → HasCommittedSets (begun_of start) notes opened old before → HasCommittedAllBut together start notes opened now b picks
  pub aside : KeepsAside start.config.sources (IsListOf start.config.sources (installed_in b)) [] old now

-- so is it of each run that is under way
abbrev pub LeavesUncommitted : Bool → Board → Board → List State → List State → List (List Change) → Type 0
LeavesUncommitted together before after old now groups =
    (start : RunStart) (notes : List Note) → IsSoundBegun start → IsUnderWay start notes before old → HasUncommitted together start notes before old now after groups

-- A run that is under way began over these lists, at rest when the journal was open, and has committed its sets; together it
-- has settled nothing.
pub record RunsOverLists (together : Bool) (start : RunStart) (notes : List Note) (lists : Files) (opened now : List State) (b : Board) : Type 0 where
  pub sound : IsSoundBegun start
  pub under_way : IsUnderWay start notes b now
  pub first : together ≡ true → b.settled ≡ []
  pub sets : HasCommittedSets (begun_of start) notes opened now b
  pub rest : IsNow (IsAtRest lists) opened
  pub over : ReadsPlanned (begun_of start) lists

-- where each such run stops at its end, its commits have got so far
abbrev pub StopsWhileEnding : RunError → Bool → Bool → Board → List State → List State → Type 0
StopsWhileEnding error together cleanup b old now =
    (start : RunStart) (notes : List Note) (lists : Files) (opened : List State) → start.config.settings.cleanup ≡ cleanup
    → RunsOverLists together start notes lists opened old b → HasProgress error start together lists opened now

-- all commits of a run over these lists are made, and this is its log; what lies beside the lists stays, at its end and all in
-- all, but for what was taken
pub record HasCommittedAll (together : Bool) (start : RunStart) (notes : List Note) (lists : Files) (opened old now : List State) (log : RunLog) : Type 0 where
  pub commits : List (List Group)
  pub ran : HasRun together (begun_of start) lists log commits
  pub same : ran.heard ≡ notes
  pub made : CommitsMade (commits_of commits) opened now
  pub aside : KeepsAside start.config.sources (IsTaken start.config.sources (installed_by log) (cleans_up start.config.settings log.verdicts)) notes opened now
  pub end : KeepsAside start.config.sources (IsTaken start.config.sources (installed_by log) (cleans_up start.config.settings log.verdicts)) [] old now
  pub gone : cleans_up start.config.settings log.verdicts ≡ true → IsNow (λ s. NoneIsLoose start.config.sources (reads s)) now

-- so are those of each such run
abbrev pub CommitsAll : Bool → Bool → Board → List State → List State → RunLog → Type 0
CommitsAll together cleanup b old now log =
    (start : RunStart) (notes : List Note) (lists : Files) (opened : List State) → start.config.settings.cleanup ≡ cleanup
    → RunsOverLists together start notes lists opened old b → HasCommittedAll together start notes lists opened old now log

-- with what a run begins, but for what is installed
abbrev pub begun_beside : RunStart → List Old → RunInput
begun_beside start olds = record { config = start.config; olds = olds; parts = start.parts }

-- The log is that of the board of a run, beside what was installed, which is what the run began with where the disk told.
pub record TellsOfBoard (start : RunStart) (notes : List Note) (old : List State) (log : RunLog) : Type 0 where
  pub olds : List Old
  pub same : IsTold old → olds ≡ start.olds
  pub of_board : IsLogOfBoard (begun_beside start olds) notes log

-- so it is of each run that is under way, whose board is finished, with what the clean-up removed
abbrev pub EndsWithLog : Bool → Board → List State → RunLog → Type 0
EndsWithLog cleanup b old log =
    (start : RunStart) (notes : List Note) → IsSoundBegun start → start.config.settings.cleanup ≡ cleanup → IsUnderWay start notes b old → TellsOfBoard start notes old log

-- ---- the beginning

-- lanes of some methods on which nothing was asked yet
pub record IsNewPool (pool : Pool) : Type 0 where
  pub worlds : length pool.worlds ≡ length pool.counts
  pub outs : length pool.outs ≡ length pool.counts
  pub some : 0 < length pool.counts
  pub idle : (lane : ℕ) (fetch : Fetch) → slice_get pool.outs (suc lane) ≢ Some (Some fetch)

-- A run over these lanes begins: its board is new, and over a disk that is at rest it begins with what was read.
pub record IsNewRun (run : Run) (pool : Pool) (lanes : ℕ) (now : List State) (b : Board) : Type 0 where
  pub start : RunStart
  pub from : start.mirrors ≡ pool.worlds
  pub at : start.counts ≡ pool.counts
  pub sound : IsSoundBegun start
  pub of_run : IsConfiguredBy run (begun_of start)
  pub running : IsRunningOver start [] (run_lanes pool (none_out lanes) b) now
  pub none : b.settled ≡ []
  pub read : (entry : List State) → ToldAs (IsAtRest (installed_now entry)) now → IsReadFromDisk entry now (begun_of start)

-- so does each run
abbrev pub StartsRun : Run → ℕ → List State → Board → Type 0
StartsRun run lanes now b = (pool : Pool) → IsNewPool pool → IsNewRun run pool lanes now b
