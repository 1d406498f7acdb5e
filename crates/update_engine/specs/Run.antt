-- What is asked of a run, and what it promises.
use Rattle.std.specs.Prelude.{◌≡◌, ◌≢◌, ◌⊎◌, ◌≤◌, ℕ, suc, ℤ, ◌-◌, ◌^◌, Bool, true, false, Contains, IfOk, IsTrue, List, [], length, map, slice_get, take, Option, Some, None, Result, Err}
use Rattle.std.specs.List.{flat_map}
use Rattle.acq_base.specs.Mirror.{MirrorMap}
use Rattle.acq_base.specs.Plan.{names_of}
use Rattle.acq_base.specs.declared.plan.Plan.{Plan}
use Rattle.acq_base.specs.declared.plan.Source.{Source}
use Rattle.acq_base.specs.declared.settings.Settings.{Settings}
use Rattle.acq_outside.specs.Count.{NoneFell}
use Rattle.acq_outside.specs.Crash.{State, reads}
use Rattle.acq_outside.specs.States.{From, Since, IsNow, ToldAs}
use Rattle.acq_outside.specs.declared.disk.Disk.{Ghosts as Disks}
use Rattle.acq_outside.specs.declared.method.Method.{Ghosts as Methods}
use Rattle.board_model.specs.Agreeing.{Agrees}
use Rattle.board_model.specs.Boards.{Board, is_finished}
use Rattle.board_model.specs.Reached.{Reached}
use Rattle.board_model.specs.Runs.{Note}
use Rattle.commit_journal.specs.Opening.{IsOfOpening, KeepsFilesBut, Recovers, damage_of}
use Rattle.commit_journal.specs.Runs.{CommitProgress}
use Rattle.journal_model.specs.Names.{is_installed_name, is_partial, journal, partial}
use Rattle.journal_model.specs.Reopen.{installed_now}
use Rattle.journal_model.specs.Rest.{IsAtRest, IsSynced, file_now, part_bytes, size_below}
use Rattle.list_commits.specs.Loose.{IsLoose, NoneIsLoose}
use Rattle.list_commits.specs.Made.{CommitsMade, after_all}
use Rattle.lane_jobs.specs.Begins.{BeginsMore}
use Rattle.lane_pool.specs.Pool.{Pool}
use Rattle.lists_dir.specs.Installed.{installed_of}
use Rattle.release_file.specs.declared.changing.Change.{Change}
use Rattle.update_model.specs.declared.log.Asked.{Asked}
use Rattle.update_model.specs.declared.log.RunLog.{RunLog}
use Rattle.run_jobs.specs.Counting.{BeginsAsTold, FaultsRise}
use Rattle.run_jobs.specs.Mirrors.{ForMirror}
use Rattle.run_jobs.specs.OnTheWay.{StaysOnItsWay}
use Rattle.run_jobs.specs.Running.{AgreesWhereKnown}
use Rattle.run_jobs.specs.declared.error.RunError.{RunError}
use Rattle.run_jobs.specs.declared.error.RunError.TheVariants.{BadJournal, DiskFault, NoMemory}
use Rattle.run_model.specs.Begun.{RunInput, ReadsPlanned}
use Rattle.run_model.specs.Groups.{Group, commits_of}
use Rattle.run_model.specs.Runs.{MayBeStopped, HasRun, cleans_up, installed_by}

-- what is asked of a run
pub record Run : Type 0 where
  pub plan : Plan
  pub settings : Settings
  pub change : Change
  pub moment : ℤ
  pub together : Bool

abbrev pub run_of : Plan → Settings → Change → ℤ → Bool → Run
run_of plan settings change moment together = record { plan = plan; settings = settings; change = change; moment = moment; together = together }

-- the disk and the methods at one moment: the states that the disk has had, and what each method tells and counts
pub record Engine : Type 0 where
  pub trace : List State
  pub mirrors : List (Option MirrorMap)
  pub faults : List ℕ

abbrev pub engine : {D M : Type 0} → Disks D → Methods M → D → List M → Engine
engine d m disk methods = record { trace = d.trace disk; mirrors = map m.world methods; faults = map m.faults methods }

-- the same, of lanes
abbrev pub engine_over : {D : Type 0} → Disks D → D → Pool → Engine
engine_over d disk pool = record { trace = d.trace disk; mirrors = pool.worlds; faults = pool.counts }

-- ---- the methods

-- the same methods, and none of their counts fell
pub record KeepsMethods (before after : Engine) : Type 0 where
  pub mirrors : after.mirrors ≡ before.mirrors
  pub counts : NoneFell before.faults after.faults

-- ---- with what it begins

-- a list on its way from which a fetch may go on: fewer bytes than 2^64 - 1
abbrev pub resumable_part : List ℕ → List ℕ
resumable_part bytes = take (size_below (2 ^ 64 - 1) (length bytes)) bytes

-- the names of the lists that a source's targets are installed under
abbrev pub target_names : Source → List (List ℕ)
target_names source = map (λ target. target.name.0) source.targets

-- The board's configuration is that of the run, and the sizes are those of the lists on their way.
pub record IsConfiguredBy (run : Run) (begun : RunInput) : Type 0 where
  pub sources : begun.config.sources ≡ run.plan.sources
  pub settings : begun.config.settings ≡ run.settings
  pub change : begun.config.change ≡ run.change
  pub moment : begun.config.now ≡ run.moment
  pub sizes : (name : List ℕ) → begun.config.sizes name ≡ length (begun.parts name)

-- From entry on the journal is opened, in which a crash leaves what it left at entry, and no other file changes; then the
-- disk is at rest with the lists that it stood for at entry.
pub record HasOpenedJournal (entry opened : List State) : Type 0 where
  pub recovers : Since entry opened (From Recovers entry)
  pub others : IsNow (λ s. KeepsFilesBut (IsOfOpening (reads s journal)) entry opened) entry
  pub rests : IsNow (IsAtRest (installed_now entry)) opened

-- The run begins over the lists that the disk stood for at entry, and the targets' lists on their way are those that reads
-- gave once the journal was open.
pub record IsReadFromDisk (entry opened : List State) (begun : RunInput) : Type 0 where
  pub olds : begun.olds ≡ map (installed_of (installed_now entry)) begun.config.sources
  pub begins : ReadsPlanned begun (installed_now entry)
  pub parts : (name : List ℕ) → Contains (flat_map target_names begun.config.sources) name → begun.parts name ≡ resumable_part (part_bytes opened name)

-- ---- whatever it answers

-- A stop finds a run's commits as far as they have got, once the journal was open. What it had heard is the mirror's, or faults.
pub record StopsAmongCommits (run : Run) (mirrors : List (Option MirrorMap)) (entry now : List State) : Type 0 where
  pub opened : List State
  pub opens : HasOpenedJournal entry opened
  pub begun : RunInput
  pub of_run : IsConfiguredBy run begun
  pub read : IsReadFromDisk entry opened begun
  pub commits : List (List Group)
  pub acknowledged : ℕ
  pub started : ℕ
  pub progress : CommitProgress (commits_of commits) acknowledged started opened now
  pub has : MayBeStopped run.together begun (installed_now entry) commits
  pub answers : ForMirror mirrors (λ mirror. Agrees mirror begun.parts begun.config.sources has.heard)

-- before that a crash leaves what it left at entry
abbrev pub StopsWithWholeCommits : Run → List (Option MirrorMap) → List State → List State → Type 0
StopsWithWholeCommits run mirrors entry now = Since entry now (From Recovers entry) ⊎ StopsAmongCommits run mirrors entry now

-- between two of its commits: each that was begun is acknowledged
pub record StopsBetweenCommits (run : Run) (mirrors : List (Option MirrorMap)) (entry now : List State) : Type 0 where
  pub among : StopsAmongCommits run mirrors entry now
  pub whole : among.acknowledged ≡ among.started

-- so it does where memory runs out, once the journal was open
abbrev pub StopsForMemory : Run → List (Option MirrorMap) → List State → List State → Type 0
StopsForMemory run mirrors entry now = Since entry now (From Recovers entry) ⊎ StopsBetweenCommits run mirrors entry now

-- Over a disk that tells and was synced, a stop leaves whole commits, and the disk is synced again.
pub record SurvivesCrash (run : Run) (before after : Engine) : Type 0 where
  pub stops : ToldAs IsSynced before.trace → StopsWithWholeCommits run before.mirrors before.trace after.trace
  pub synced : ToldAs IsSynced before.trace → IsNow IsSynced after.trace

-- no damage is told where there is none, and this one, or a fault or want of memory, where there is
abbrev pub RunFindsDamage : Option ℕ → Result RunLog RunError → Type 0
RunFindsDamage None result = (at : ℕ) → result ≢ Err (BadJournal at)
RunFindsDamage (Some at) result = (result ≡ Err (BadJournal at)) ⊎ ((result ≡ Err DiskFault) ⊎ (result ≡ Err NoMemory))

-- ---- where it answers a log

-- The log is that of a board to which the run's calls led, and which is finished, but for what the clean-up removed.
pub record IsLogOfBoard (begun : RunInput) (heard : List Note) (log : RunLog) : Type 0 where
  pub board : Board
  pub reached : Reached begun.config begun.olds heard board
  pub finished : is_finished board ≡ true
  pub verdicts : log.verdicts ≡ board.verdicts
  pub order : log.settled ≡ board.settled
  pub asks : log.asks ≡ board.asks
  pub kept : cleans_up begun.config.settings log.verdicts ≡ false → log.removed ≡ []

-- a list of one of these sources
pub record IsListOf (sources : List Source) (numbers : List ℕ) (name : List ℕ) : Type 0 where
  pub n : ℕ
  pub source : Source
  pub at : slice_get sources n ≡ Some source
  pub own : Contains (names_of source) name
  pub among : Contains numbers n

-- a list that a run may have moved from its way, or removed there: of a source that is installed, or of none where these go
abbrev pub IsTaken : List Source → List ℕ → Bool → List ℕ → Type 0
IsTaken sources installed cleans name = IsListOf sources installed name ⊎ ((cleans ≡ true) × IsLoose sources (partial name))

-- What lies beside the lists and the journal stays: the hold's file, and each list on its way, but for those that were taken,
-- as it was or as an answer left it.
pub record KeepsAside (sources : List Source) (Taken : List ℕ → Type 0) (heard : List Note) (old now : List State) : Type 0 where
  pub others : (name : List ℕ) → is_installed_name name ≡ false → is_partial name ≡ false → name ≢ journal → file_now now name ≡ file_now old name
  pub parts : (name : List ℕ) → (Taken name → ⊥) → StaysOnItsWay sources heard old now name

-- All commits of the run are made since the journal was open, and the disk is at rest with the lists after them. What lies
-- beside the lists stays, and where names of no source go none of them is left.
pub record HasFinished (run : Run) (begun : RunInput) (heard : List Note) (entry now : List State) (log : RunLog) : Type 0 where
  pub opened : List State
  pub opens : HasOpenedJournal entry opened
  pub read : IsReadFromDisk entry opened begun
  pub commits : List (List Group)
  pub ran : HasRun run.together begun (installed_now entry) log commits
  pub same : ran.heard ≡ heard
  pub made : CommitsMade (commits_of commits) opened now
  pub rests : ToldAs (IsAtRest (after_all (commits_of commits) (installed_now entry))) now
  pub aside : KeepsAside begun.config.sources (IsTaken begun.config.sources (installed_by log) (cleans_up begun.config.settings log.verdicts)) heard opened now
  pub gone : cleans_up begun.config.settings log.verdicts ≡ true → IsNow (λ s. NoneIsLoose begun.config.sources (reads s)) now

-- The log tells what the run heard, and each answer that is known is the mirror's or a fault. Over a disk that tells and was
-- synced, the run's commits are all made.
pub record LogIsTrue (run : Run) (before after : Engine) (log : RunLog) : Type 0 where
  pub begun : RunInput
  pub of_run : IsConfiguredBy run begun
  pub heard : List Note
  pub tells : IsLogOfBoard begun heard log
  pub answers : ForMirror before.mirrors (λ mirror. AgreesWhereKnown after.trace mirror begun.parts begun.config.sources heard)
  pub faults : FaultsRise before.faults after.faults log.asks
  pub commits : ToldAs IsSynced before.trace → HasFinished run begun heard before.trace after.trace log

-- Since these counts just as many fetches were begun over the coordinator's lane as the log tells, and each worker was handed as
-- many jobs or one more.
pub record TellsBegins (first begins : List ℕ) (asks : List Asked) : Type 0 where
  pub own : BeginsMore first begins asks 0 0
  pub workers : (lane : ℕ) → (more : ℕ) × (more ≤ 1) × BeginsMore first begins asks (suc lane) more

-- What a run answers, and what it does to the outside: a journal that is damaged changes no file, damage is told just
-- where it is there, a log has a verdict for each source and is true, a crash at any moment leaves whole commits, and want of
-- memory stops no commit that was begun.
pub record RunsBetween {D : Type 0} (d : Disks D) (run : Run) (old new : D) (before after : Engine)
    (result : Result RunLog RunError) : Type 0 where
  pub unchanged : (at : ℕ) → result ≡ Err (BadJournal at) → d.files new ≡ d.files old
  pub damage : IsTrue (d.tells old) → RunFindsDamage (damage_of (d.files old)) result
  pub verdicts : IfOk result (λ log. length log.verdicts ≡ length run.plan.sources)
  pub log : IfOk result (LogIsTrue run before after)
  pub crash : SurvivesCrash run before after
  pub dry : result ≡ Err NoMemory → ToldAs IsSynced (d.trace old) → StopsForMemory run before.mirrors (d.trace old) (d.trace new)

-- So it does over these methods. A log tells each fetch that the first one began, and of each other one all but one at most.
pub record Runs {D M : Type 0} (d : Disks D) (m : Methods M) (run : Run) (old new : D) (asked answered : List M)
    (result : Result RunLog RunError) : Type 0 where
  pub between : RunsBetween d run old new (engine d m old asked) (engine d m new answered) result
  pub open between use *
  pub begins : IfOk result (λ log. BeginsAsTold (map m.begins asked) (map m.begins answered) log.asks)
