-- What the laws of this crate say.
use Rattle.std.specs.Prelude.{◌≡◌, ◌↔◌, ℕ, Bool, if◌then◌else◌, Contains, IsSome, List, ◌++◌, map, slice_get, Some, None, Ok}
use Rattle.std.specs.List.{flat_map}
use Rattle.acq_base.specs.Mirror.{MirrorMap}
use Rattle.acq_base.specs.Plan.{names_of}
use Rattle.acq_base.specs.declared.plan.Plan.{Plan}
use Rattle.acq_base.specs.declared.plan.Source.{Source}
use Rattle.acq_outside.specs.Crash.{State}
use Rattle.acq_outside.specs.Disk.{Files}
use Rattle.acq_outside.specs.States.{Since, IsNow}
use Rattle.board_model.specs.Agreeing.{Agrees}
use Rattle.board_model.specs.RunLaws.{HasSet}
use Rattle.board_model.specs.Runs.{Note}
use Rattle.board_model.specs.Settling.{held_of}
use Rattle.commit_journal.specs.Changes.{Filled, folder_steps}
use Rattle.commit_journal.specs.Runs.{CommitProgress, after_first}
use Rattle.journal_model.specs.Rest.{IsAtRest}
use Rattle.list_commits.specs.Made.{after_all}
use Rattle.release_file.specs.Release.{release_of}
use Rattle.update_model.specs.Next.{Alike, IsNext, Keeps}
use Rattle.update_model.specs.Outcomes.{AdmittedRelease}
use Rattle.update_model.specs.Releases.{IsAdmissible, installed_release}
use Rattle.update_model.specs.declared.log.RunLog.{RunLog}
use Rattle.update_model.specs.declared.settled.Held.{Held}
use Rattle.update_model.specs.declared.settled.Verdict2.{Verdict2}
use Rattle.run_model.specs.Begun.{RunInput, ReadsPlanned}
use Rattle.run_model.specs.Coming.{HasOutcome, HeardMirrorFully, HasNewSet, HasMirrorsSet, HasSetAsLogged, LeavesMirrored, LogsAndLeavesOutcome, CrashLeavesWholeSets, SourcesAreWhole, mirrored}
use Rattle.run_model.specs.Groups.{Group, AreGroups, IsNewSet, commits_of}
use Rattle.run_model.specs.Runs.{MayBeStopped, HasRun, cleans_up}

-- ---- groups while the run goes on

-- they stay groups of the run, whatever else is heard
abbrev pub GroupsStay : Type 0
GroupsStay = (begun : RunInput) (heard later : List Note) (groups : List Group) → AreGroups begun heard groups → AreGroups begun (heard ++ later) groups

-- ---- a run that has ended

-- each source's outcome is told, and left under its names
abbrev pub RunsLeaveOutcomes : Type 0
RunsLeaveOutcomes =
    (together : Bool) (begun : RunInput) (lists : Files) (log : RunLog) (commits : List (List Group)) (run : HasRun together begun lists log commits) (n : ℕ) (source : Source)
    → ReadsPlanned begun lists → slice_get begun.config.sources n ≡ Some source
    → LogsAndLeavesOutcome begun run.heard n source log lists (after_all (commits_of commits) lists)

-- a source that is told to have a set has just that under its names
abbrev pub RunsHoldAsTold : Type 0
RunsHoldAsTold =
    (together : Bool) (begun : RunInput) (lists : Files) (log : RunLog) (commits : List (List Group)) (n : ℕ) (source : Source) (verdict : Verdict2) (held : Held)
    → ReadsPlanned begun lists → HasRun together begun lists log commits → slice_get begun.config.sources n ≡ Some source
    → slice_get log.verdicts n ≡ Some verdict → HasSet verdict held → HasSetAsLogged begun source held lists (after_all (commits_of commits) lists)

-- and each other has its former files
abbrev pub RunsKeepOthers : Type 0
RunsKeepOthers =
    (together : Bool) (begun : RunInput) (lists : Files) (log : RunLog) (commits : List (List Group)) (n : ℕ) (source : Source) (verdict : Verdict2)
    → ReadsPlanned begun lists → HasRun together begun lists log commits → slice_get begun.config.sources n ≡ Some source
    → slice_get log.verdicts n ≡ Some verdict → ((held : Held) → HasSet verdict held → ⊥) → Keeps source lists (after_all (commits_of commits) lists)

-- the names of no source go exactly where they are to, and else stay
abbrev pub RunsCleanUp : Type 0
RunsCleanUp =
    (together : Bool) (begun : RunInput) (lists : Files) (log : RunLog) (commits : List (List Group)) (name : List ℕ)
    → ReadsPlanned begun lists → HasRun together begun lists log commits → (Contains (flat_map names_of begun.config.sources) name → ⊥)
    → after_all (commits_of commits) lists name ≡ (if cleans_up begun.config.settings log.verdicts then None else lists name)

-- and the lists of no source that the run began with and that are gone are those that the log tells as removed
abbrev pub RunsTellRemoved : Type 0
RunsTellRemoved =
    (together : Bool) (begun : RunInput) (lists : Files) (log : RunLog) (commits : List (List Group)) (name : List ℕ)
    → ReadsPlanned begun lists → HasRun together begun lists log commits
    → Contains (map (λ removed. removed.0) log.removed) name
    ↔ (IsSome (lists name) × (after_all (commits_of commits) lists name ≡ None) × (Contains (flat_map names_of begun.config.sources) name → ⊥))

-- a run that has ended is one that has begun its commits, each source's at most once
abbrev pub RunsHaveBegun : Type 0
RunsHaveBegun =
    (together : Bool) (begun : RunInput) (lists : Files) (log : RunLog) (commits : List (List Group)) → HasRun together begun lists log commits → MayBeStopped together begun lists commits

-- ---- over a mirror

-- the set that is told of a source is the mirror's, whichever asks were given up
abbrev pub RunsHoldMirrored : Type 0
RunsHoldMirrored =
    (together : Bool) (begun : RunInput) (lists : Files) (log : RunLog) (commits : List (List Group)) (run : HasRun together begun lists log commits)
    (mirror : MirrorMap) (n : ℕ) (source : Source) (verdict : Verdict2) (held : Held)
    → ReadsPlanned begun lists → Agrees mirror begun.parts begun.config.sources run.heard → slice_get begun.config.sources n ≡ Some source
    → slice_get log.verdicts n ≡ Some verdict → HasSet verdict held → HasMirrorsSet mirror begun source held lists (after_all (commits_of commits) lists)

-- and where none was given up, what the mirror has for each source is told and left
abbrev pub RunsLeaveMirrored : Type 0
RunsLeaveMirrored =
    (together : Bool) (begun : RunInput) (lists : Files) (log : RunLog) (commits : List (List Group)) (run : HasRun together begun lists log commits)
    (mirror : MirrorMap) (n : ℕ) (source : Source)
    → ReadsPlanned begun lists → HeardMirrorFully mirror begun run.heard → slice_get begun.config.sources n ≡ Some source
    → LeavesMirrored mirror begun n source log lists (after_all (commits_of commits) lists)

-- so a source for which the mirror has a set is told to have it
abbrev pub RunsAreComplete : Type 0
RunsAreComplete =
    (together : Bool) (begun : RunInput) (lists : Files) (log : RunLog) (commits : List (List Group)) (run : HasRun together begun lists log commits)
    (mirror : MirrorMap) (n : ℕ) (source : Source) (set : AdmittedRelease)
    → ReadsPlanned begun lists → HeardMirrorFully mirror begun run.heard → slice_get begun.config.sources n ≡ Some source → mirrored mirror begun lists source ≡ Ok set
    → (verdict : Verdict2) × (slice_get log.verdicts n ≡ Some verdict) × HasSet verdict (held_of source set)

-- and the lists are those that are next
abbrev pub RunsLeadToNext : Type 0
RunsLeadToNext =
    (together : Bool) (begun : RunInput) (lists : Files) (log : RunLog) (commits : List (List Group)) (run : HasRun together begun lists log commits) (mirror : MirrorMap) (plan : Plan)
    → ReadsPlanned begun lists → HeardMirrorFully mirror begun run.heard → plan.sources ≡ begun.config.sources
    → IsNext mirror lists begun.parts plan begun.config.settings begun.config.change begun.config.now (after_all (commits_of commits) lists)

-- Two runs that heard one mirror out leave alike lists, in whatever order its answers came, and whether their commits were
-- made one by one or together.
abbrev pub RunsLeaveAlike : Type 0
RunsLeaveAlike =
    (together together' : Bool) (begun : RunInput) (lists : Files) (log log' : RunLog) (commits commits' : List (List Group))
    (run : HasRun together begun lists log commits) (run' : HasRun together' begun lists log' commits') (mirror : MirrorMap) (plan : Plan)
    → ReadsPlanned begun lists → HeardMirrorFully mirror begun run.heard → HeardMirrorFully mirror begun run'.heard → plan.sources ≡ begun.config.sources
    → Alike plan (after_all (commits_of commits) lists) (after_all (commits_of commits') lists)

-- and tell the same of each source
abbrev pub RunsTellTheSame : Type 0
RunsTellTheSame =
    (together together' : Bool) (begun : RunInput) (lists : Files) (log log' : RunLog) (commits commits' : List (List Group))
    (run : HasRun together begun lists log commits) (run' : HasRun together' begun lists log' commits') (mirror : MirrorMap)
    → ReadsPlanned begun lists → HeardMirrorFully mirror begun run.heard → HeardMirrorFully mirror begun run'.heard
    → log.verdicts ≡ log'.verdicts

-- ---- a run that may have been stopped

-- a group of a source's changes makes its new set of what was there when the run began
abbrev pub GroupsMakeSets : Type 0
GroupsMakeSets =
    (begun : RunInput) (lists before : Files) (heard : List Note) (n : ℕ) (changes : List Filled) (new_set : IsNewSet begun heard n changes)
    → ReadsPlanned begun lists → Keeps new_set.source lists before → HasNewSet begun heard n new_set.source (folder_steps changes before)

-- after any of its commits each source has what it had, or its new set
abbrev pub CommitsLeaveWhole : Type 0
CommitsLeaveWhole =
    (together : Bool) (begun : RunInput) (lists : Files) (commits : List (List Group)) (run : MayBeStopped together begun lists commits) (count : ℕ)
    → ReadsPlanned begun lists → SourcesAreWhole begun run.heard lists (after_first count (commits_of commits) lists)

-- so whatever a crash leaves, at any moment, is opened again as such lists
abbrev pub CrashesLeaveWhole : Type 0
CrashesLeaveWhole =
    (together : Bool) (begun : RunInput) (lists : Files) (commits : List (List Group)) (run : MayBeStopped together begun lists commits)
    (acknowledged started : ℕ) (opened now : List State)
    → ReadsPlanned begun lists → IsNow (IsAtRest lists) opened → CommitProgress (commits_of commits) acknowledged started opened now
    → Since opened now (CrashLeavesWholeSets begun run.heard lists) × IsNow (CrashLeavesWholeSets begun run.heard lists) now

-- a new set is of a Release that may be installed beside the former one
abbrev pub NewSetsAreAdmissible : Type 0
NewSetsAreAdmissible =
    (begun : RunInput) (lists : Files) (heard : List Note) (n : ℕ) (source : Source) (set : AdmittedRelease) → ReadsPlanned begun lists → HasOutcome begun heard n source (Ok set)
    → (release_of set.bytes ≡ Ok set.release)
    × IsAdmissible set.release (installed_release (lists source.release_name.0)) begun.config.settings.dates begun.config.change begun.config.now

-- and where each answer was a mirror's or a fault, it is what the mirror has, whichever asks were given up
abbrev pub NewSetsAreMirrors : Type 0
NewSetsAreMirrors =
    (begun : RunInput) (lists : Files) (heard : List Note) (n : ℕ) (source : Source) (set : AdmittedRelease) (mirror : MirrorMap)
    → ReadsPlanned begun lists → Agrees mirror begun.parts begun.config.sources heard → HasOutcome begun heard n source (Ok set)
    → mirrored mirror begun lists source ≡ Ok set
