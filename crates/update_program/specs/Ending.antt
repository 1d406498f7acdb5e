-- How a call ends.
use Rattle.std.specs.Prelude.{◌≡◌, ◌⊎◌, ℕ, ℤ, Bool, List, Option, Some, None, Ok, Err, IfSome, IfNone, IsSome, IsTrue}
use Rattle.acq_outside.specs.Etc.{EtcFiles}
use Rattle.acq_outside.specs.States.{ToldAs}
use Rattle.acq_outside.specs.declared.clock.Clock.{Ghosts as Clocks}
use Rattle.acq_outside.specs.declared.disk.Disk.{Ghosts as Disks}
use Rattle.command_words.specs.declared.request.Options.{Options}
use Rattle.commit_journal.specs.Opening.{damage_of}
use Rattle.configuration.specs.declared.configuring.Configured.{Configured}
use Rattle.configuration.specs.declared.error.ConfigurationError.{ConfigurationError}
use Rattle.journal_model.specs.Rest.{IsSynced}
use Rattle.report_text.specs.Refused.{line_of}
use Rattle.report_text.specs.declared.fault.FaultLine.TheVariants.{Words, Journal, Disk, Memory, Held, Etc}
use Rattle.run_jobs.specs.Counting.{BeginsAsTold}
use Rattle.update_engine.specs.Run.{Run, LogIsTrue, StopsForMemory, SurvivesCrash}
use Rattle.update_model.specs.declared.log.RunLog.{RunLog}
use Rattle.update_program.specs.Asked.{GivesConfiguration, run_for}
use Rattle.update_program.specs.Objects.{Objects, Span}
use Rattle.update_program.specs.Said.{WritesReportOrMemory, WritesLine, WritesFault}
use Rattle.update_program.specs.declared.ran.Ran.{Ran}

-- no run was made: there is no log, and the lists folder and the methods are as they were
pub record IsNoRun (before after : Objects) (log : Option RunLog) : Type 0 where
  pub no_log : log ≡ None
  pub still : after.engine.trace ≡ before.engine.trace
  pub files : after.files ≡ before.files
  pub mirrors : after.engine.mirrors ≡ before.engine.mirrors
  pub methods : after.engine.faults ≡ before.engine.faults
  pub begins : after.begins ≡ before.begins

-- neither the lists folder nor the clock was asked for anything that counts
pub record LeavesDiskAndClock {D C : Type 0} (d : Disks D) (c : Clocks C) (disk disk' : D) (clock clock' : C) : Type 0 where
  pub faults : d.faults disk' ≡ d.faults disk
  pub held : d.held disk' ≡ d.held disk
  pub moments : c.given clock' ≡ c.given clock

-- ---- words that are refused

-- `E words`, or want of memory
abbrev pub RefusesWords : Span → Ran → Type 0
RefusesWords seen ran = WritesLine seen.before.out seen.after.out Words ran.status.0 ⊎ WritesLine seen.before.out seen.after.out Memory ran.status.0

abbrev pub MakesNoRun : Span → Ran → Type 0
MakesNoRun seen ran = IsNoRun seen.before seen.after ran.log

-- ---- a run

-- over a folder that tells and was synced, each commit that was begun is acknowledged
pub record StopsNoCommit (run : Run) (before after : Objects) : Type 0 where
  pub whole : ToldAs IsSynced before.engine.trace → StopsForMemory run before.engine.mirrors before.engine.trace after.engine.trace

-- why it answers no log: the lists folder failed, the journal is damaged at this place and no file was touched, or memory
-- ran out, and no commit was stopped
abbrev pub WritesWhyNoLog : Run → Objects → Objects → ℕ → Type 0
WritesWhyNoLog run before after status =
    WritesLine before.out after.out Disk status
    ⊎ (((at : ℕ) × (IsTrue before.tells → damage_of before.files ≡ Some at) × (after.files ≡ before.files) × WritesFault before.out after.out (Journal at) status)
    ⊎ (StopsNoCommit run before after × WritesLine before.out after.out Memory status))

-- A run, whether it answers a log or not: what a stop leaves, what the log tells, how many fetches were begun, and what was
-- written. No run that answers a log goes on over a damaged journal.
pub record MakesRun (run : Run) (before after : Objects) (answer : Option RunLog) (status : ℕ) : Type 0 where
  pub crash : SurvivesCrash run before.engine after.engine
  pub log : IfSome answer (LogIsTrue run before.engine after.engine)
  pub begins : IfSome answer (λ log. BeginsAsTold before.begins after.begins log.asks)
  pub said : IfSome answer (λ log. WritesReportOrMemory before.out after.out run.plan log status)
  pub why : IfNone answer (WritesWhyNoLog run before after status)
  pub undamaged : IsTrue before.tells → IsSome answer → damage_of before.files ≡ None

-- the lists folder failed or was held by another process, or memory ran out
abbrev pub IsBeforeRun : Objects → Objects → ℕ → Type 0
IsBeforeRun before after status =
    WritesLine before.out after.out Disk status ⊎ (WritesLine before.out after.out Held status ⊎ WritesLine before.out after.out Memory status)

-- what is configured was run at this moment, or memory ran out before the run
abbrev pub RunsAt : Configured → Bool → ℤ → Objects → Objects → Option RunLog → ℕ → Type 0
RunsAt it together now before after log status =
    MakesRun (run_for it now together) before after log status ⊎ (IsNoRun before after log × WritesLine before.out after.out Memory status)

-- it was run at the moment that the clock gave, or there was no run
abbrev pub RunsAtClock : Configured → Bool → Option ℤ → Objects → Objects → Option RunLog → ℕ → Type 0
RunsAtClock it together moment before after log status =
    ((now : ℤ) × (moment ≡ Some now) × MakesRun (run_for it now together) before after log status)
    ⊎ (IsNoRun before after log × IsBeforeRun before after status)

-- so the run that is configured ended, as an answer
abbrev pub EndsRun : Configured → Bool → Option ℤ → Span → Ran → Type 0
EndsRun it together moment seen ran = RunsAtClock it together moment seen.before seen.after ran.log ran.status.0

-- ---- an update

-- there is no configuration: it is refused, its folder failed, or memory ran out
abbrev pub HasNoConfiguration : Option EtcFiles → List (List ℕ) → Objects → Objects → ℕ → Type 0
HasNoConfiguration told pairs before after status =
    ((refusal : ConfigurationError) × GivesConfiguration told pairs (Err refusal) × WritesFault before.out after.out (line_of refusal) status)
    ⊎ (WritesLine before.out after.out Etc status ⊎ WritesLine before.out after.out Memory status)

-- the words ask for an update: what is configured ends it, or there is no configuration and no run
pub record EndsUpdateOf (told : Option EtcFiles) (options : Options) (moment : Option ℤ) (before after : Objects) (log : Option RunLog) (status : ℕ) : Type 0 where
  pub way : ((it : Configured) × GivesConfiguration told options.pairs (Ok it) × RunsAtClock it options.together moment before after log status)
      ⊎ (IsNoRun before after log × HasNoConfiguration told options.pairs before after status)

abbrev pub EndsUpdate : Option EtcFiles → Option ℤ → Span → Ran → Options → Type 0
EndsUpdate told moment seen ran options = EndsUpdateOf told options moment seen.before seen.after ran.log ran.status.0
