-- The ways in which an update ends keep its promise, and have its statuses.
use Rattle.std.proofs.Common.{◌≡◌, ◌⊎◌, ◌<◌, ◌+◌, ℕ, ℤ, Option, Some, None, Ok, IfSome, IsTrue, inl, inr, refl, arith, IfNone}
use Rattle.acq_outside.specs.Etc.{EtcFiles}
use Rattle.command_words.specs.declared.request.Options.{Options}
use Rattle.commit_journal.specs.Opening.{damage_of}
use Rattle.configuration.specs.declared.configuring.Configured.{Configured}
use Rattle.report_text.specs.declared.fault.FaultLine.{FaultLine}
use Rattle.report_text.specs.declared.fault.FaultLine.TheVariants.{Disk, Memory, Held, Etc}
use Rattle.run_promises.specs.Claims.{LogsShowRuns, RunsStopOnSameLists, RunsStopUndamaged, RunsTellServed, ShowsRun, StopsOnSameLists, TellsServedOverMirror}
use Rattle.run_promises.specs.Promise.{ListsMatchLog, EndsOverMirror, RunsEndAsServed, RunsEndAsTold, RunsStopAsServed, RunsStopWithSets, WasSynced}
use Rattle.update_engine.specs.Run.{KeepsMethods, Run}
use Rattle.update_model.specs.declared.log.RunLog.{RunLog}
use Rattle.update_program.specs.Asked.{AsksForRun, GivesConfiguration, run_for}
use Rattle.update_program.specs.Ending.{EndsUpdateOf, RunsAtClock, IsBeforeRun, IsNoRun, MakesRun, HasNoConfiguration, WritesWhyNoLog}
use Rattle.update_program.proofs.Served.{ends_well}
use Rattle.update_program.specs.Headline.{StatusIsZeroOverMirror, IsRefused, Promises}
use Rattle.update_program.specs.Objects.{Objects, Output}
use Rattle.update_program.specs.Said.{WritesLine, fault_status}

-- the line of a failure was written, so the status is none of a refusal
is_failure : (before after : Output) (fault : FaultLine) (status : ℕ) → 100 < fault_status fault → WritesLine before after fault status → status ≡ 100 → ⊥
is_failure before after fault status above (inl said) is = omega (arith, above, said.0, is)
is_failure before after fault status above (inr said) is = omega (arith, said.0, is)

above : (code : ℕ) → 100 < 101 + code
above code = omega arith

disk_failed : (before after : Output) (status : ℕ) → WritesLine before after Disk status → status ≡ 100 → ⊥
disk_failed before after status said = is_failure before after Disk status (above 1) said

memory_failed : (before after : Output) (status : ℕ) → WritesLine before after Memory status → status ≡ 100 → ⊥
memory_failed before after status said = is_failure before after Memory status (above 2) said

held_failed : (before after : Output) (status : ℕ) → WritesLine before after Held status → status ≡ 100 → ⊥
held_failed before after status said = is_failure before after Held status (above 3) said

etc_failed : (before after : Output) (status : ℕ) → WritesLine before after Etc status → status ≡ 100 → ⊥
etc_failed before after status said = is_failure before after Etc status (above 5) said

-- the line of the lists folder's failure isn't that of memory
not_memory : (before after : Output) (status : ℕ) → WritesLine before after Disk status → status ≡ 103 → ⊥
not_memory before after status (inl said) is = omega (arith, said.0, is)
not_memory before after status (inr said) is = omega (arith, said.0, is)

-- what is said of a status without a log
without_log : {X : Type 0} (log : Option RunLog) → X → IfNone log X
without_log None is = is
without_log (Some log) is = tt

module _
    (serves : RunsEndAsServed) (tells : RunsEndAsTold) (stops_as_served : RunsStopAsServed) (stops : RunsStopWithSets) (shows : LogsShowRuns) (served : RunsTellServed) (undamaged : RunsStopUndamaged) (same_lists : RunsStopOnSameLists) (told : Option EtcFiles) (options : Options) (moment : Option ℤ) (before after : Objects)
    (status : ℕ) (keeps : KeepsMethods before.engine after.engine) where
  by_why : (run : Run) → WritesWhyNoLog run before after status → status ≡ 100 → IsRefused told options before
  by_why run (inl said) is = absurd (disk_failed before.out after.out status said is)
  by_why run (inr (inl damaged)) is = inr (damaged.0, damaged.1)
  by_why run (inr (inr memory)) is = absurd (memory_failed before.out after.out status memory.1 is)

  by_bar : IsBeforeRun before after status → status ≡ 100 → ⊥
  by_bar (inl said) = disk_failed before.out after.out status said
  by_bar (inr (inl said)) = held_failed before.out after.out status said
  by_bar (inr (inr said)) = memory_failed before.out after.out status said

  by_unread : HasNoConfiguration told options.pairs before after status → status ≡ 100 → IsRefused told options before
  by_unread (inl refused) is = inl (refused.0, refused.1)
  by_unread (inr (inl said)) is = absurd (etc_failed before.out after.out status said is)
  by_unread (inr (inr said)) is = absurd (memory_failed before.out after.out status said is)

  -- a run that is asked for keeps the promise
  tells_run : (run : Run) (log : Option RunLog) → MakesRun run before after log status
      → IfSome log (λ known. WasSynced before.engine → ListsMatchLog run before.engine.trace after.engine.trace known)
  tells_run run None ran = tt
  tells_run run (Some log) ran = λ settled. tells run before.engine after.engine log ran.log settled

  ends_run : (run : Run) (log : Option RunLog) → MakesRun run before after log status → IfSome log (EndsOverMirror run before.engine after.engine)
  ends_run run None ran = tt
  ends_run run (Some log) ran = serves run before.engine after.engine log keeps ran.log

  shows_run : (run : Run) (log : Option RunLog) → MakesRun run before after log status → IfSome log (ShowsRun run before.engine)
  shows_run run None ran = tt
  shows_run run (Some log) ran = shows run before.engine after.engine log ran.log

  served_run : (run : Run) (log : Option RunLog) → MakesRun run before after log status → IfSome log (TellsServedOverMirror run before.engine)
  served_run run None ran = tt
  served_run run (Some log) ran = served run before.engine after.engine log ran.log

  complete_run : (run : Run) (log : Option RunLog) → MakesRun run before after log status → IfSome log (λ known. StatusIsZeroOverMirror run before.engine known status)
  complete_run run None ran = tt
  complete_run run (Some log) ran = ends_well run before.engine after.engine before.out after.out log status ran.log (served run before.engine after.engine log ran.log) ran.said

  dry_run : (run : Run) (log : Option RunLog) → MakesRun run before after log status
      → IfNone log (status ≡ 103 → IsTrue before.tells → damage_of before.files ≡ None → WasSynced before.engine → StopsOnSameLists run before.engine after.engine)
  dry_run run (Some log) ran = tt
  dry_run run None ran = λ is tells whole synced. by ran.why is tells whole synced
    where
      by : WritesWhyNoLog run before after status → status ≡ 103 → IsTrue before.tells → damage_of before.files ≡ None → WasSynced before.engine → StopsOnSameLists run before.engine after.engine
      by (inl said) is tells whole synced = absurd (not_memory before.out after.out status said is)
      by (inr (inl damaged)) is tells whole synced = let found = damaged.1 tells in absurd (cc)
      by (inr (inr memory)) is tells whole synced = same_lists run before.engine after.engine (memory.0.whole synced) synced

  refused_run : (run : Run) (log : Option RunLog) → MakesRun run before after log status → IfNone log (status ≡ 100 → IsRefused told options before)
  refused_run run None ran = by_why run ran.why
  refused_run run (Some log) ran = tt

  asked : (it : Configured) (time : ℤ) → GivesConfiguration told options.pairs (Ok it) → moment ≡ Some time → AsksForRun told options moment (run_for it time options.together)
  asked it time given at = record { it = it; given = given; time = time; at = at; is = refl }

  promised_by : (it : Configured) (log : Option RunLog) → GivesConfiguration told options.pairs (Ok it) → RunsAtClock it options.together moment before after log status
      → Promises told options moment before after log status
  promised_by it log given (inl ran) = record {
    way = inr (record {
      run = run_for it ran.0 options.together;
      asks = asked it ran.0 given ran.1;
      stops = stops (run_for it ran.0 options.together) before.engine after.engine ran.2.crash;
      stops_as_served = stops_as_served (run_for it ran.0 options.together) before.engine after.engine ran.2.crash;
      undamaged = undamaged (run_for it ran.0 options.together) before.engine after.engine ran.2.crash;
      tells = tells_run (run_for it ran.0 options.together) log ran.2;
      shows = shows_run (run_for it ran.0 options.together) log ran.2;
      ends = ends_run (run_for it ran.0 options.together) log ran.2;
      served = served_run (run_for it ran.0 options.together) log ran.2;
      complete = complete_run (run_for it ran.0 options.together) log ran.2;
      dry = dry_run (run_for it ran.0 options.together) log ran.2;
    });
    refused = refused_run (run_for it ran.0 options.together) log ran.2;
  }
  promised_by it log given (inr none) = record { way = inl none.0; refused = without_log log (λ is. absurd (by_bar none.1 is)) }

  pub promised : (log : Option RunLog) → EndsUpdateOf told options moment before after log status → Promises told options moment before after log status
  promised log ends = by_way ends.way
    where
      by_way : ((it : Configured) × GivesConfiguration told options.pairs (Ok it) × RunsAtClock it options.together moment before after log status) ⊎ (IsNoRun before after log × HasNoConfiguration told options.pairs before after status)
          → Promises told options moment before after log status
      by_way (inl ran) = promised_by ran.0 log ran.1 ran.2
      by_way (inr none) = record { way = inl none.0; refused = without_log log (by_unread none.1) }
