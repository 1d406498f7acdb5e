-- The promise of an update, in the words of those who keep lists.
use Rattle.std.specs.List.{AllByRecursion as Each}
use Rattle.std.specs.Prelude.{◌≡◌, ◌⊎◌, ℕ, ℤ, IfNone, IfSome, IsTrue, Option, Some, None, Err}
use Rattle.acq_outside.specs.Etc.{EtcFiles}
use Rattle.command_words.specs.declared.request.Options.{Options}
use Rattle.commit_journal.specs.Opening.{damage_of}
use Rattle.configuration.specs.declared.error.ConfigurationError.{ConfigurationError}
use Rattle.journal_model.specs.Reopen.{installed_now}
use Rattle.run_jobs.specs.Mirrors.{ForMirror}
use Rattle.run_promises.specs.Claims.{Serves, ShowsRun, StopsOnSameLists, StopsUndamaged, TellsServedOverMirror}
use Rattle.run_promises.specs.Promise.{ListsMatchLog, EndsOverMirror, NoneIsGivenUp, StopsOverMirror, StopKeepsSets, WasSynced}
use Rattle.update_engine.specs.Run.{Engine, Run}
use Rattle.update_model.specs.declared.log.RunLog.{RunLog}
use Rattle.update_program.specs.Asked.{AsksForRun, GivesConfiguration}
use Rattle.update_program.specs.Ending.{IsNoRun}
use Rattle.update_program.specs.Objects.{Objects, Span}
use Rattle.update_program.specs.declared.ran.Ran.{Ran}

-- the configuration is refused, or the journal is damaged
abbrev pub IsRefused : Option EtcFiles → Options → Objects → Type 0
IsRefused told options before =
    ((refusal : ConfigurationError) × GivesConfiguration told options.pairs (Err refusal)) ⊎ ((at : ℕ) × (IsTrue before.tells → damage_of before.files ≡ Some at))

-- Where the mirror serves all sources whole and no fetch was given up, the status is 0, unless memory for the report ran out
-- or the output failed.
abbrev pub StatusIsZeroOverMirror : Run → Engine → RunLog → ℕ → Type 0
StatusIsZeroOverMirror run before log status = ForMirror before.mirrors (λ mirror.
    WasSynced before → NoneIsGivenUp run.settings.retries log.asks → Each (Serves run mirror (installed_now before.trace)) run.plan.sources
    → (status ≡ 0) ⊎ ((status ≡ 103) ⊎ (status ≡ 105)))

-- A run that is asked for. A stop leaves each source its former set or a new one, whole, which over a mirror is the
-- mirror's, and no damaged journal but one that the call found. Where a log is answered, it shows its run, the lists are as it tells, and over a
-- mirror lists and log are what the mirror's answers define, and each source that the mirror serves whole has a set. Where
-- memory ran out before a log, over a journal that isn't damaged, the lists are the same whatever a crash leaves.
pub record KeepsPromise (told : Option EtcFiles) (options : Options) (moment : Option ℤ) (before after : Objects) (log : Option RunLog) (status : ℕ) : Type 0 where
  pub run : Run
  pub asks : AsksForRun told options moment run
  pub stops : WasSynced before.engine → StopKeepsSets run before.engine after.engine
  pub stops_as_served : WasSynced before.engine → StopsOverMirror run before.engine after.engine
  pub undamaged : WasSynced before.engine → StopsUndamaged before.engine after.engine
  pub tells : IfSome log (λ known. WasSynced before.engine → ListsMatchLog run before.engine.trace after.engine.trace known)
  pub shows : IfSome log (ShowsRun run before.engine)
  pub ends : IfSome log (EndsOverMirror run before.engine after.engine)
  pub served : IfSome log (TellsServedOverMirror run before.engine)
  pub complete : IfSome log (λ known. StatusIsZeroOverMirror run before.engine known status)
  pub dry : IfNone log (status ≡ 103 → IsTrue before.tells → damage_of before.files ≡ None → WasSynced before.engine → StopsOnSameLists run before.engine after.engine)

-- What an update promises: it makes no run, or one as above; and without a log the status 100 has its cause. The other
-- statuses without a log have theirs: the lists folder, the configuration folder, the output or memory failed, or another
-- process held the lists folder.
pub record Promises (told : Option EtcFiles) (options : Options) (moment : Option ℤ) (before after : Objects) (log : Option RunLog) (status : ℕ) : Type 0 where
  pub way : IsNoRun before after log ⊎ KeepsPromise told options moment before after log status
  pub refused : IfNone log (status ≡ 100 → IsRefused told options before)

abbrev pub Headline : Option EtcFiles → Option ℤ → Span → Ran → Options → Type 0
Headline told moment seen ran options = Promises told options moment seen.before seen.after ran.log ran.status.0
