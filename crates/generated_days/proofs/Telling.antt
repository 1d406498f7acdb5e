-- The log of a run over one mirror, whose method didn't fail.
use Rattle.std.proofs.Common.{◌≡◌, ◌∙◌, ℕ, List, [], ◌∷◌, length, Option, Some, sym, ap, subst}
use Rattle.std.specs.Prelude.{Contains, slice_get}
use Rattle.std.specs.List.{flat_map, count_by, sum_by, AllByRecursion as Each}
use Rattle.std.proofs.lemmas.List.{length-map}
use Rattle.acq_base.specs.Mirror.{MirrorMap}
use Rattle.acq_base.specs.Plan.{IsPlanned}
use Rattle.acq_base.specs.declared.installed.Old.{Old}
use Rattle.acq_base.specs.declared.plan.Source.{Source}
use Rattle.acq_outside.specs.Disk.{Files}
use Rattle.acq_outside.specs.States.{ToldAs}
use Rattle.board_bounds.specs.Names.{PlannedNamesArePutNames}
use Rattle.board_model.specs.Agreeing.{Agrees, NoneIsDead}
use Rattle.board_model.specs.Ends.{verdict_for}
use Rattle.board_model.specs.Keys.{keys_in}
use Rattle.board_model.specs.Laws.{SetsThereAreHeld}
use Rattle.board_model.specs.RunLaws.{FinishedBoardsTell, FinishedBoardsTellMirrors, IsSourceAt}
use Rattle.board_model.specs.Runs.{entry_of}
use Rattle.board_model.specs.Stands.{entries_of}
use Rattle.journal_model.specs.Reopen.{installed_now}
use Rattle.journal_model.specs.Rest.{IsAtRest}
use Rattle.list_commits.specs.Made.{after_all}
use Rattle.run_jobs.specs.Counting.{FaultsRise}
use Rattle.run_jobs.specs.Mirrors.{ForMirror}
use Rattle.run_model.specs.Asked.{LogsTellNotes, NotesAreOfItems, OthersHearNothing}
use Rattle.run_model.specs.Coming.{HeardMirrorFully}
use Rattle.run_model.specs.Groups.{commits_of}
use Rattle.run_model.specs.Laws.{RunsLeadToNext}
use Rattle.run_model.specs.Runs.{is_installed}
use Rattle.update_engine.specs.Run.{Engine, HasFinished, LogIsTrue, Run, target_names}
use Rattle.update_model.specs.Laws.{ReleasesEndAsObtained}
use Rattle.update_model.specs.Next.{IsNext}
use Rattle.update_model.specs.Outcomes.{new_set}
use Rattle.update_model.specs.declared.log.Asked.{Asked}
use Rattle.update_model.specs.declared.log.RunLog.{RunLog}
use Rattle.update_model.specs.declared.settled.Verdict2.{Verdict2}
use Rattle.board_model.proofs.Resting.{olds-there}
use Rattle.board_bounds.proofs.Walking.{at_all}
use Rattle.update_engine.proofs.Lists.{answers_told}
use Rattle.generated_days.specs.Asks.{asks_for}
use Rattle.generated_days.specs.Days.{is_gotten}
use Rattle.generated_days.specs.Told.{IsFaultless, TellsDay}
use Rattle.generated_days.proofs.Answers.{NoFault}
use Rattle.generated_days.proofs.Items.{from-first}
use Rattle.generated_days.proofs.Keys.{all-notes, heard_by}
use Rattle.generated_days.proofs.Parts.{parts-none}
use Rattle.generated_days.proofs.Quiet.{IsQuietHeard, none-dead, quiet-asks, quiet-notes}
use Rattle.generated_days.proofs.Rest.{rests-so}
use Rattle.generated_days.proofs.Sources.{source-asks, sources-asks}
use Rattle.generated_days.proofs.Verdicts.{Tells, count-verdicts, installed-is}

module _
    (tell : FinishedBoardsTell) (mirrors : FinishedBoardsTellMirrors) (items : NotesAreOfItems) (logs : LogsTellNotes) (others : OthersHearNothing)
    (obtained : ReleasesEndAsObtained) (there : SetsThereAreHeld) (next : RunsLeadToNext) (put : PlannedNamesArePutNames)
    (mirror : MirrorMap) (run : Run) (before after : Engine) (log : RunLog) (logged : LogIsTrue run before after log) (as_many : length log.verdicts ≡ length run.plan.sources) (quiet : IsFaultless mirror before after) where
  finished : HasFinished run logged.begun logged.heard before.trace after.trace log
  finished = logged.commits quiet.synced

  agree : Agrees mirror logged.begun.parts logged.begun.config.sources logged.heard
  agree = (subst (λ (told : List (Option MirrorMap)). ForMirror told (λ m. Agrees m logged.begun.parts logged.begun.config.sources logged.heard)) quiet.world (answers_told run before after log logged quiet.told)) tt

  log-is : log.asks ≡ entries_of logged.heard
  log-is = logged.tells.asks ∙ logs logged.begun.config logged.begun.olds logged.heard logged.tells.board logged.tells.reached

  faults : FaultsRise (0 ∷ []) (0 ∷ []) log.asks
  faults =
      subst (λ (c : List ℕ). FaultsRise (0 ∷ []) c log.asks) quiet.still_none
      (subst (λ (c : List ℕ). FaultsRise c after.faults log.asks) quiet.none logged.faults)

  no-fault : Each (λ note. NoFault note.told.closed) logged.heard
  no-fault = quiet-notes logged.heard (subst (λ (asks : List Asked). Each (λ e. IsQuietHeard e.heard) asks) log-is (quiet-asks log.asks faults))

  lives : NoneIsDead logged.begun.config.settings.retries logged.heard
  lives = none-dead logged.begun.config.settings.retries logged.heard no-fault

  at : (n : ℕ) (source : Source) → slice_get logged.begun.config.sources n ≡ Some source → (old : Old) × IsSourceAt logged.begun.config logged.begun.olds n source old
  at n source is =
      let old = olds-there logged.begun.config.sources logged.begun.olds n source logged.tells.reached.each is in
      (old.0, record { source_is = is; old_is = old.1 })

  -- ---- asks

  one-source : (n : ℕ) (source : Source) → slice_get logged.begun.config.sources n ≡ Some source
      → heard_by (keys_in n source) logged.heard ≡ asks_for mirror (installed_now before.trace) logged.begun.parts logged.begun.config.settings logged.begun.config.change logged.begun.config.now source
  one-source n source is =
      let old = at n source is in
      let tells = tell logged.begun.config logged.begun.olds logged.heard logged.tells.board n source old.0 logged.tells.reached logged.tells.finished old.1 in
      let over = finished.read.begins.over in
      source-asks obtained mirror (installed_now before.trace) logged.begun.parts logged.begun.config n source old.0 logged.heard tells.0 is (over.installed n source old.0 old.1) over.sizes agree no-fault
      (at_all IsPlanned logged.begun.config.sources n source finished.read.begins.planned is).distinct tells.2
      (λ k t named. others logged.begun.config logged.begun.olds logged.heard logged.tells.board n k source old.0 t logged.tells.reached logged.tells.finished old.1 named)

  asks-are : length log.asks ≡ sum_by (asks_for mirror (installed_now before.trace) logged.begun.parts logged.begun.config.settings logged.begun.config.change logged.begun.config.now) logged.begun.config.sources
  asks-are =
      ap (λ (asks : List Asked). length asks) log-is ∙ length-map logged.heard entry_of
      ∙ all-notes logged.begun.config.sources logged.heard (items logged.begun.config logged.begun.olds logged.heard logged.tells.board logged.tells.reached)
      ∙ sources-asks (asks_for mirror (installed_now before.trace) logged.begun.parts logged.begun.config.settings logged.begun.config.change logged.begun.config.now) logged.heard 0 logged.begun.config.sources logged.begun.config.sources (from-first logged.begun.config.sources) one-source

  -- ---- verdicts

  one-verdict : (n : ℕ) (source : Source) → slice_get logged.begun.config.sources n ≡ Some source
      → Tells (λ s. is_gotten (installed_now before.trace) s (new_set mirror (installed_now before.trace) logged.begun.parts s logged.begun.config.settings logged.begun.config.change logged.begun.config.now)) log.verdicts n source
  one-verdict n source is =
      let old = at n source is in
      let over = finished.read.begins.over in
      let outcome = new_set mirror (installed_now before.trace) logged.begun.parts source logged.begun.config.settings logged.begun.config.change logged.begun.config.now in
      let told = mirrors logged.begun.config logged.begun.olds logged.heard logged.tells.board mirror (installed_now before.trace) logged.begun.parts n source old.0 logged.tells.reached logged.tells.finished old.1 over agree lives in (
        verdict_for source old.0 outcome,
        subst (λ (vs : List Verdict2). slice_get vs n ≡ Some (verdict_for source old.0 outcome)) (sym logged.tells.verdicts) told,
        installed-is there source old.0 (installed_now before.trace) (over.installed n source old.0 old.1) outcome,
      )

  installed-are : count_by is_installed log.verdicts ≡ count_by (λ s. is_gotten (installed_now before.trace) s (new_set mirror (installed_now before.trace) logged.begun.parts s logged.begun.config.settings logged.begun.config.change logged.begun.config.now)) logged.begun.config.sources
  installed-are = count-verdicts _ logged.begun.config.sources log.verdicts (as_many ∙ ap (λ (sources : List Source). length sources) (sym logged.of_run.sources)) one-verdict

  -- ---- lists

  none-begun : (name : List ℕ) → Contains (flat_map target_names logged.begun.config.sources) name → logged.begun.parts name ≡ []
  none-begun =
      parts-none put before.trace finished.opened quiet.files logged.begun.config.sources logged.begun.parts finished.read.begins.planned quiet.shown quiet.clear finished.opens.others finished.read.parts

  lists-are : IsNext mirror (installed_now before.trace) logged.begun.parts run.plan logged.begun.config.settings logged.begun.config.change logged.begun.config.now (after_all (commits_of finished.commits) (installed_now before.trace))
  lists-are =
      let heard_out : HeardMirrorFully mirror logged.begun finished.ran.heard = subst (HeardMirrorFully mirror logged.begun) (sym finished.same) (record { agrees = agree; lives = lives }) in
      next run.together logged.begun (installed_now before.trace) log finished.commits finished.ran mirror run.plan finished.read.begins heard_out (sym logged.of_run.sources)

  pub tells-day : TellsDay mirror run (installed_now before.trace) (installed_now after.trace) log × ToldAs (IsAtRest (installed_now after.trace)) after.trace
  tells-day =
      let rests = rests-so (after_all (commits_of finished.commits) (installed_now before.trace)) after.trace quiet.sound finished.rests in (
        record {
          parts = logged.begun.parts;
          none = subst (λ (sources : List Source). (name : List ℕ) → Contains (flat_map target_names sources) name → logged.begun.parts name ≡ []) logged.of_run.sources none-begun;
          installed = rw (sym logged.of_run.sources, sym logged.of_run.settings, sym logged.of_run.change, sym logged.of_run.moment) installed-are;
          asks = rw (sym logged.of_run.sources, sym logged.of_run.settings, sym logged.of_run.change, sym logged.of_run.moment) asks-are;
          next = rw (sym logged.of_run.settings, sym logged.of_run.change, sym logged.of_run.moment) (subst (λ (f : Files). IsNext mirror (installed_now before.trace) logged.begun.parts run.plan logged.begun.config.settings logged.begun.config.change logged.begun.config.now f) (sym rests.0) lists-are);
        },
        rests.1,
      )
