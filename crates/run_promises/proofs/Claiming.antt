-- What a log shows, and that a source that is served whole has a set.
use Rattle.std.proofs.Common.{◌≡◌, ◌∙◌, ap, length, ℕ, suc, Any, List, [], ◌∷◌, map, Ok, Err, refl, sym, subst, arith}
use Rattle.std.specs.Prelude.{ℤ, Option, slice_get, Some, Result}
use Rattle.std.specs.List.{AllByRecursion as Each}
use Rattle.acq_base.specs.Mirror.{MirrorMap}
use Rattle.acq_base.specs.declared.installed.Old.{Old}
use Rattle.acq_base.specs.declared.plan.Source.{Source}
use Rattle.acq_base.specs.declared.settings.Settings.{Settings}
use Rattle.release_file.specs.declared.changing.Change.{Change}
use Rattle.acq_outside.specs.Disk.{Files}
use Rattle.acq_outside.specs.States.{IsTold}
use Rattle.board_bounds.specs.Sources.{SourceAsksAreFew}
use Rattle.board_model.specs.Agreeing.{Agrees}
use Rattle.board_model.specs.CauseLaws.{LastAnswersShowOutcomes}
use Rattle.board_model.specs.Laws.{BoardsStand}
use Rattle.board_model.specs.RunLaws.{FinishedBoardsTell, IsSourceAt}
use Rattle.board_model.specs.Settling.{held_of}
use Rattle.board_model.specs.Stands.{history_of}
use Rattle.journal_model.specs.Reopen.{installed_now}
use Rattle.journal_model.specs.Rest.{IsAtRest}
use Rattle.list_commits.specs.Made.{after_all}
use Rattle.run_model.specs.Asked.{NotesAreOfItems, OthersHearNothing}
use Rattle.run_model.specs.Coming.{HeardMirrorFully}
use Rattle.run_model.specs.Groups.{commits_of}
use Rattle.run_model.specs.Laws.{RunsAreComplete}
use Rattle.update_engine.proofs.Lists.{answers_told}
use Rattle.run_promises.proofs.Serving.{for_mirror, heard_out, logs_what_was_heard, reads_lists, told_of}
use Rattle.run_promises.specs.Claims.{LogsShowRuns, RunsTellServed, ServedSourcesHaveSets, Serves, ShowsSource, TellsSet}
use Rattle.run_promises.specs.Promise.{NoneIsGivenUp}
use Rattle.update_engine.specs.Run.{Engine, HasFinished, LogIsTrue, Run}
use Rattle.update_model.specs.Laws.{FilesAreObtained, IsFileOf, IsHad, SetsAreAdmissible}
use Rattle.update_model.specs.Obtained.{patched, reached_files, resumed}
use Rattle.update_model.specs.Outcomes.{AdmittedRelease, PartFiles, Staying, admitted, bytes_of, obtained, outcome, wanted_by}
use Rattle.update_model.specs.Releases.{obtain_release}
use Rattle.update_model.specs.declared.end.End.{End}
use Rattle.update_model.specs.declared.log.RunLog.{RunLog}
use Rattle.update_model.specs.declared.wanted.Wanted.{Wanted}

-- ---- what a log shows

module _
    (stand : BoardsStand) (tell : FinishedBoardsTell) (show : LastAnswersShowOutcomes) (items : NotesAreOfItems) (others : OthersHearNothing) (few : SourceAsksAreFew)
    (run : Run) (before after : Engine) (log : RunLog) (logged : LogIsTrue run before after log) where
  shows_source : (n : ℕ) (source : Source) (old : Old) → IsSourceAt logged.begun.config logged.begun.olds n source old → ShowsSource logged.begun logged.heard log n source old
  shows_source n source old at =
      let told = tell logged.begun.config logged.begun.olds logged.heard logged.tells.board n source old logged.tells.reached logged.tells.finished at in
      let shown = show logged.begun.config n source old (history_of n logged.heard) told.0 told.2 in
      record {
        verdict = told.0;
        told = rw logged.tells.verdicts told.1;
        comes = told.2;
        release_shown = shown.0;
        lists_shown = shown.1;
        others = λ k target is. others logged.begun.config logged.begun.olds logged.heard logged.tells.board n k source old target logged.tells.reached logged.tells.finished at is;
        few = rw logged.tells.asks (few logged.begun.config logged.begun.olds logged.heard logged.tells.board n source old logged.tells.reached at.source_is at.old_is);
      }

pub logs_show_runs : BoardsStand → FinishedBoardsTell → LastAnswersShowOutcomes → NotesAreOfItems → OthersHearNothing → SourceAsksAreFew → LogsShowRuns
logs_show_runs stand tell show items others few run before after log logged = record {
  begun = logged.begun;
  of_run = logged.of_run;
  each = logged.tells.reached.each ∙ ap length logged.of_run.sources;
  reads = λ synced. reads_lists run logged.begun logged.heard before.trace after.trace log logged.of_run (logged.commits synced);
  heard = logged.heard;
  entries = logs_what_was_heard stand run before after log logged;
  items = rw (sym logged.of_run.sources) (items logged.begun.config logged.begun.olds logged.heard logged.tells.board logged.tells.reached);
  sources = shows_source stand tell show items others few run before after log logged;
}

-- ---- a source that is served whole

-- what comes to a set beside no list may be installed
alone : (r : End) (old : Option (List ℕ)) (settings : Settings) (change : Change) (now : ℤ) (set : AdmittedRelease) → outcome r [] old settings change now ≡ Ok set → admitted r old settings change now ≡ Ok set
alone r old settings change now set is = by (admitted r old settings change now) refl is
  where
    by : (came : Result AdmittedRelease Staying) → admitted r old settings change now ≡ came → outcome r [] old settings change now ≡ Ok set → came ≡ Ok set
    by (Ok found) here is = rw here at is
    by (Err why) here is = let never = rw here at is in absurd cc

any_later : {X : Type 0} (P : X → Type 0) (x : X) (xs : List X) → Any P xs → Any P (x ∷ xs)
any_later P x xs a = (suc a.0, a.1, omega (arith, a.2), a.3, a.4)

all_are_had : FilesAreObtained → (mirror : MirrorMap) (former : Files) (parts : PartFiles) (wanted : List Wanted) → Each (λ w. Any (IsFileOf w.sum) (reached_files mirror w)) wanted
    → Each IsHad (map (obtained mirror former parts) wanted)
all_are_had law mirror former parts [] lists = tt
all_are_had law mirror former parts (w ∷ wanted) lists =
    let installed = former w.name.0 in
    let part = parts w.name.0 in
    let files = reached_files mirror w in (
      (law mirror installed part w).1
          (any_later (IsFileOf w.sum) installed (patched mirror installed w ∷ (resumed mirror part w ∷ files)) (any_later (IsFileOf w.sum) (patched mirror installed w) (resumed mirror part w ∷ files) (any_later (IsFileOf w.sum) (resumed mirror part w) files lists.0))),
      all_are_had law mirror former parts wanted lists.1,
    )

pub served_sources_have_sets : SetsAreAdmissible → FilesAreObtained → ServedSourcesHaveSets
served_sources_have_sets admissible files run mirror former parts source serves =
    let end = obtain_release mirror source in
    let old = former source.release_name.0 in
    let bytes : bytes_of end ≡ Ok serves.set.bytes = rw serves.reached refl in
    let first = (admissible end [] old run.settings run.change run.moment serves.set).1 (bytes, serves.may.reads, serves.may.admissible, tt) in
    let came = alone end old run.settings run.change run.moment serves.set first in
    let had = subst (λ (found : Result AdmittedRelease Staying). Each IsHad (map (obtained mirror former parts) (wanted_by source run.settings found))) (sym came)
    (all_are_had files mirror former parts (wanted_by source run.settings (Ok serves.set)) serves.lists) in
    (admissible end (map (obtained mirror former parts) (wanted_by source run.settings (admitted end old run.settings run.change run.moment))) old run.settings run.change run.moment serves.set).1
    (bytes, serves.may.reads, serves.may.admissible, had)

-- so its set is told
pub runs_tell_served : BoardsStand → RunsAreComplete → ServedSourcesHaveSets → RunsTellServed
runs_tell_served stand complete have run before after log logged =
    for_mirror before.mirrors _ _ (answers_told run before after log logged) (λ mirror agrees synced few n source is serves. by mirror agrees (logged.commits synced) few n source is serves)
  where
    by : (mirror : MirrorMap) → (IsTold after.trace → Agrees mirror logged.begun.parts logged.begun.config.sources logged.heard) → (finished : HasFinished run logged.begun logged.heard before.trace after.trace log)
        → NoneIsGivenUp run.settings.retries log.asks → (n : ℕ) (source : Source) → slice_get run.plan.sources n ≡ Some source → (serves : Serves run mirror (installed_now before.trace) source) → TellsSet log n (held_of source serves.set)
    by mirror agrees finished few n source is serves =
        let lists = installed_now before.trace in
        let agree = agrees (told_of (IsAtRest (after_all (commits_of finished.commits) lists)) after.trace finished.rests) in
        let heard_all : HeardMirrorFully mirror logged.begun finished.ran.heard = rw finished.same (record { agrees = agree; lives = heard_out stand run before after log logged few }) in
        let set = have run mirror lists logged.begun.parts source serves in
        let told = complete run.together logged.begun lists log finished.commits finished.ran mirror n source serves.set finished.read.begins heard_all (rw logged.of_run.sources is)
        (rw (logged.of_run.settings, logged.of_run.change, logged.of_run.moment) set) in
        record { verdict = told.0; told = told.1; has = told.2 }
