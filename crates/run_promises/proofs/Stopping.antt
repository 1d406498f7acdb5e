-- A stop at any moment leaves whole sets.
use Rattle.std.proofs.Common.{◌≡◌, ◌⊎◌, ℕ, suc, List, [], ◌∷◌, Some, Ok, inl, inr, refl}
use Rattle.std.specs.Prelude.{slice_get}
use Rattle.std.specs.List.{AllByRecursion as Each}
use Rattle.acq_base.specs.Mirror.{MirrorMap}
use Rattle.acq_base.specs.declared.plan.Source.{Source}
use Rattle.acq_outside.specs.Crash.{State}
use Rattle.acq_outside.specs.Disk.{Files}
use Rattle.acq_outside.specs.States.{From, Since}
use Rattle.acq_outside.proofs.Going.{since_map}
use Rattle.board_model.specs.Agreeing.{Agrees}
use Rattle.board_model.specs.Runs.{Note}
use Rattle.commit_journal.specs.Opening.{Recovers}
use Rattle.journal_model.specs.Reopen.{ReopensAsAt, installed_now}
use Rattle.run_model.specs.Begun.{RunInput}
use Rattle.run_model.specs.Coming.{HasOutcome, HasNewSet, CrashLeavesWholeSets}
use Rattle.run_model.specs.Laws.{CrashesLeaveWhole, NewSetsAreAdmissible, NewSetsAreMirrors}
use Rattle.update_engine.specs.Run.{Engine, Run, StopsAmongCommits, StopsWithWholeCommits}
use Rattle.update_model.specs.Next.{Keeps}
use Rattle.update_model.specs.Outcomes.{AdmittedRelease}
use Rattle.run_promises.proofs.Serving.{for_mirror}
use Rattle.run_promises.specs.Promise.{HasNew, IsServed, StopLeavesWholeSets, MayBeInstalled, RunsStopAsServed, RunsStopWithSets, StopsOverMirror, StopsWith, StopKeepsSets}

pub each_of : {A : Type 0} (P : A → Type 0) (xs : List A) → ((n : ℕ) (x : A) → slice_get xs n ≡ Some x → P x) → Each P xs
each_of P [] holds = tt
each_of P (x ∷ xs) holds = (holds 0 x refl, each_of P xs (λ n y is. holds (suc n) y is))

-- a set that a source came to is a new one, where it is one
pub kept_or_new : (begun : RunInput) (heard : List Note) (lists : Files) (IsNew : Source → AdmittedRelease → Type 0) → ((n : ℕ) (source : Source) (set : AdmittedRelease) → HasOutcome begun heard n source (Ok set) → IsNew source set)
    → (after : Files) (n : ℕ) (source : Source) → Keeps source lists after ⊎ HasNewSet begun heard n source after → Keeps source lists after ⊎ HasNew IsNew source after
kept_or_new begun heard lists IsNew new after n source (inl keeps) = inl keeps
kept_or_new begun heard lists IsNew new after n source (inr has) = inr (record { set = has.set; is_new = new n source has.set has.came; holds = has.holds })

-- whole sets that sources came to are new sets, where each of them is one
leaves_sets : (run : Run) (begun : RunInput) (heard : List Note) (lists : Files) (IsNew : Source → AdmittedRelease → Type 0) → begun.config.sources ≡ run.plan.sources
    → ((n : ℕ) (source : Source) (set : AdmittedRelease) → HasOutcome begun heard n source (Ok set) → IsNew source set)
    → (s : State) → CrashLeavesWholeSets begun heard lists s → StopLeavesWholeSets run IsNew lists s
leaves_sets run begun heard lists IsNew same new s leaves image is =
    let whole = leaves image is in
    record {
      lists = whole.after;
      is = whole.is;
      sources = each_of (λ source. Keeps source lists whole.after ⊎ HasNew IsNew source whole.after) run.plan.sources
          (λ n source there. kept_or_new begun heard lists IsNew new whole.after n source (whole.sources n source (rw same there)));
    }

pub as_at : (entry now : List State) → Since entry now (From Recovers entry) → Since entry now (From ReopensAsAt entry)
as_at entry now since = since_map (From Recovers entry) (From ReopensAsAt entry) entry now (images entry) since
  where
    images : (old : List State) (s : State) → From Recovers old s → From ReopensAsAt old s
    images [] s recovers = tt
    images (was ∷ past) s recovers = recovers.images

-- the journal was never open
early : (run : Run) (IsNew : Source → AdmittedRelease → Type 0) (entry now : List State) → Since entry now (From Recovers entry) → StopsWith run IsNew entry now now
early run IsNew entry now since = record {
  until = as_at entry now since;
  since = record { states = []; joined = refl; untold = λ is. is; each = tt };
}

-- it was
later : CrashesLeaveWhole → (run : Run) (before after : Engine) (IsNew : Source → AdmittedRelease → Type 0) (stop : StopsAmongCommits run before.mirrors before.trace after.trace)
    → ((n : ℕ) (source : Source) (set : AdmittedRelease) → HasOutcome stop.begun stop.has.heard n source (Ok set) → IsNew source set)
    → StopsWith run IsNew before.trace stop.opened after.trace
later crashes run before after IsNew stop new =
    let lists = installed_now before.trace in
    let whole = crashes run.together stop.begun lists stop.commits stop.has stop.acknowledged stop.started stop.opened after.trace stop.read.begins stop.opens.rests stop.progress in
    record {
      until = as_at before.trace stop.opened stop.opens.recovers;
      since = since_map (CrashLeavesWholeSets stop.begun stop.has.heard lists) (StopLeavesWholeSets run IsNew lists) stop.opened after.trace
          (leaves_sets run stop.begun stop.has.heard lists IsNew stop.of_run.sources new) whole.0;
    }

-- the set that a source came to may be installed
pub may_be_installed : NewSetsAreAdmissible → (run : Run) (before after : Engine) (stop : StopsAmongCommits run before.mirrors before.trace after.trace) (n : ℕ) (source : Source) (set : AdmittedRelease)
    → HasOutcome stop.begun stop.has.heard n source (Ok set) → MayBeInstalled run (installed_now before.trace) source set
may_be_installed admissible run before after stop n source set came =
    let is = admissible stop.begun (installed_now before.trace) stop.has.heard n source set stop.read.begins came in
    record { reads = is.0; admissible = rw (stop.of_run.settings, stop.of_run.change, stop.of_run.moment) at is.1 }

pub stops_with_sets : CrashesLeaveWhole → NewSetsAreAdmissible → RunsStopWithSets
stops_with_sets crashes admissible run before after safe settled = by (safe.stops settled)
  where
    by : StopsWithWholeCommits run before.mirrors before.trace after.trace → StopKeepsSets run before after
    by (inl never) = (after.trace, early run (MayBeInstalled run (installed_now before.trace)) before.trace after.trace never)
    by (inr stop) = (stop.opened, later crashes run before after (MayBeInstalled run (installed_now before.trace)) stop (may_be_installed admissible run before after stop))

pub stops_as_served : CrashesLeaveWhole → NewSetsAreMirrors → RunsStopAsServed
stops_as_served crashes mirrors run before after safe settled = by (safe.stops settled)
  where
    is_served : (stop : StopsAmongCommits run before.mirrors before.trace after.trace) (mirror : MirrorMap) → Agrees mirror stop.begun.parts stop.begun.config.sources stop.has.heard
        → (n : ℕ) (source : Source) (set : AdmittedRelease) → HasOutcome stop.begun stop.has.heard n source (Ok set) → IsServed run mirror before.trace stop.opened source set
    is_served stop mirror agrees n source set came = record {
      begun = stop.begun;
      reads = record { opened = stop.opened; opens = stop.opens; of_run = stop.of_run; read = stop.read };
      same = refl;
      is = mirrors stop.begun (installed_now before.trace) stop.has.heard n source set mirror stop.read.begins agrees came;
    }

    by : StopsWithWholeCommits run before.mirrors before.trace after.trace → StopsOverMirror run before after
    by (inl never) = for_mirror {X = ⊥} before.mirrors (λ mirror. Unit {0}) _ (λ none. absurd none)
        (λ mirror any. (after.trace, early run (IsServed run mirror before.trace after.trace) before.trace after.trace never))
    by (inr stop) = for_mirror {X = Unit {0}} before.mirrors (λ mirror. Agrees mirror stop.begun.parts stop.begun.config.sources stop.has.heard) _ (λ one. stop.answers)
        (λ mirror agrees. (stop.opened, later crashes run before after (IsServed run mirror before.trace stop.opened) stop (is_served stop mirror (agrees tt))))
