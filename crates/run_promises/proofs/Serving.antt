-- A run that gave no ask up leaves what its mirror's answers define, and one in which no method failed gave none up.
use Rattle.std.proofs.Common.{◌≡◌, ◌⊎◌, ◌≤◌, ◌<◌, ◌==◌, ℕ, suc, Bool, zero, if◌then◌else◌, true, false, List, [], ◌∷◌, length, Option, Some, None, refl, sym, subst, arith, inl, inr}
use Rattle.std.specs.Prelude.{◌&&◌, slice_get}
use Rattle.std.specs.List.{AllByRecursion as Each}
use Rattle.acq_base.specs.Mirror.{MirrorMap}
use Rattle.acq_base.specs.Uri.{same_uri}
use Rattle.acq_base.specs.declared.plan.Source.{Source}
use Rattle.acq_base.specs.declared.settings.Settings.{Settings}
use Rattle.acq_base.specs.declared.uri.Uri.{Uri}
use Rattle.acq_outside.specs.Count.{NoneFell, Rose}
use Rattle.acq_outside.specs.Crash.{State, reads}
use Rattle.acq_outside.specs.States.{IsNow, IsTold, ToldAs}
use Rattle.board_model.specs.Agreeing.{Agrees, NoneIsDead}
use Rattle.board_model.specs.Jobs.{one_if}
use Rattle.board_model.specs.Laws.{BoardsStand}
use Rattle.board_model.specs.Runs.{Note}
use Rattle.board_model.specs.Stands.{entries_of}
use Rattle.journal_model.specs.Reopen.{installed_now}
use Rattle.journal_model.specs.Rest.{IsAtRest}
use Rattle.list_commits.specs.Loose.{NoneIsLoose}
use Rattle.list_commits.specs.Made.{after_all}
use Rattle.run_model.specs.Runs.{cleans_up, installed_by}
use Rattle.update_engine.proofs.Lists.{answers_told}
use Rattle.run_jobs.specs.Mirrors.{ForMirror}
use Rattle.run_jobs.specs.Counting.{CountsOn, CountsUp, asks_of_lane}
use Rattle.run_model.specs.Begun.{RunInput}
use Rattle.run_model.specs.Groups.{commits_of}
use Rattle.run_model.specs.Laws.{RunsHoldAsTold, RunsKeepOthers, RunsLeadToNext, RunsLeaveMirrored}
use Rattle.run_model.specs.Coming.{HeardMirrorFully, LeavesMirrored}
use Rattle.update_engine.specs.Run.{Engine, HasFinished, IsConfiguredBy, IsTaken, KeepsAside, KeepsMethods, LogIsTrue, Run}
use Rattle.update_model.specs.Next.{IsNext}
use Rattle.update_model.specs.declared.log.Asked.{Asked}
use Rattle.update_model.specs.declared.log.Heard.{Heard}
use Rattle.update_model.specs.declared.log.Heard.TheVariants.{Served, Not}
use Rattle.acq_base.specs.declared.fetch.NotServed.TheVariants.{Moved, Absent, TooBig, Garbled, Fault}
use Rattle.update_model.specs.declared.log.RunLog.{RunLog}
use Rattle.run_jobs.proofs.OneJob.{same_number}
use Rattle.run_jobs.proofs.Telling.{counts_rise}
use Rattle.run_promises.proofs.GivenUp.{none_is_dead}
use Rattle.run_promises.specs.Promise.{FolderMatchesLog, ListsMatchMirror, NoneIsGivenUp, ReadsLists, RunsEndAsServed, RunsEndAsTold, SomeRose, faults_told_of, is_fault}

-- ---- faults that are told, and counts

-- no fault is told
abbrev IsQuiet : Heard → Type 0
IsQuiet (Served sum) = Unit {0}
IsQuiet (Not (Moved place)) = Unit {0}
IsQuiet (Not (Absent status)) = Unit {0}
IsQuiet (Not TooBig) = Unit {0}
IsQuiet (Not (Garbled at)) = Unit {0}
IsQuiet (Not (Fault before after)) = ⊥

abbrev AreQuiet : List Asked → Type 0
AreQuiet [] = Unit {0}
AreQuiet (e ∷ entries) = IsQuiet e.heard × AreQuiet entries

rose : (first before after last : ℕ) → first ≤ before → Rose before after → after ≤ last → Rose first last
rose first before after last low (inl less) high = inl (omega (arith, low, less, high))
rose first before after last low (inr top) high = inr (omega (arith, top, high))

-- a method told no fault, or its count rose
quiet_or_rose : (first last : ℕ) (entries : List Asked) → CountsUp first last entries → AreQuiet entries ⊎ Rose first last
quiet_or_rose first last [] counts = inl tt
quiet_or_rose first last (e ∷ entries) counts = by e.heard (λ count on. quiet_or_rose count last entries on) counts
  where
    with_one : AreQuiet entries ⊎ Rose first last → (Unit {0} × AreQuiet entries) ⊎ Rose first last
    with_one (inl quiet) = inl (tt, quiet)
    with_one (inr risen) = inr risen

    by : (heard : Heard) → ((count : ℕ) → CountsUp count last entries → AreQuiet entries ⊎ Rose count last) → CountsOn heard first (λ count. CountsUp count last entries)
        → (IsQuiet heard × AreQuiet entries) ⊎ Rose first last
    by (Served sum) more c = with_one (more first c)
    by (Not (Moved place)) more c = with_one (more first c)
    by (Not (Absent status)) more c = with_one (more first c)
    by (Not TooBig) more c = with_one (more first c)
    by (Not (Garbled at)) more c = with_one (more first c)
    by (Not (Fault before after)) more c = inr (rose first before after last c.0 c.1 (counts_rise after last entries c.3))

-- each method told no fault, or some count rose
all_quiet : (before after : List ℕ) (told : ℕ → List Asked) → NoneFell before after
    → ((lane first last : ℕ) → slice_get before lane ≡ Some first → slice_get after lane ≡ Some last → CountsUp first last (told lane))
    → ((lane : ℕ) → lane < length before → AreQuiet (told lane)) ⊎ SomeRose before after
all_quiet [] [] told same counts = inl (λ lane less. absurd (omega (arith, less)))
all_quiet [] (a ∷ afters) told same counts = absurd same
all_quiet (b ∷ befores) [] told same counts = absurd same
all_quiet (b ∷ befores) (a ∷ afters) told same counts =
    join (quiet_or_rose b a (told 0) (counts 0 b a refl refl)) (all_quiet befores afters (λ lane. told (suc lane)) same.1 (λ lane first last is was. counts (suc lane) first last is was))
  where
    at : AreQuiet (told 0) → ((lane : ℕ) → lane < length befores → AreQuiet (told (suc lane))) → (lane : ℕ) → lane < suc (length befores) → AreQuiet (told lane)
    at first others zero less = first
    at first others (suc lane) less = others lane (omega (arith, less))

    join : AreQuiet (told 0) ⊎ Rose b a → ((lane : ℕ) → lane < length befores → AreQuiet (told (suc lane))) ⊎ SomeRose befores afters
        → ((lane : ℕ) → lane < length (b ∷ befores) → AreQuiet (told lane)) ⊎ SomeRose (b ∷ befores) (a ∷ afters)
    join (inr risen) others = inr (inl risen)
    join (inl first) (inr risen) = inr (inr risen)
    join (inl first) (inl others) = inl (at first others)

-- where each lane is one of the methods', no entry tells a fault
quiet_entries : (count : ℕ) (asks : List Asked) → Each (λ e. e.lane < count) asks → ((lane : ℕ) → lane < count → AreQuiet (asks_of_lane lane asks)) → AreQuiet asks
quiet_entries count [] lanes quiet = tt
quiet_entries count (e ∷ asks) lanes quiet =
    (front (e.lane == e.lane) (same_number e.lane) (quiet e.lane lanes.0), quiet_entries count asks lanes.1 (λ lane less. behind lane (e.lane == lane) (quiet lane less)))
  where
    front : (same : Bool) → same ≡ true → AreQuiet (if same then e ∷ asks_of_lane e.lane asks else asks_of_lane e.lane asks) → IsQuiet e.heard
    front true is both = both.0
    front false is others = absurd cc

    behind : (lane : ℕ) (same : Bool) → AreQuiet (if same then e ∷ asks_of_lane lane asks else asks_of_lane lane asks) → AreQuiet (asks_of_lane lane asks)
    behind lane true both = both.1
    behind lane false others = others

-- entries that tell no fault tell few
none_told : (source : ℕ) (uri : Uri) (asks : List Asked) → AreQuiet asks → faults_told_of source uri asks ≡ 0
none_told source uri [] quiet = refl
none_told source uri (asked ∷ asks) quiet =
    let rest = none_told source uri asks quiet.1 in
    let here = by asked.heard (asked.source == source) (same_uri asked.uri uri) quiet.0 in
    omega (arith, rest, here)
  where
    by : (heard : Heard) (mine same : Bool) → IsQuiet heard → one_if (mine && (same && is_fault heard)) ≡ 0
    by heard false same q = refl
    by heard true false q = refl
    by (Served sum) true true q = refl
    by (Not (Moved place)) true true q = refl
    by (Not (Absent status)) true true q = refl
    by (Not TooBig) true true q = refl
    by (Not (Garbled at)) true true q = refl
    by (Not (Fault before after)) true true q = absurd q

none_given_up : (retries : ℕ) (asks : List Asked) → AreQuiet asks → NoneIsGivenUp retries asks
none_given_up retries asks quiet = λ source uri. let none = none_told source uri asks quiet in omega (arith, none)

-- ---- what was heard

-- the log of a board is what was heard
pub logs_what_was_heard : BoardsStand → (run : Run) (before after : Engine) (log : RunLog) (logged : LogIsTrue run before after log) → log.asks ≡ entries_of logged.heard
logs_what_was_heard stand run before after log logged =
    let reached = logged.tells.reached in
    let stands = (stand logged.begun.config logged.begun.olds reached.lanes reached.events).log in
    rw logged.tells.asks (rw reached.leads at stands)

-- ---- what it leaves

pub for_mirror : {X : Type 0} (told : List (Option MirrorMap)) (P Q : MirrorMap → Type 0) → (X → ForMirror told P) → ((mirror : MirrorMap) → (X → P mirror) → Q mirror) → ForMirror told Q
for_mirror [] P Q agrees f = tt
for_mirror (None ∷ others) P Q agrees f = tt
for_mirror (Some mirror ∷ others) P Q agrees f = λ same. f mirror (λ x. agrees x same)

-- with what a finished run began
pub reads_lists : (run : Run) (begun : RunInput) (heard : List Note) (entry now : List State) (log : RunLog) → IsConfiguredBy run begun → HasFinished run begun heard entry now log → ReadsLists run entry begun
reads_lists run begun heard entry now log of_run finished = record { opened = finished.opened; opens = finished.opens; of_run = of_run; read = finished.read }

next_lists : RunsLeadToNext → (run : Run) (before after : Engine) (log : RunLog) (logged : LogIsTrue run before after log) (mirror : MirrorMap)
    → Agrees mirror logged.begun.parts logged.begun.config.sources logged.heard → NoneIsDead logged.begun.config.settings.retries logged.heard
    → (finished : HasFinished run logged.begun logged.heard before.trace after.trace log)
    → IsNext mirror (installed_now before.trace) logged.begun.parts run.plan run.settings run.change run.moment (after_all (commits_of finished.commits) (installed_now before.trace))
next_lists next run before after log logged mirror agree lives finished =
    let heard_out : HeardMirrorFully mirror logged.begun finished.ran.heard = rw finished.same (record { agrees = agree; lives = lives }) in
    rw (sym logged.of_run.settings, sym logged.of_run.change, sym logged.of_run.moment)
    (next run.together logged.begun (installed_now before.trace) log finished.commits finished.ran mirror run.plan finished.read.begins heard_out (sym logged.of_run.sources))

told_lists : RunsLeaveMirrored → (run : Run) (before after : Engine) (log : RunLog) (logged : LogIsTrue run before after log) (mirror : MirrorMap)
    → Agrees mirror logged.begun.parts logged.begun.config.sources logged.heard → NoneIsDead logged.begun.config.settings.retries logged.heard
    → (finished : HasFinished run logged.begun logged.heard before.trace after.trace log) (n : ℕ) (source : Source) → slice_get run.plan.sources n ≡ Some source
    → LeavesMirrored mirror logged.begun n source log (installed_now before.trace) (after_all (commits_of finished.commits) (installed_now before.trace))
told_lists leaves run before after log logged mirror agree lives finished n source is =
    let heard_out : HeardMirrorFully mirror logged.begun finished.ran.heard = rw finished.same (record { agrees = agree; lives = lives }) in
    leaves run.together logged.begun (installed_now before.trace) log finished.commits finished.ran mirror n source finished.read.begins heard_out (rw logged.of_run.sources is)

pub told_of : (P : State → Type 0) (now : List State) → ToldAs P now → IsTold now
told_of P [] is = absurd is
told_of P (s ∷ past) is = tt

serves_lists : RunsLeadToNext → RunsLeaveMirrored → (run : Run) (before after : Engine) (log : RunLog) (logged : LogIsTrue run before after log) (mirror : MirrorMap)
    → (IsTold after.trace → Agrees mirror logged.begun.parts logged.begun.config.sources logged.heard) → NoneIsDead logged.begun.config.settings.retries logged.heard
    → HasFinished run logged.begun logged.heard before.trace after.trace log → ListsMatchMirror run mirror before.trace after.trace log
serves_lists next leaves run before after log logged mirror agrees lives finished =
    let told = told_of (IsAtRest (after_all (commits_of finished.commits) (installed_now before.trace))) after.trace finished.rests in
    record {
      begun = logged.begun;
      reads = reads_lists run logged.begun logged.heard before.trace after.trace log logged.of_run finished;
      lists = after_all (commits_of finished.commits) (installed_now before.trace);
      rests = finished.rests;
      next = next_lists next run before after log logged mirror (agrees told) lives finished;
      told = told_lists leaves run before after log logged mirror (agrees told) lives finished;
    }

-- each method told no fault, or some count rose
quiet_or_risen : (run : Run) (before after : Engine) (log : RunLog) → KeepsMethods before after → LogIsTrue run before after log → SomeRose before.faults after.faults ⊎ NoneIsGivenUp run.settings.retries log.asks
quiet_or_risen run before after log keeps logged = by (all_quiet before.faults after.faults (λ lane. asks_of_lane lane log.asks) keeps.counts logged.faults.counts)
  where
    by : ((lane : ℕ) → lane < length before.faults → AreQuiet (asks_of_lane lane log.asks)) ⊎ SomeRose before.faults after.faults
        → SomeRose before.faults after.faults ⊎ NoneIsGivenUp run.settings.retries log.asks
    by (inr risen) = inl risen
    by (inl quiet) = inr (none_given_up run.settings.retries log.asks (quiet_entries (length before.faults) log.asks logged.faults.lanes quiet))

-- none of what was heard was given up, where none of the log was
pub heard_out : BoardsStand → (run : Run) (before after : Engine) (log : RunLog) (logged : LogIsTrue run before after log) → NoneIsGivenUp run.settings.retries log.asks
    → NoneIsDead logged.begun.config.settings.retries logged.heard
heard_out stand run before after log logged few =
    none_is_dead stand logged.begun.config logged.begun.olds logged.heard logged.tells.board logged.tells.reached
    (subst (λ (settings : Settings). NoneIsGivenUp settings.retries (entries_of logged.heard)) (sym logged.of_run.settings)
    (subst (λ (asks : List Asked). NoneIsGivenUp run.settings.retries asks) (logs_what_was_heard stand run before after log logged) few))

pub serves : BoardsStand → RunsLeadToNext → RunsLeaveMirrored → RunsEndAsServed
serves stand next leaves run before after log keeps logged =
    for_mirror before.mirrors _ _ (answers_told run before after log logged) (λ mirror agrees settled. record {
      lists = λ few. serves_lists next leaves run before after log logged mirror agrees (heard_out stand run before after log logged few) (logged.commits settled);
      quiet = quiet_or_risen run before after log keeps logged;
    })

-- ---- what is told

-- where there is a state, what holds of it is told
told_as : (P : State → Type 0) (now : List State) → IsTold now → IsNow P now → ToldAs P now
told_as P [] told is = absurd told
told_as P (s ∷ past) told is = is

folder_matches : (run : Run) (before after : Engine) (log : RunLog) (logged : LogIsTrue run before after log) (finished : HasFinished run logged.begun logged.heard before.trace after.trace log)
    → FolderMatchesLog run logged.begun finished.opened after.trace log
folder_matches run before after log logged finished = record {
  heard = logged.heard;
  tells = logged.tells;
  aside = subst (λ (settings : Settings). KeepsAside run.plan.sources (IsTaken run.plan.sources (installed_by log) (cleans_up settings log.verdicts)) logged.heard finished.opened after.trace) logged.of_run.settings
      (subst (λ (sources : List Source). KeepsAside sources (IsTaken sources (installed_by log) (cleans_up logged.begun.config.settings log.verdicts)) logged.heard finished.opened after.trace) logged.of_run.sources finished.aside);
  gone = λ cleaned. subst (λ (sources : List Source). ToldAs (λ s. NoneIsLoose sources (reads s)) after.trace) logged.of_run.sources
      (told_as _ after.trace (told_of _ after.trace finished.rests) (finished.gone (rw logged.of_run.settings cleaned)));
}

pub ends_as_told : RunsHoldAsTold → RunsKeepOthers → RunsEndAsTold
unfolding reads_lists
ends_as_told holds keeps run before after log logged settled =
    let finished = logged.commits settled in
    let lists = after_all (commits_of finished.commits) (installed_now before.trace) in
    record {
      begun = logged.begun;
      reads = reads_lists run logged.begun logged.heard before.trace after.trace log logged.of_run finished;
      lists = lists;
      rests = finished.rests;
      holds = λ n source verdict held is told has.
          holds run.together logged.begun (installed_now before.trace) log finished.commits n source verdict held finished.read.begins finished.ran (rw logged.of_run.sources is) told has;
      keeps = λ n source verdict is told none.
          keeps run.together logged.begun (installed_now before.trace) log finished.commits n source verdict finished.read.begins finished.ran (rw logged.of_run.sources is) told none;
      folder = folder_matches run before after log logged finished;
    }
