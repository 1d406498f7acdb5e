-- A run over lanes, from its beginning to its end.
use Rattle.std.proofs.Common.{◌≡◌, ◌≢◌, ◌∙◌, ◌≤◌, ◌<◌, ℕ, zero, suc, Bool, true, false, IsTrue, List, [], ◌∷◌, ◌++◌, length, map, Option, Some, None, Result, Ok, Err, inl, inr, refl, sym, ap, subst, arith, ⊎_elim}
use Rattle.std.proofs.lemmas.List.{length-map}
use Rattle.std.specs.Prelude.{IfOk, IsErrAnd, filter, is_some, slice_get}
use Rattle.std.specs.List.{list_any}
use Rattle.acq_base.specs.Mirror.{MirrorMap}
use Rattle.acq_base.specs.declared.installed.Old.{Old}
use Rattle.acq_base.specs.declared.settings.Settings.{Settings}
use Rattle.acq_outside.specs.Count.{NoneFell}
use Rattle.acq_outside.specs.Crash.{IsShown, State, reads}
use Rattle.acq_outside.specs.Disk.{Files}
use Rattle.acq_outside.specs.States.{From, IsTold, Since, IsNow, ToldAs}
use Rattle.acq_outside.specs.declared.disk.Disk.{Ghosts as Disks}
use Rattle.acq_outside.specs.declared.word.Fetch.{Fetch}
use Rattle.acq_outside.proofs.Going.{no_time}
use Rattle.board_model.specs.Agreeing.{Agrees}
use Rattle.board_model.specs.Boards.{Board}
use Rattle.board_model.specs.Runs.{Note}
use Rattle.board_model.specs.Slots.{Setup}
use Rattle.commit_journal.specs.Opening.{FindsDamage as FindsNoDamage, IsOfOpening, KeepsFilesBut, Recovers, damage_of}
use Rattle.commit_journal.specs.declared.opening.Journal.{Journal}
use Rattle.journal_model.specs.Names.{journal}
use Rattle.journal_model.specs.Reopen.{installed_now}
use Rattle.journal_model.specs.Rest.{IsAtRest, IsIdle, IsSynced, KeptAtRestSince}
use Rattle.list_commits.specs.Made.{CommitsMade, after_all, none, rests}
use Rattle.run_jobs.specs.Mirrors.{ForMirror}
use Rattle.run_jobs.specs.Counting.{FaultsRise}
use Rattle.run_jobs.specs.declared.error.RunError.{RunError}
use Rattle.run_jobs.specs.declared.error.RunError.TheVariants.{BadJournal, NoMemory}
use Rattle.run_jobs.proofs.Agreed.{heard_on, reached_told, run_agrees}
use Rattle.run_jobs.proofs.Rising.{faults_more, for_any}
use Rattle.run_jobs.specs.Running.{AgreesWhereKnown, RunStart, IsSoundBegun}
use Rattle.run_model.specs.Begun.{RunInput}
use Rattle.run_model.specs.Groups.{Group, all_groups, commits_of}
use Rattle.run_model.specs.Runs.{AreAllGroups, MayBeCommitted, is_told_installed}
use Rattle.update_model.specs.declared.log.Asked.{Asked}
use Rattle.update_model.specs.declared.log.RunLog.{RunLog}
use Rattle.run_model.proofs.Counting.{verdicts_count}
use Rattle.lane_pool.specs.Pool.{Pool, outs_at_start}
use Rattle.lane_pool.proofs.Rows.{none_fell_trans}
use Rattle.lane_jobs.specs.Going.{IsRunningOver, KeepsLanes, MayAskOver, run_lanes}
use Rattle.lane_jobs.specs.JobsOut.{JobsOut, none_out}
use Rattle.update_engine.proofs.Known.{CommittingLaws}
use Rattle.update_engine.specs.Run.{Engine, RunFindsDamage, HasFinished, HasOpenedJournal, IsReadFromDisk, KeepsMethods, LogIsTrue, Run, RunsBetween, SurvivesCrash, StopsAmongCommits, StopsForMemory}
use Rattle.update_engine.specs.Session.{EndsWithLog, CommitsAll, RunGoesOn, RunGoesOnWith, RunsOverLists, HasCommittedBeside, HasCommittedSets, HasCommittedAll, IsNewPool, IsNewRun, HasProgress, MayCommit, StartsRun, StopsWhileAsking, StopsWhileEnding, TellsOfBoard, begun_beside, begun_of}
use Rattle.update_engine.proofs.Committing.{settled_made}
use Rattle.update_engine.proofs.Beside.{aside_none, aside_quiet}
use Rattle.update_engine.proofs.Lists.{none_fall, told_on}

-- ---- what is known at its jobs

-- the disk and lanes at one moment
abbrev pub engine_at : List State → List (Option MirrorMap) → List ℕ → Engine
engine_at trace mirrors counts = record { trace = trace; mirrors = mirrors; faults = counts }

-- no job is out at first
at_start : (run : Run) (pool : Pool) (lanes : ℕ) (jobs : JobsOut) (now : List State) (b : Board) → jobs ≡ none_out lanes → (h : IsNewRun run pool lanes now b) → IsRunningOver h.start [] (run_lanes pool jobs b) now
at_start run pool lanes jobs now b none_yet h = subst (λ (j : JobsOut). IsRunningOver h.start [] (run_lanes pool j b) now) (sym none_yet) h.running

pub starts_ready : (run : Run) (pool : Pool) (lanes : ℕ) (jobs : JobsOut) (now later : List State) (b : Board) → StartsRun run lanes now b → IsNewPool pool → jobs ≡ none_out lanes → later ≡ now → IsNow IsIdle now → MayAskOver (run_lanes pool jobs b) later
starts_ready run pool lanes jobs now later b starts new none_yet same idle =
    let h : IsNewRun run pool lanes now b = starts pool new in
    subst (MayAskOver (run_lanes pool jobs b)) (sym same)
    (record { begun = h.start; notes = []; sound = h.sound; running = at_start run pool lanes jobs now b none_yet h; idle = idle })

pub starts_change : (run : Run) (pool : Pool) (lanes : ℕ) (now : List State) (b : Board) → StartsRun run lanes now b → IsNewPool pool → run.change ≡ b.config.change
starts_change run pool lanes now b starts new =
    let h : IsNewRun run pool lanes now b = starts pool new in
    sym (ap (λ (c : Setup). c.change) h.running.under_way.heard.config ∙ h.of_run.change)

pub far_stands : (pool later : Pool) (jobs out : JobsOut) (b c : Board) (old now : List State) → MayAskOver (run_lanes pool jobs b) old → RunGoesOn (run_lanes pool jobs b) (run_lanes later out c) old now → IsNow IsIdle now → MayCommit c now
far_stands pool later jobs out b c old now ready far idle =
    let w = far ready.begun ready.notes ready.sound ready.running in
    record { start = ready.begun; notes = _; sound = ready.sound; under_way = w.running.under_way; idle = idle }

-- ---- what a disk tells

told_as : (P : State → Type 0) (now : List State) → IsNow P now → IsTold now → ToldAs P now
told_as P [] is told = absurd told
told_as P (s ∷ past) is told = is

was_told : (P : State → Type 0) (now : List State) → ToldAs P now → IsTold now
was_told P [] is = absurd is
was_told P (s ∷ past) is = tt

pub was : (P : State → Type 0) (now : List State) → ToldAs P now → IsNow P now
was P [] is = absurd is
was P (s ∷ past) is = is

-- it tells its states as long as it tells its files
pub still_told : (tells later : Bool) (files after : Files) (old now : List State) → IsShown tells files old → IsShown later after now → later ≡ tells → IsTold old → IsTold now
still_told tells later files after [] now shown is same told = absurd told
still_told tells later files after (s ∷ past) [] shown is same told = absurd (let wrong : true ≡ false = sym shown.0 ∙ (sym same ∙ is) in cc)
still_told tells later files after (s ∷ past) (t ∷ more) shown is same told = tt

-- ---- the journal is open

-- the journal was opened over a disk that tells and was synced
pub record IsOpen (entry opened : List State) : Type 0 where
  pub opens : HasOpenedJournal entry opened
  pub told : IsTold opened
  pub idle : IsNow IsIdle opened

others_left : (tells : Bool) (files : Files) (entry opened : List State) → IsShown tells files entry → (IsTrue tells → KeepsFilesBut (IsOfOpening (files journal)) entry opened)
    → IsNow (λ (s : State). KeepsFilesBut (IsOfOpening (reads s journal)) entry opened) entry
others_left tells files [] opened shown others = tt
others_left tells files (s ∷ past) opened shown others = subst (λ (f : Files). KeepsFilesBut (IsOfOpening (f journal)) (s ∷ past) opened) shown.1 (others shown.0)

pub is_open : (tells : Bool) (files : Files) (entry opened later : List State) → IsShown tells files entry → Since entry opened (From Recovers entry) → (IsTrue tells → KeepsFilesBut (IsOfOpening (files journal)) entry opened)
    → (IsNow IsSynced entry → IsNow (IsAtRest (installed_now entry)) opened) → IsNow IsIdle opened → later ≡ opened → ToldAs IsSynced entry → IsOpen entry later
is_open tells files entry opened later shown recovers others at_rest idle same settled = subst (IsOpen entry) (sym same) (record {
  opens = record { recovers = recovers; others = others_left tells files entry opened shown others; rests = at_rest (was IsSynced entry settled) };
  told = told_on (From Recovers entry) entry opened recovers (was_told IsSynced entry settled);
  idle = idle;
})

-- an opening that goes on has found no damage
pub none_found : (place : Option ℕ) (j : Journal) (log : RunLog) → FindsNoDamage place (Ok j) → RunFindsDamage place (Ok log)
none_found None j log finds = λ at wrong. absurd (cc)
none_found (Some at) j log finds = ⊎_elim (λ wrong. absurd (cc)) (⊎_elim (λ wrong. absurd (cc)) (λ wrong. absurd (cc))) finds

-- nor is any told behind it
pub none_told : {A : Type 0} (place : Option ℕ) (j : Journal) (r : Result A RunError) (result : Result RunLog RunError) (error : RunError) → FindsNoDamage place (Ok j) → r ≡ Err error → ((at : ℕ) → r ≢ Err (BadJournal at)) → IsErrAnd result (λ e. e ≡ error)
    → RunFindsDamage place result
none_told place j r (Ok log) error finds was undamaged never = absurd never
none_told None j r (Err e) error finds was undamaged same = λ at wrong. let bad : e ≡ BadJournal at = cc in undamaged at (was ∙ ap Err (sym same ∙ bad))
none_told (Some at) j r (Err e) error finds was undamaged same = ⊎_elim (λ wrong. absurd (cc)) (⊎_elim (λ wrong. absurd (cc)) (λ wrong. absurd (cc))) finds

-- how a run without a log stops: a crash leaves whole commits, and want of memory stops none that was begun
pub record StopsSafely (error : RunError) (run : Run) (before after : Engine) : Type 0 where
  pub crash : SurvivesCrash run before after
  pub dry : error ≡ NoMemory → ToldAs IsSynced before.trace → StopsForMemory run before.mirrors before.trace after.trace

pub stopped_run : {D : Type 0} (d : Disks D) (run : Run) (old new : D) (mirrors told : List (Option MirrorMap)) (counts last : List ℕ) (result : Result RunLog RunError) (error : RunError) → IsErrAnd result (λ e. e ≡ error)
    → StopsSafely error run (engine_at (d.trace old) mirrors counts) (engine_at (d.trace new) told last) → ((at : ℕ) → result ≡ Err (BadJournal at) → d.files new ≡ d.files old) → (IsTrue (d.tells old) → RunFindsDamage (damage_of (d.files old)) result)
    → RunsBetween d run old new (engine_at (d.trace old) mirrors counts) (engine_at (d.trace new) told last) result
stopped_run d run old new mirrors told counts last (Ok log) error never safe unchanged damage = absurd never
stopped_run d run old new mirrors told counts last (Err e) error same safe unchanged damage = record {
  unchanged = unchanged;
  damage = damage;
  verdicts = tt;
  log = tt;
  crash = safe.crash;
  dry = λ is settled. let memory : e ≡ NoMemory = cc in safe.dry (sym same ∙ memory) settled;
}

-- so far no more was done
pub stays_unopened : (error : RunError) (run : Run) (before after : Engine) (opened : List State) → Since before.trace opened (From Recovers before.trace) → (IsNow IsSynced before.trace → IsNow IsSynced opened) → after.trace ≡ opened
    → StopsSafely error run before after
stays_unopened error run before after opened recovers is_settled same =
    let as_at_entry : Since before.trace after.trace (From Recovers before.trace) = subst (λ (t : List State). Since before.trace t (From Recovers before.trace)) (sym same) recovers in
    record {
      crash = record {
        stops = λ settled. inl as_at_entry;
        synced = λ settled. subst (IsNow IsSynced) (sym same) (is_settled (was IsSynced before.trace settled));
      };
      dry = λ is settled. inl as_at_entry;
    }

-- ---- where it stops

is_read : (run : Run) (pool : Pool) (lanes : ℕ) (entry opened : List State) (b : Board) → IsOpen entry opened → (h : IsNewRun run pool lanes opened b) → IsReadFromDisk entry opened (begun_of h.start)
is_read run pool lanes entry opened b ready_at h = h.read entry (told_as (IsAtRest (installed_now entry)) opened ready_at.opens.rests ready_at.told)

stops_at : (error : RunError) (run : Run) (pool : Pool) (lanes : ℕ) (entry opened now : List State) (b : Board) → IsOpen entry opened → (h : IsNewRun run pool lanes opened b) → IsTold now
    → HasProgress error h.start run.together (installed_now entry) opened now → StopsAmongCommits run pool.worlds entry now
stops_at error run pool lanes entry opened now b ready_at h told m = record {
  opened = opened;
  opens = ready_at.opens;
  begun = begun_of h.start;
  of_run = h.of_run;
  read = is_read run pool lanes entry opened b ready_at h;
  commits = m.commits;
  acknowledged = m.acknowledged;
  started = m.started;
  progress = m.progress;
  has = m.has;
  answers = subst (λ (told : List (Option MirrorMap)). ForMirror told (λ (w : MirrorMap). Agrees w h.start.parts h.start.config.sources m.has.heard)) h.from (m.agrees told);
}

stays_at : (error : RunError) (run : Run) (pool : Pool) (told : List (Option MirrorMap)) (lanes : ℕ) (last : List ℕ) (entry opened now : List State) (b : Board) → (ToldAs IsSynced entry → IsOpen entry opened)
    → (h : IsNewRun run pool lanes opened b) → (IsTold entry → IsTold now) → (IsOpen entry opened → HasProgress error h.start run.together (installed_now entry) opened now)
    → StopsSafely error run (engine_at entry pool.worlds pool.counts) (engine_at now told last)
unfolding stops_at
stays_at error run pool told lanes last entry opened now b ready_at h tells at = record {
  crash = record {
    stops = λ settled. inr (among settled);
    synced = λ settled. (at (ready_at settled)).synced (ready_at settled).opens.rests;
  };
  dry = λ is settled. inr (record { among = among settled; whole = (at (ready_at settled)).whole is });
}
  where
    among : ToldAs IsSynced entry → StopsAmongCommits run pool.worlds entry now
    among settled = stops_at error run pool lanes entry opened now b (ready_at settled) h (tells (was_told IsSynced entry settled)) (at (ready_at settled))

-- no set is committed so far
sets_none : (start : RunStart) (jobs : JobsOut) (opened : List State) (b : Board) → IsTold opened → b.settled ≡ [] → HasCommittedBeside (begun_of start) jobs [] opened opened b
sets_none start jobs opened b told unsettled = record {
  sets = record {
    told = told;
    commits = [];
    made = none;
    each = tt;
    groups = tt;
    order = sym (ap (filter (λ (n : ℕ). is_told_installed (slice_get b.verdicts n))) unsettled);
  };
  aside = aside_none start.config.sources _ opened opened refl;
}

-- within its jobs: one by one among its commits, and together before any
at_asking : CommittingLaws → (error : RunError) (together : Bool) (pool : Pool) (jobs : JobsOut) (start : RunStart) (lists : Files) (opened now : List State) (b : Board) → IsSoundBegun start → IsRunningOver start [] (run_lanes pool jobs b) opened
    → IsTold opened → IsNow IsIdle opened → b.settled ≡ [] → StopsWhileAsking error (run_lanes pool jobs b) opened now → (together ≡ true → Since opened now (KeptAtRestSince opened)) → HasProgress error start together lists opened now
at_asking laws error false pool jobs start lists opened now b sound running told idle unsettled stops bare = stops start [] lists opened sound running (sets_none start jobs opened b told unsettled)
at_asking laws error true pool jobs start lists opened now b sound running told idle unsettled stops bare =
    let made : CommitsMade [] opened now = rests none idle (bare refl) in
    record {
      commits = [];
      acknowledged = 0;
      started = 0;
      progress = laws.made [] opened now made;
      whole = λ dry. refl;
      has = record { heard = []; board = b; reached = reached_told start [] b opened running.under_way.heard told; groups = tt; may = inl refl; in_turn = tt; shape = (omega arith, tt) };
      agrees = λ told_now. for_any start.mirrors (λ (w : MirrorMap). Agrees w start.parts start.config.sources []) (λ w. tt);
      synced = λ rest. settled_made laws [] lists opened now made rest;
    }

pub safe_asking : CommittingLaws → (error : RunError) (run : Run) (pool : Pool) (told : List (Option MirrorMap)) (lanes : ℕ) (last : List ℕ) (jobs : JobsOut) (entry opened now : List State) (b : Board) → (ToldAs IsSynced entry → IsOpen entry opened)
    → StartsRun run lanes opened b → IsNewPool pool → jobs ≡ none_out lanes → (IsTold entry → IsTold now) → StopsWhileAsking error (run_lanes pool jobs b) opened now → (run.together ≡ true → Since opened now (KeptAtRestSince opened))
    → StopsSafely error run (engine_at entry pool.worlds pool.counts) (engine_at now told last)
safe_asking laws error run pool told lanes last jobs entry opened now b ready_at starts new none_yet tells stops bare =
    let h : IsNewRun run pool lanes opened b = starts pool new in
    stays_at error run pool told lanes last entry opened now b ready_at h tells
    (λ is. at_asking laws error run.together pool jobs h.start (installed_now entry) opened now b h.sound (at_start run pool lanes jobs opened b none_yet h) is.told is.idle h.none stops bare)

-- ---- at its end

-- with no job out the sets are committed
sets_quiet : (begun : RunInput) (jobs : JobsOut) (heard : List Note) (opened now : List State) (b : Board) → list_any is_some jobs.rows ≡ false → HasCommittedBeside begun jobs heard opened now b → HasCommittedSets begun heard opened now b
sets_quiet begun jobs heard opened now b quiet beside = record { sets = beside.sets; aside = aside_quiet begun.config.sources _ jobs heard opened now quiet beside.aside }

-- the run has gone on from its beginning to where no job is out
pub record HasAsked (run : Run) (pool later : Pool) (lanes : ℕ) (jobs out : JobsOut) (opened mid : List State) (b c : Board) : Type 0 where
  pub starts : StartsRun run lanes opened b
  pub new : IsNewPool pool
  pub none_yet : jobs ≡ none_out lanes
  pub goes : RunGoesOn (run_lanes pool jobs b) (run_lanes later out c) opened mid
  pub quiet : list_any is_some out.rows ≡ false
  pub unsettled : run.together ≡ true → c.settled ≡ b.settled

begins_new : {run : Run} {pool later : Pool} {lanes : ℕ} {jobs out : JobsOut} {opened mid : List State} {b c : Board} → HasAsked run pool later lanes jobs out opened mid b c → IsNewRun run pool lanes opened b
begins_new {pool = pool} a = a.starts pool a.new

heard_more : {run : Run} {pool later : Pool} {lanes : ℕ} {jobs out : JobsOut} {opened mid : List State} {b c : Board} → (a : HasAsked run pool later lanes jobs out opened mid b c) → (h : IsNewRun run pool lanes opened b)
    → RunGoesOnWith h.start [] (run_lanes pool jobs b) (run_lanes later out c) opened mid
heard_more {run} {pool} {later} {lanes} {jobs} {out} {opened} {mid} {b} {c} a h = a.goes h.start [] h.sound (at_start run pool lanes jobs opened b a.none_yet h)

-- so far it has heard more, and committed its sets
begun_over : (run : Run) (pool later : Pool) (lanes : ℕ) (jobs out : JobsOut) (entry opened mid : List State) (b c : Board) → IsOpen entry opened → (a : HasAsked run pool later lanes jobs out opened mid b c) → (h : IsNewRun run pool lanes opened b)
    → (w : RunGoesOnWith h.start [] (run_lanes pool jobs b) (run_lanes later out c) opened mid) → RunsOverLists run.together h.start ([] ++ w.more) (installed_now entry) opened mid c
begun_over run pool later lanes jobs out entry opened mid b c ready_at a h w = record {
  sound = h.sound;
  under_way = w.running.under_way;
  first = λ together. a.unsettled together ∙ h.none;
  sets = sets_quiet (begun_of h.start) out ([] ++ w.more) opened mid c a.quiet (w.sets opened (sets_none h.start jobs opened b ready_at.told h.none));
  rest = ready_at.opens.rests;
  over = (is_read run pool lanes entry opened b ready_at h).begins;
}

cleanup_is : (run : Run) (pool : Pool) (lanes : ℕ) (opened : List State) (b : Board) (cleanup : Bool) → (h : IsNewRun run pool lanes opened b) → run.settings.cleanup ≡ cleanup → h.start.config.settings.cleanup ≡ cleanup
cleanup_is run pool lanes opened b cleanup h switch = ap (λ (s : Settings). s.cleanup) h.of_run.settings ∙ switch

pub safe_ending : (error : RunError) (run : Run) (pool later : Pool) (lanes : ℕ) (jobs out : JobsOut) (entry opened mid now : List State) (b c : Board) (cleanup : Bool)
    → (ToldAs IsSynced entry → IsOpen entry opened) → HasAsked run pool later lanes jobs out opened mid b c → (IsTold entry → IsTold now) → run.settings.cleanup ≡ cleanup → StopsWhileEnding error run.together cleanup c mid now
    → StopsSafely error run (engine_at entry pool.worlds pool.counts) (engine_at now later.worlds later.counts)
safe_ending error run pool later lanes jobs out entry opened mid now b c cleanup ready_at a told switch stops =
    let h : IsNewRun run pool lanes opened b = begins_new a in
    let w : RunGoesOnWith h.start [] (run_lanes pool jobs b) (run_lanes later out c) opened mid = heard_more a h in
    stays_at error run pool later.worlds lanes later.counts entry opened now b ready_at h told
    (λ is. stops h.start ([] ++ w.more) (installed_now entry) opened (cleanup_is run pool lanes opened b cleanup h switch) (begun_over run pool later lanes jobs out entry opened mid b c is a h w))

all_may : (together : Bool) (begun : RunInput) (lists : Files) (b : Board) (groups : List Group) → AreAllGroups begun lists b groups → MayBeCommitted together begun lists b groups
all_may false begun lists b groups all = inr all
all_may true begun lists b groups all = inr all

-- all commits are made
ended_at : CommittingLaws → (error : RunError) (together : Bool) (start : RunStart) (notes : List Note) (lists : Files) (opened mid now : List State) (log : RunLog) → (IsTold now → ForMirror start.mirrors (λ (w : MirrorMap). Agrees w start.parts start.config.sources notes))
    → HasCommittedAll together start notes lists opened mid now log → HasProgress error start together lists opened now
ended_at laws error together start notes lists opened mid now log agree e = record {
  commits = e.commits;
  acknowledged = length (commits_of e.commits);
  started = length (commits_of e.commits);
  progress = laws.made (commits_of e.commits) opened now e.made;
  whole = λ dry. refl;
  has = record {
    heard = e.ran.heard;
    board = e.ran.board;
    reached = e.ran.reached;
    groups = e.ran.groups;
    may = all_may together (begun_of start) lists e.ran.board (all_groups e.commits) e.ran.all;
    in_turn = e.ran.in_turn;
    shape = e.ran.shape;
  };
  agrees = λ told. subst (λ (ns : List Note). ForMirror start.mirrors (λ (w : MirrorMap). Agrees w start.parts start.config.sources ns)) (sym e.same) (agree told);
  synced = λ rest. settled_made laws (commits_of e.commits) lists opened now e.made rest;
}

pub safe_ended : CommittingLaws → (run : Run) (pool later : Pool) (lanes : ℕ) (jobs out : JobsOut) (entry opened mid now : List State) (b c : Board) (cleanup : Bool) (log : RunLog)
    → (ToldAs IsSynced entry → IsOpen entry opened) → HasAsked run pool later lanes jobs out opened mid b c → (IsTold entry → IsTold now) → (IsTold now → IsTold mid) → run.settings.cleanup ≡ cleanup → CommitsAll run.together cleanup c mid now log
    → SurvivesCrash run (engine_at entry pool.worlds pool.counts) (engine_at now later.worlds later.counts)
safe_ended laws run pool later lanes jobs out entry opened mid now b c cleanup log ready_at a told back switch ends =
    let h : IsNewRun run pool lanes opened b = begins_new a in
    let w : RunGoesOnWith h.start [] (run_lanes pool jobs b) (run_lanes later out c) opened mid = heard_more a h in
    (stays_at NoMemory run pool later.worlds lanes later.counts entry opened now b ready_at h told
    (λ is. ended_at laws NoMemory run.together h.start ([] ++ w.more) (installed_now entry) opened mid now log (λ told_now. run_agrees h.start ([] ++ w.more) mid w.running.under_way.heard (back told_now))
    (ends h.start ([] ++ w.more) (installed_now entry) opened (cleanup_is run pool lanes opened b cleanup h switch) (begun_over run pool later lanes jobs out entry opened mid b c is a h w)))).crash

-- ---- its log

-- the faults of each method are told where it asks no more
faults_told : (run : Run) (pool later : Pool) (lanes : ℕ) (jobs out : JobsOut) (opened mid : List State) (b c : Board) (log : RunLog) → HasAsked run pool later lanes jobs out opened mid b c → log.asks ≡ c.asks → FaultsRise pool.counts later.counts log.asks
faults_told run pool later lanes jobs out opened mid b c log a asks =
    let h : IsNewRun run pool lanes opened b = begins_new a in
    let w : RunGoesOnWith h.start [] (run_lanes pool jobs b) (run_lanes later out c) opened mid = heard_more a h in
    subst (λ (es : List Asked). FaultsRise pool.counts later.counts es) (sym asks) (subst (λ (first : List ℕ). FaultsRise first later.counts c.asks) h.at w.running.counted.faults)

pub logged : CommittingLaws → (run : Run) (pool later : Pool) (lanes : ℕ) (jobs out : JobsOut) (entry opened mid now : List State) (b c : Board) (cleanup : Bool) (log : RunLog)
    → (ToldAs IsSynced entry → IsOpen entry opened) → HasAsked run pool later lanes jobs out opened mid b c → (IsTold entry → IsTold now) → (IsTold now → IsTold mid) → run.settings.cleanup ≡ cleanup → CommitsAll run.together cleanup c mid now log
    → EndsWithLog cleanup c mid log → log.asks ≡ c.asks → LogIsTrue run (engine_at entry pool.worlds pool.counts) (engine_at now later.worlds later.counts) log
logged laws run pool later lanes jobs out entry opened mid now b c cleanup log ready_at a told back switch ended ends asks =
    let h : IsNewRun run pool lanes opened b = begins_new a in
    let w : RunGoesOnWith h.start [] (run_lanes pool jobs b) (run_lanes later out c) opened mid = heard_more a h in
    let tells : TellsOfBoard h.start ([] ++ w.more) mid log = ends h.start ([] ++ w.more) h.sound (cleanup_is run pool lanes opened b cleanup h switch) w.running.under_way in
    record {
      begun = begun_beside h.start tells.olds;
      of_run = record { sources = h.of_run.sources; settings = h.of_run.settings; change = h.of_run.change; moment = h.of_run.moment; sizes = h.of_run.sizes };
      heard = [] ++ w.more;
      tells = tells.of_board;
      answers = subst (λ (told : List (Option MirrorMap)). ForMirror told (λ (m : MirrorMap). AgreesWhereKnown now m h.start.parts h.start.config.sources ([] ++ w.more))) h.from
          (heard_on mid now h.start.mirrors h.start.parts h.start.config.sources ([] ++ w.more) back w.running.under_way.heard.answers);
      faults = faults_told run pool later lanes jobs out opened mid b c log a asks;
      commits = λ settled.
          let still : IsTold now = told (was_told IsSynced entry settled) in
          subst (λ (olds : List Old). HasFinished run (begun_beside h.start olds) ([] ++ w.more) entry now log) (sym (tells.same (back still))) (finished h w (ready_at settled) still);
    }
  where
    finished : (h : IsNewRun run pool lanes opened b) (w : RunGoesOnWith h.start [] (run_lanes pool jobs b) (run_lanes later out c) opened mid) → IsOpen entry opened → IsTold now → HasFinished run (begun_of h.start) ([] ++ w.more) entry now log
    finished h w is tells =
        let e : HasCommittedAll run.together h.start ([] ++ w.more) (installed_now entry) opened mid now log =
        ended h.start ([] ++ w.more) (installed_now entry) opened (cleanup_is run pool lanes opened b cleanup h switch) (begun_over run pool later lanes jobs out entry opened mid b c is a h w) in
        record {
          opened = opened;
          opens = is.opens;
          read = is_read run pool lanes entry opened b is h;
          commits = e.commits;
          ran = e.ran;
          same = e.same;
          made = e.made;
          rests = told_as (IsAtRest (after_all (commits_of e.commits) (installed_now entry))) now (laws.leaves (commits_of e.commits) (installed_now entry) opened now e.made is.opens.rests) tells;
          aside = e.aside;
          gone = e.gone;
        }

-- a verdict for each source
pub verdicts_told : (run : Run) (pool later : Pool) (lanes : ℕ) (jobs out : JobsOut) (opened mid : List State) (b c : Board) (cleanup : Bool) (log : RunLog) → HasAsked run pool later lanes jobs out opened mid b c → run.settings.cleanup ≡ cleanup
    → EndsWithLog cleanup c mid log → length log.verdicts ≡ length run.plan.sources
verdicts_told run pool later lanes jobs out opened mid b c cleanup log a switch ends =
    let h : IsNewRun run pool lanes opened b = begins_new a in
    let w : RunGoesOnWith h.start [] (run_lanes pool jobs b) (run_lanes later out c) opened mid = heard_more a h in
    let tells : TellsOfBoard h.start ([] ++ w.more) mid log = ends h.start ([] ++ w.more) h.sound (cleanup_is run pool lanes opened b cleanup h switch) w.running.under_way in
    ap length tells.of_board.verdicts ∙ (verdicts_count h.start.config tells.olds ([] ++ w.more) tells.of_board.board tells.of_board.reached ∙ ap length h.of_run.sources)

-- ---- the methods

nothing_out : {M : Type 0} (others : List M) (lane : ℕ) (fetch : Fetch) → slice_get (map (λ (method : M). None) others) lane ≡ Some (Some fetch) → ⊥
nothing_out [] lane fetch at = absurd (cc)
nothing_out (method ∷ others) zero fetch at = absurd (cc)
nothing_out (method ∷ others) (suc lane) fetch at = nothing_out others lane fetch at

new_lanes : {M : Type 0} (world : M → Option MirrorMap) (faults : M → ℕ) (under : M → Option Fetch) (methods : List M) → 1 ≤ length methods
    → IsNewPool (record { worlds = map world methods; counts = map faults methods; outs = outs_at_start under methods; begins = [] })
new_lanes world faults under [] some = absurd (omega (arith, some))
new_lanes {M = M} world faults under (own ∷ others) some = record {
  worlds = ap suc (length-map others world ∙ sym (length-map others faults));
  outs = ap suc (length-map others (λ (method : M). None) ∙ sym (length-map others faults));
  some = omega arith;
  idle = λ lane fetch. nothing_out others lane fetch;
}

-- nothing was asked on lanes that were just started
pub new_pool : {M : Type 0} (world : M → Option MirrorMap) (faults : M → ℕ) (under : M → Option Fetch) (methods : List M) (pool : Pool) → 1 ≤ length methods → pool.worlds ≡ map world methods → pool.counts ≡ map faults methods
    → pool.outs ≡ outs_at_start under methods → IsNewPool pool
new_pool world faults under methods pool some worlds counts outs =
    let new = new_lanes world faults under methods some in
    record {
      worlds = ap length worlds ∙ (new.worlds ∙ sym (ap length counts));
      outs = ap length outs ∙ (new.outs ∙ sym (ap length counts));
      some = subst (λ (cs : List ℕ). 0 < length cs) (sym counts) new.some;
      idle = λ lane fetch at. new.idle lane fetch (ap (λ (os : List (Option Fetch)). slice_get os (suc lane)) (sym outs) ∙ at);
    }

-- the methods come back with their counts or higher ones
pub keeps_back : (pool later : Pool) (mirrors told : List (Option MirrorMap)) (counts last : List ℕ) (entry now : List State) → pool.worlds ≡ mirrors → pool.counts ≡ counts → KeepsLanes pool later → told ≡ later.worlds → NoneFell later.counts last
    → KeepsMethods (engine_at entry mirrors counts) (engine_at now told last)
keeps_back pool later mirrors told counts last entry now worlds was_counts keeps back fell = record {
  mirrors = back ∙ (keeps.worlds ∙ worlds);
  counts = subst (λ (cs : List ℕ). NoneFell cs last) was_counts (none_fell_trans pool.counts later.counts last keeps.counts fell);
}

-- so they do where nothing was done
pub keeps_same : (mirrors : List (Option MirrorMap)) (counts : List ℕ) (entry now : List State) → KeepsMethods (engine_at entry mirrors counts) (engine_at now mirrors counts)
keeps_same mirrors counts entry now = record { mirrors = refl; counts = none_fall counts }

log_back : (run : Run) (entry now : List State) (mirrors told back : List (Option MirrorMap)) (counts last more : List ℕ) (result : Result RunLog RunError) → NoneFell last more
    → IfOk result (LogIsTrue run (engine_at entry mirrors counts) (engine_at now told last)) → IfOk result (LogIsTrue run (engine_at entry mirrors counts) (engine_at now back more))
log_back run entry now mirrors told back counts last more (Err e) fell is = tt
log_back run entry now mirrors told back counts last more (Ok log) fell is = record {
  begun = is.begun;
  of_run = is.of_run;
  heard = is.heard;
  tells = is.tells;
  answers = is.answers;
  faults = faults_more counts last more log.asks fell is.faults;
  commits = is.commits;
}

-- what a run over lanes does, it does over their methods
pub runs_back : {D : Type 0} (d : Disks D) (run : Run) (old new : D) (pool later : Pool) (mirrors told : List (Option MirrorMap)) (counts more : List ℕ) (result : Result RunLog RunError) → pool.worlds ≡ mirrors → pool.counts ≡ counts
    → NoneFell later.counts more → RunsBetween d run old new (engine_at (d.trace old) pool.worlds pool.counts) (engine_at (d.trace new) later.worlds later.counts) result
    → RunsBetween d run old new (engine_at (d.trace old) mirrors counts) (engine_at (d.trace new) told more) result
runs_back d run old new pool later mirrors told counts more result worlds was_counts fell is =
    let so = subst (λ (ms : List (Option MirrorMap)). RunsBetween d run old new (engine_at (d.trace old) ms counts) (engine_at (d.trace new) later.worlds later.counts) result) worlds
    (subst (λ (cs : List ℕ). RunsBetween d run old new (engine_at (d.trace old) pool.worlds cs) (engine_at (d.trace new) later.worlds later.counts) result) was_counts is) in
    record {
      unchanged = so.unchanged;
      damage = so.damage;
      verdicts = so.verdicts;
      log = log_back run (d.trace old) (d.trace new) mirrors later.worlds told counts later.counts more result fell so.log;
      crash = record { stops = so.crash.stops; synced = so.crash.synced };
      dry = so.dry;
    }

-- ---- want of memory before anything was done

none_started : (place : Option ℕ) → RunFindsDamage place (Err NoMemory)
none_started None = λ at wrong. absurd (cc)
none_started (Some at) = inr (inr refl)

pub unstarted : {D : Type 0} (d : Disks D) (run : Run) (disk : D) (mirrors told : List (Option MirrorMap)) (counts last : List ℕ) (result : Result RunLog RunError) → IsErrAnd result (λ e. e ≡ NoMemory)
    → RunsBetween d run disk disk (engine_at (d.trace disk) mirrors counts) (engine_at (d.trace disk) told last) result
unstarted d run disk mirrors told counts last (Ok log) never = absurd never
unstarted d run disk mirrors told counts last (Err e) same = stopped_run d run disk disk mirrors told counts last (Err e) NoMemory same
    (stays_unopened NoMemory run (engine_at (d.trace disk) mirrors counts) (engine_at (d.trace disk) told last) (d.trace disk) (no_time (d.trace disk) (d.trace disk) (From Recovers (d.trace disk)) refl) (λ is. is) refl)
    (λ at is. refl)
    (λ tells. subst (λ (x : RunError). RunFindsDamage (damage_of (d.files disk)) (Err x)) (sym same) (none_started (damage_of (d.files disk))))
