-- A run from step to step.
use Rattle.std.proofs.Common.{◌≡◌, ◌∙◌, ℕ, ◌++◌, false, List, [], length, refl, sym, subst}
use Rattle.std.proofs.lemmas.List.{append-nil, append_assoc}
use Rattle.acq_outside.specs.Crash.{State}
use Rattle.acq_outside.specs.Disk.{Files}
use Rattle.acq_outside.specs.States.{IsTold, Since, IsNow}
use Rattle.board_model.specs.Boards.{Board}
use Rattle.board_model.specs.Runs.{Note}
use Rattle.journal_model.specs.Rest.{IsIdle, KeptAtRestSince}
use Rattle.commit_journal.proofs.Fills.{idle_on, rests_on}
use Rattle.list_commits.specs.Made.{rests}
use Rattle.run_jobs.specs.declared.error.RunError.{RunError}
use Rattle.run_jobs.proofs.Agreed.{run_agrees}
use Rattle.run_jobs.specs.Counting.{FaultsRise}
use Rattle.run_jobs.specs.Running.{RunStart, RunHasHeard, IsSoundBegun, IsUnderWay, SameBoard}
use Rattle.run_model.specs.Groups.{all_groups, commits_of}
use Rattle.update_model.specs.declared.log.Asked.{Asked}
use Rattle.run_jobs.proofs.Keeping.{told_back}
use Rattle.lane_pool.specs.Pool.{Pool}
use Rattle.lane_pool.proofs.Rows.{none_fell_trans}
use Rattle.lane_jobs.specs.Going.{IsRunningOver, JobsAddNotes, JobsGoOn, KeepsLanes, KeepsWholeFiles, MayAskOver, RunLanes, run_lanes}
use Rattle.lane_jobs.specs.JobsOut.{JobsOut}
use Rattle.update_engine.proofs.Known.{CommittingLaws}
use Rattle.update_engine.specs.Session.{KeepsRunGoing, RunGoesOn, HasCommittedBeside, HasMadeSets, HasProgress, IsMovedOrFilled, MayCommit, OnlySettles, StopsBetweenAsks, StopsWhileAsking, begun_of, installed_in}
use Rattle.update_engine.proofs.Beside.{aside_asked, aside_none, aside_on, beside_on, list_more}
use Rattle.update_engine.specs.Run.{KeepsAside}
use Rattle.update_engine.proofs.Committing.{has_begun, settled_made}
use Rattle.update_engine.proofs.Lists.{none_fall, told_on}

-- ---- between two jobs

pub goes_nowhere : (b : Board) (now : List State) → KeepsRunGoing b b now now
goes_nowhere b now = record {
  under_way = λ start notes sound under. under;
  made = λ start notes opened sound under sets. sets;
  aside = λ start notes sound under. aside_none start.config.sources _ now now refl;
  more = λ start notes sound under n is. is;
  out = λ start notes pool jobs sound under out. out;
}

pub goes_aside : (b c d : Board) (old mid now : List State) → KeepsRunGoing b c old mid → KeepsRunGoing c d mid now → KeepsRunGoing b d old now
goes_aside b c d old mid now one two = record {
  under_way = λ start notes sound under. two.under_way start notes sound (one.under_way start notes sound under);
  made = λ start notes opened sound under sets. two.made start notes opened sound (one.under_way start notes sound under) (one.made start notes opened sound under sets);
  aside = λ start notes sound under.
      let later = one.under_way start notes sound under in
      aside_on start.config.sources _ _ [] old mid now (list_more start.config.sources (installed_in c) (installed_in d) (two.more start notes sound later)) (one.aside start notes sound under) (two.aside start notes sound later);
  more = λ start notes sound under n is. two.more start notes sound (one.under_way start notes sound under) n (one.more start notes sound under n is);
  out = λ start notes pool jobs sound under out. two.out start notes pool jobs sound (one.under_way start notes sound under) (one.out start notes pool jobs sound under out);
}

pub stops_aside : (error : RunError) (b c : Board) (old mid now : List State) → KeepsRunGoing b c old mid → StopsBetweenAsks error c mid now → StopsBetweenAsks error b old now
stops_aside error b c old mid now one stops = λ start notes lists opened sound under sets. stops start notes lists opened sound (one.under_way start notes sound under) (one.made start notes opened sound under sets)

pub stands_aside : (b c : Board) (old now : List State) → MayCommit b old → KeepsRunGoing b c old now → IsNow IsIdle now → MayCommit c now
stands_aside b c old now stands goes idle = record {
  start = stands.start;
  notes = stands.notes;
  sound = stands.sound;
  under_way = goes.under_way stands.start stands.notes stands.sound stands.under_way;
  idle = idle;
}

pub stands_ready : (pool : Pool) (jobs : JobsOut) (b : Board) (now : List State) → MayAskOver (run_lanes pool jobs b) now → MayCommit b now
stands_ready pool jobs b now ready = record { start = ready.begun; notes = ready.notes; sound = ready.sound; under_way = ready.running.under_way; idle = ready.idle }

-- what the methods counted stands where sources are settled alone, and the jobs that are out stay
running_aside : (start : RunStart) (notes : List Note) (pool : Pool) (jobs : JobsOut) (b c : Board) (old now : List State) → IsSoundBegun start → KeepsRunGoing b c old now → OnlySettles b c → IsRunningOver start notes (run_lanes pool jobs b) old
    → IsRunningOver start notes (run_lanes pool jobs c) now
running_aside start notes pool jobs b c old now sound goes only running = record {
  under_way = goes.under_way start notes sound running.under_way;
  counted = record { sized = running.counted.sized; faults = subst (λ (asks : List Asked). FaultsRise start.counts pool.counts asks) (sym only.asks) running.counted.faults };
  methods = running.methods;
  out = goes.out start notes pool jobs sound running.under_way running.out;
}

pub ready_aside : (pool : Pool) (jobs : JobsOut) (b c : Board) (old now : List State) → MayAskOver (run_lanes pool jobs b) old → KeepsRunGoing b c old now → OnlySettles b c → IsNow IsIdle now → MayAskOver (run_lanes pool jobs c) now
ready_aside pool jobs b c old now ready goes only idle = record {
  begun = ready.begun;
  notes = ready.notes;
  sound = ready.sound;
  running = running_aside ready.begun ready.notes pool jobs b c old now ready.sound goes only ready.running;
  idle = idle;
}

-- ---- over jobs

with_more : {start : RunStart} {state : RunLanes} {now : List State} (notes more later : List Note) → IsRunningOver start ((notes ++ more) ++ later) state now → IsRunningOver start (notes ++ (more ++ later)) state now
with_more {start} {state} {now} notes more later running = subst (λ (ns : List Note). IsRunningOver start ns state now) (append_assoc notes more later) running

sets_more : (start : RunStart) {jobs : JobsOut} {opened now : List State} {b : Board} (notes more later : List Note) → HasCommittedBeside (begun_of start) jobs ((notes ++ more) ++ later) opened now b
    → HasCommittedBeside (begun_of start) jobs (notes ++ (more ++ later)) opened now b
sets_more start {jobs} {opened} {now} {b} notes more later sets = subst (λ (ns : List Note). HasCommittedBeside (begun_of start) jobs ns opened now b) (append_assoc notes more later) sets

pub far_nowhere : (state : RunLanes) (now : List State) → RunGoesOn state state now now
far_nowhere state now = λ start notes sound running. record {
  more = [];
  running = subst (λ (ns : List Note). IsRunningOver start ns state now) (sym (append-nil notes)) running;
  sets = λ opened sets. subst (λ (ns : List Note). HasCommittedBeside (begun_of start) state.jobs ns opened now state.board) (sym (append-nil notes)) sets;
}

-- the sets stand where sources are settled alone
sets_aside : (start : RunStart) (notes : List Note) (jobs : JobsOut) (opened : List State) (b c : Board) (old now : List State) → KeepsRunGoing b c old now → IsSoundBegun start → IsUnderWay start notes b old
    → HasCommittedBeside (begun_of start) jobs notes opened old b → HasCommittedBeside (begun_of start) jobs notes opened now c
sets_aside start notes jobs opened b c old now goes sound under sets = record {
  sets = goes.made start notes opened sound under sets.sets;
  aside = beside_on start.config.sources (installed_in b) (installed_in c) jobs notes opened old now (goes.more start notes sound under) sets.aside (goes.aside start notes sound under);
}

pub far_aside : (a : RunLanes) (pool : Pool) (jobs : JobsOut) (c d : Board) (old mid now : List State) → RunGoesOn a (run_lanes pool jobs c) old mid → KeepsRunGoing c d mid now → OnlySettles c d → RunGoesOn a (run_lanes pool jobs d) old now
far_aside a pool jobs c d old mid now far aside only = λ start notes sound running.
    let w = far start notes sound running in
    record {
      more = w.more;
      running = running_aside start (notes ++ w.more) pool jobs c d mid now sound aside only w.running;
      sets = λ opened sets. sets_aside start (notes ++ w.more) jobs opened c d mid now aside sound w.running.under_way (w.sets opened sets);
    }

-- the sets stand behind words of jobs
same_installed : (b c : Board) → SameBoard b c → installed_in c ≡ installed_in b
same_installed b c same = rw (same.settled, same.verdicts) refl

made_asked : CommittingLaws → (start : RunStart) (notes more : List Note) (opened : List State) (b c : Board) (old now : List State) → IsNow IsIdle old → Since old now (KeptAtRestSince old) → SameBoard b c
    → HasMadeSets (begun_of start) notes opened old b → HasMadeSets (begun_of start) (notes ++ more) opened now c
made_asked laws start notes more opened b c old now idle since same sets = record {
  told = told_on (KeptAtRestSince old) old now since sets.told;
  commits = sets.commits;
  made = rests sets.made idle since;
  each = sets.each;
  groups = laws.stay (begun_of start) notes more (all_groups sets.commits) sets.groups;
  order = rw (same.settled, same.verdicts) sets.order;
}

sets_asked : CommittingLaws → (start : RunStart) (notes : List Note) (opened : List State) (b c : RunLanes) (old now : List State) → IsNow IsIdle old → Since old now (KeptAtRestSince old) → KeepsWholeFiles old now → SameBoard b.board c.board
    → (v : JobsAddNotes start notes b c old now) → HasCommittedBeside (begun_of start) b.jobs notes opened old b.board → HasCommittedBeside (begun_of start) c.jobs (notes ++ v.more) opened now c.board
sets_asked laws start notes opened b c old now idle since whole same v sets =
    let told : IsTold now = told_on (KeptAtRestSince old) old now since sets.sets.told in
    record {
      sets = made_asked laws start notes v.more opened b.board c.board old now idle since same sets.sets;
      aside = subst (λ (ns : List ℕ). KeepsAside start.config.sources (IsMovedOrFilled start.config.sources ns c.jobs) (notes ++ v.more) opened now) (sym (same_installed b.board c.board same))
          (aside_asked start.config.sources (installed_in b.board) b.jobs c.jobs notes v.more opened old now whole (v.left told) (v.ended told) sets.aside);
    }

pub far_asked : CommittingLaws → (a b c : RunLanes) (old mid now : List State) → RunGoesOn a b old mid → IsNow IsIdle mid → Since mid now (KeptAtRestSince mid) → KeepsWholeFiles mid now → SameBoard b.board c.board → JobsGoOn b c mid now
    → RunGoesOn a c old now
far_asked laws a b c old mid now far idle since whole same goes = λ start notes sound running.
    let w = far start notes sound running in
    let v : JobsAddNotes start (notes ++ w.more) b c mid now = goes start (notes ++ w.more) sound w.running in
    record {
      more = w.more ++ v.more;
      running = with_more notes w.more v.more v.running;
      sets = λ opened sets. sets_more start notes w.more v.more (sets_asked laws start (notes ++ w.more) opened b c mid now idle since whole same v (w.sets opened sets));
    }

-- ---- the lanes

pub lanes_stay : (pool : Pool) → KeepsLanes pool pool
lanes_stay pool = record { worlds = refl; counts = none_fall pool.counts }

pub lanes_then : (a b c : Pool) → KeepsLanes a b → KeepsLanes b c → KeepsLanes a c
lanes_then a b c one two = record { worlds = two.worlds ∙ one.worlds; counts = none_fell_trans a.counts b.counts c.counts one.counts two.counts }

-- ---- where it stops

-- all sets so far are made
pub at_moment : CommittingLaws → (error : RunError) (start : RunStart) (notes : List Note) (lists : Files) (opened : List State) (b : Board) (old now : List State) → RunHasHeard start notes b old → (IsTold now → IsTold old) → HasMadeSets (begun_of start) notes opened now b
    → HasProgress error start false lists opened now
unfolding has_begun
at_moment laws error start notes lists opened b old now heard back sets = record {
  commits = sets.commits;
  acknowledged = length (commits_of sets.commits);
  started = length (commits_of sets.commits);
  progress = laws.made (commits_of sets.commits) opened now sets.made;
  whole = λ dry. refl;
  has = has_begun start notes b old lists sets.commits heard (back sets.told) sets.each sets.groups sets.order;
  agrees = λ told. run_agrees start notes old heard (back told);
  synced = λ rest. settled_made laws (commits_of sets.commits) lists opened now sets.made rest;
}

pub far_stops : (error : RunError) (a : RunLanes) (pool : Pool) (jobs : JobsOut) (c : Board) (old mid now : List State) → RunGoesOn a (run_lanes pool jobs c) old mid → StopsBetweenAsks error c mid now → StopsWhileAsking error a old now
far_stops error a pool jobs c old mid now far stops = λ start notes lists opened sound running sets.
    let w = far start notes sound running in
    let s = w.sets opened sets in
    stops start (notes ++ w.more) lists opened sound w.running.under_way s.sets

-- within a step
pub far_stops_asking : CommittingLaws → (error : RunError) (a : RunLanes) (pool : Pool) (jobs : JobsOut) (c : Board) (old mid now : List State) → RunGoesOn a (run_lanes pool jobs c) old mid → IsNow IsIdle mid → Since mid now (KeptAtRestSince mid)
    → StopsWhileAsking error a old now
far_stops_asking laws error a pool jobs c old mid now far idle since = λ start notes lists opened sound running sets.
    let w = far start notes sound running in
    let b = w.sets opened sets in
    let s = b.sets in
    at_moment laws error start (notes ++ w.more) lists opened c mid now w.running.under_way.heard (told_back (KeptAtRestSince mid) mid now since)
    (record { told = told_on (KeptAtRestSince mid) mid now since s.told; commits = s.commits; made = rests s.made idle since; each = s.each; groups = s.groups; order = s.order })

-- ---- what is at rest

-- where nothing is committed, what is at rest stays so
pub bare_round : (old begin mid now : List State) → Since old begin (KeptAtRestSince old) → mid ≡ begin → Since mid now (KeptAtRestSince mid) → Since old now (KeptAtRestSince old)
bare_round old begin mid now one same two = rests_on old begin now one (rw same at two)

pub bare_aside : (old begin now : List State) → Since old begin (KeptAtRestSince old) → now ≡ begin → Since old now (KeptAtRestSince old)
bare_aside old begin now one same = rw same one

-- the journal stays open for commits
pub idle_after : (old now : List State) → IsNow IsIdle old → Since old now (KeptAtRestSince old) → IsNow IsIdle now
idle_after old now idle since = idle_on old now since idle
