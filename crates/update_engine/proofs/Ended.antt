-- The end of a run: the last commit, with the clean-up.
use Rattle.std.proofs.Common.{◌≡◌, ◌≢◌, ◌∙◌, inl, inr, refl, sym, ap, subst, arith, ℕ, suc, Bool, true, false, List, [], ◌∷◌, ◌++◌, length, map, Contains, Option, Some, None, IfSome}
use Rattle.std.specs.Prelude.{IsTrue, ◌&&◌, if◌then◌else◌, not}
use Rattle.std.specs.List.{flat_map, list_all, AllByRecursion as Each}
use Rattle.std.proofs.lemmas.List.{append-nil, append_assoc}
use Rattle.std.proofs.lemmas.List.Elements.{Contains-append_right}
use Rattle.board_model.proofs.Making.{none-in}
use Rattle.acq_base.specs.Plan.{names_of}
use Rattle.acq_base.specs.declared.plan.Source.{Source}
use Rattle.acq_outside.specs.Crash.{State, IsShown, reads}
use Rattle.acq_outside.specs.Disk.{Files}
use Rattle.acq_outside.specs.States.{IsTold, IsNow}
use Rattle.board_model.specs.Boards.{Board, is_finished, log_of}
use Rattle.board_model.specs.Runs.{Note}
use Rattle.board_model.specs.Slots.{Setup}
use Rattle.commit_journal.specs.Changes.{CanRecord, DropFile, Filled, IsNone, all_changed_names, filled, filled_all}
use Rattle.commit_journal.specs.Commits.{KeepsUnchangedFiles, ReadsAllGone}
use Rattle.commit_journal.specs.Runs.{Commit, CommitHasBegun, HasCommitted, CommitProgress}
use Rattle.commit_journal.specs.declared.changing.Change.{Change}
use Rattle.journal_model.specs.Names.{is_installed_name, journal, lock, partial}
use Rattle.journal_model.specs.Rest.{IsAtRest, IsSynced, part_bytes}
use Rattle.list_commits.specs.Changes.{changes_for, drops_for}
use Rattle.list_commits.specs.Loose.{AreLooseNames, IsLoose, NoneIsLoose, kept_of, removed_names}
use Rattle.list_commits.specs.Made.{IsCommitStopped, CommitsMade, NoCommitBegun, after_all, makes}
use Rattle.list_commits.specs.RecordLaws.{group_of, groups_of, names_of_group}
use Rattle.run_jobs.specs.declared.error.RunError.{RunError}
use Rattle.run_jobs.specs.declared.error.RunError.TheVariants.{BadJournal, DiskFault, NoMemory}
use Rattle.run_jobs.proofs.Agreed.{reached_told, run_agrees}
use Rattle.run_jobs.specs.Running.{RunStart, RunHasHeard, IsSoundBegun, IsUnderWay}
use Rattle.run_model.specs.Begun.{RunInput, ReadsPlanned}
use Rattle.run_model.specs.Groups.{Group, CleanUp, SetOf, AreGroups, AreRemovable, AreCommitGroups, all_groups, changes_in, commit_of, commits_of, removed_in, sources_in}
use Rattle.run_model.specs.Runs.{AreAllGroups, AreInPlanOrder, AreLooseLists, AreRising, RemovesLooseNames, MayBeStopped, MayBeCommitted, cleans_up, installed_by, is_kept}
use Rattle.update_model.specs.declared.log.RunLog.{RunLog}
use Rattle.update_model.specs.declared.settled.Verdict2.{Verdict2}
use Rattle.list_commits.proofs.Apart.{there}
use Rattle.list_commits.proofs.Gone.{all_kept}
use Rattle.run_model.proofs.Stopping.{sources_of_both}
use Rattle.run_jobs.proofs.Telling.{each_last}
use Rattle.update_engine.proofs.Known.{CommittingLaws}
use Rattle.update_engine.specs.Session.{HasCommittedAllBut, RunsOverLists, HasCommittedAll, HasUncommitted, CommitsAll, HasProgress, CommitsOneSource, IsNewSource, LeavesUncommitted, NewSource, StopsBetweenAsks, StopsWhileEnding, begun_of, cleans, groups_for, installed_in, names_to_remove, numbers_of, some_names, with_removed}
use Rattle.update_engine.proofs.Committing.{commits_last, have_shape, none_removed, nothing_begun, settled_made}
use Rattle.update_engine.proofs.LastCommit.{all_committed, groups_same}
use Rattle.update_engine.proofs.Beside.{aside_committed, aside_none, aside_on, list_more}
use Rattle.update_engine.proofs.CleanedUp.{loose_free, none_loose, part_free}
use Rattle.update_engine.proofs.Distinct.{are_gathered, gathered_for}
use Rattle.update_engine.specs.Run.{IsListOf, IsTaken, KeepsAside}

-- ---- where nothing more is begun

may_so_far : (together : Bool) (start : RunStart) (notes : List Note) (opened now : List State) (lists : Files) (b : Board) (picks : List NewSource) → (e : HasCommittedAllBut together start notes opened now b picks)
    → MayBeCommitted together (begun_of start) lists b (all_groups e.commits)
may_so_far false start notes opened now lists b picks e = inl (record { rest = numbers_of picks; order = e.order; no_clean_up = none_removed e.commits e.each })
may_so_far true start notes opened now lists b picks e = inl (ap all_groups (e.first refl))

turn_so_far : (together : Bool) (commits : List (List Group)) → (together ≡ true → commits ≡ []) → AreInPlanOrder together (all_groups commits)
turn_so_far false commits first = tt
turn_so_far true commits first = subst (λ (cs : List (List Group)). AreRising (sources_in (all_groups cs))) (sym (first refl)) tt

shape_so_far : (together : Bool) (commits : List (List Group)) → Each CommitsOneSource commits → (together ≡ true → commits ≡ []) → AreCommitGroups together commits
shape_so_far false commits each first = have_shape commits each
shape_so_far true commits each first = subst (AreCommitGroups true) (sym (first refl)) (omega arith, tt)

unfoldable has_so_far : (together : Bool) (start : RunStart) (notes : List Note) (opened now : List State) (lists : Files) (b : Board) (picks : List NewSource) → RunHasHeard start notes b now
    → (e : HasCommittedAllBut together start notes opened now b picks) → MayBeStopped together (begun_of start) lists e.commits
has_so_far together start notes opened now lists b picks heard e = record {
  heard = notes;
  board = b;
  reached = reached_told start notes b now heard e.told;
  groups = e.groups;
  may = may_so_far together start notes opened now lists b picks e;
  in_turn = turn_so_far together e.commits e.first;
  shape = shape_so_far together e.commits e.each e.first;
}

pub stops_before : CommittingLaws → (error : RunError) (together : Bool) (start : RunStart) (notes : List Note) (lists : Files) (opened mid now : List State) (b : Board) (picks : List NewSource) → RunHasHeard start notes b mid
    → HasCommittedAllBut together start notes opened mid b picks → NoCommitBegun mid now → (IsNow IsSynced mid → IsNow IsSynced now) → HasProgress error start together lists opened now
unfolding has_so_far
stops_before laws error together start notes lists opened mid now b picks heard e unbegun settled = record {
  commits = e.commits;
  acknowledged = length (commits_of e.commits);
  started = length (commits_of e.commits);
  progress = laws.unbegun (commits_of e.commits) opened mid now e.made unbegun;
  whole = λ dry. refl;
  has = has_so_far together start notes opened mid lists b picks heard e;
  agrees = λ told. run_agrees start notes mid heard e.told;
  synced = λ rest. settled (settled_made laws (commits_of e.commits) lists opened mid e.made rest);
}

-- ---- what the last commit holds

abbrev last_groups : (List ℕ → List ℕ) → List NewSource → Option (List (List ℕ)) → List Group
last_groups part [] None = []
last_groups part [] (Some names) = CleanUp names ∷ []
last_groups part (p ∷ picks) names = SetOf p.n (filled part (changes_for p.source p.settled)) ∷ last_groups part picks names

filled_drops : (part : List ℕ → List ℕ) (names : List (List ℕ)) → filled part (drops_for names) ≡ map DropFile names
filled_drops part [] = refl
filled_drops part (name ∷ names) = ap (λ (cs : List Filled). DropFile name ∷ cs) (filled_drops part names)

filled_last : (part : List ℕ → List ℕ) (picks : List NewSource) (names : Option (List (List ℕ))) → filled_all part (groups_for picks ++ group_of names) ≡ commit_of (last_groups part picks names)
unfolding filled_all
filled_last part [] None = refl
filled_last part [] (Some names) = ap (λ (cs : List Filled). cs ∷ []) (filled_drops part names)
filled_last part (p ∷ picks) names = ap (λ (cs : List (List Filled)). filled part (changes_for p.source p.settled) ∷ cs) (filled_last part picks names)

sources_last : (part : List ℕ → List ℕ) (picks : List NewSource) (names : Option (List (List ℕ))) → sources_in (last_groups part picks names) ≡ numbers_of picks
sources_last part [] None = refl
sources_last part [] (Some names) = refl
sources_last part (p ∷ picks) names = ap (λ (ns : List ℕ). p.n ∷ ns) (sources_last part picks names)

removed_join : (commits : List (List Group)) (hs : List Group) → Each CommitsOneSource commits → removed_in (all_groups commits ++ hs) ≡ removed_in hs
removed_join [] hs each = refl
removed_join (groups ∷ commits) hs each = subst (λ (gs : List Group). removed_in ((gs ++ all_groups commits) ++ hs) ≡ removed_in hs) (sym each.0.is) (removed_join commits hs each.1)

removed_last : (part : List ℕ → List ℕ) (picks : List NewSource) (names : Option (List (List ℕ))) → removed_in (last_groups part picks names) ≡ names_of_group names
removed_last part [] None = refl
removed_last part [] (Some names) = refl
removed_last part (p ∷ picks) names = removed_last part picks names

groups_join : (begun : RunInput) (heard : List Note) (commits : List (List Group)) (hs : List Group) → Each CommitsOneSource commits → AreGroups begun heard (all_groups commits) → AreGroups begun heard hs → AreGroups begun heard (all_groups commits ++ hs)
groups_join begun heard [] hs each are more = more
groups_join begun heard (groups ∷ commits) hs each are more =
    let first = each.0 in
    let rest : AreGroups begun heard (SetOf first.n first.changes ∷ all_groups commits) = subst (λ (gs : List Group). AreGroups begun heard (gs ++ all_groups commits)) first.is are in
    subst (λ (gs : List Group). AreGroups begun heard ((gs ++ all_groups commits) ++ hs)) (sym first.is) (rest.0, groups_join begun heard commits hs each.1 rest.1 more)

groups_last : (start : RunStart) (notes : List Note) (now : List State) (picks : List NewSource) (names : Option (List (List ℕ))) → IsTold now → Each (IsNewSource start notes now) picks → IfSome names (AreRemovable (begun_of start))
    → AreGroups (begun_of start) notes (last_groups (part_bytes now) picks names)
groups_last start notes now [] None told each none = tt
groups_last start notes now [] (Some names) told each none = (none, refl)
groups_last start notes now (p ∷ picks) names told each none =
    let is = each.0 in (
      record {
        source = p.source;
        source_is = is.source_is;
        settled = p.settled;
        settles = is.settles told;
        held = is.held;
        installs = is.installs;
        staged = part_bytes now;
        sums = is.sums told;
        are = refl;
      },
      groups_last start notes now picks names told each.1 none,
    )

loose_apart : (sources : List Source) (names : List (List ℕ)) → ((name : List ℕ) → Contains names name → IsLoose sources name) → (name : List ℕ) → Contains names name → Contains (flat_map names_of sources) name → ⊥
loose_apart sources names loose name is own = (loose name is).other (there lock (journal ∷ flat_map kept_of sources) name (there journal (flat_map kept_of sources) name (all_kept sources name own)))

of_none : (start : RunStart) (cleanup : Bool) (verdicts : List Verdict2) (loose : List (List ℕ)) → ((name : List ℕ) → Contains loose name → IsLoose start.config.sources name) → IfSome (names_to_remove cleanup verdicts loose) (AreRemovable (begun_of start))
of_none start cleanup verdicts loose are = one (cleans cleanup verdicts)
  where
    two : (names : List (List ℕ)) → names ≡ loose → IfSome (some_names names) (AreRemovable (begun_of start))
    two [] same = tt
    two (x ∷ xs) same = record {
      some = λ none. absurd (cc);
      apart = loose_apart start.config.sources (x ∷ xs) (λ name is. are name (subst (λ (ns : List (List ℕ)). Contains ns name) same is));
    }

    one : (t : Bool) → IfSome (if t then some_names loose else None) (AreRemovable (begun_of start))
    one true = two loose refl
    one false = tt

-- ---- the commits with it

abbrev with_last : List (List Group) → List Group → List (List Group)
with_last commits [] = commits
with_last commits (g ∷ gs) = commits ++ (g ∷ gs) ∷ []

all_more : (commits : List (List Group)) (hs : List Group) → all_groups (commits ++ hs ∷ []) ≡ all_groups commits ++ hs
all_more [] hs = append-nil hs
all_more (gs ∷ commits) hs = ap (λ (xs : List Group). gs ++ xs) (all_more commits hs) ∙ sym (append_assoc gs (all_groups commits) hs)

all_with : (commits : List (List Group)) (hs : List Group) → all_groups (with_last commits hs) ≡ all_groups commits ++ hs
all_with commits [] = sym (append-nil (all_groups commits))
all_with commits (g ∷ gs) = all_more commits (g ∷ gs)

shape_alone : (commits : List (List Group)) (part : List ℕ → List ℕ) (names : Option (List (List ℕ))) → Each CommitsOneSource commits → AreCommitGroups false (with_last commits (last_groups part [] names))
shape_alone commits part None each = have_shape commits each
shape_alone commits part (Some names) each = each_last (λ (groups : List Group). length groups ≡ 1) commits (CleanUp names ∷ []) (have_shape commits each) refl

shape_together : (hs : List Group) → AreCommitGroups true (with_last [] hs)
shape_together [] = (omega arith, tt)
shape_together (g ∷ gs) = (omega arith, ((λ none. absurd (cc)), tt))

shape_with : (together : Bool) (commits : List (List Group)) (part : List ℕ → List ℕ) (picks : List NewSource) (names : Option (List (List ℕ))) → Each CommitsOneSource commits → (together ≡ true → commits ≡ []) → (together ≡ false → picks ≡ [])
    → AreCommitGroups together (with_last commits (last_groups part picks names))
shape_with false commits part picks names each first alone = subst (λ (ps : List NewSource). AreCommitGroups false (with_last commits (last_groups part ps names))) (sym (alone refl)) (shape_alone commits part names each)
shape_with true commits part picks names each first alone = subst (λ (cs : List (List Group)). AreCommitGroups true (with_last cs (last_groups part picks names))) (sym (first refl)) (shape_together (last_groups part picks names))

turn_with : (together : Bool) (commits : List (List Group)) (all : List Group) (picks : List NewSource) → sources_in all ≡ sources_in (all_groups commits) ++ numbers_of picks → AreRising (numbers_of picks) → (together ≡ true → commits ≡ []) → AreInPlanOrder together all
turn_with false commits all picks are turn first = tt
turn_with true commits all picks are turn first =
    subst AreRising (sym (are ∙ ap (λ (cs : List (List Group)). sources_in (all_groups cs) ++ numbers_of picks) (first refl))) turn

group_some : (loose : List (List ℕ)) → names_of_group (some_names loose) ≡ loose
group_some [] = refl
group_some (x ∷ xs) = refl

cleans_one : (t : Bool) (sources : List Source) (lists : Files) (loose removed : List (List ℕ)) → AreLooseLists sources lists loose → removed ≡ names_of_group (if t then some_names loose else None) → RemovesLooseNames t sources lists removed
cleans_one true sources lists loose removed are is = subst (AreLooseLists sources lists) (sym (is ∙ group_some loose)) are
cleans_one false sources lists loose removed are is = is

-- ---- a run of which all but the last commit is made

pub record AtLast (together cleanup : Bool) (start : RunStart) (notes : List Note) (lists files : Files) (opened mid : List State) (c : Board) (picks : List NewSource) (loose : List (List ℕ)) : Type 0 where
  pub switch : start.config.settings.cleanup ≡ cleanup
  pub sound : IsSoundBegun start
  pub under : IsUnderWay start notes c mid
  pub each : Each (IsNewSource start notes mid) picks
  pub turn : AreRising (numbers_of picks)
  pub but : HasCommittedAllBut together start notes opened mid c picks
  pub finished : is_finished c ≡ true
  pub rest : IsNow (IsAtRest lists) opened
  pub over : ReadsPlanned (begun_of start) lists
  pub names : AreLooseNames files start.config.sources loose

read_at_rest : (folder files : Files) (tells : Bool) (now : List State) → IsTold now → IsShown tells files now → IsNow (IsAtRest folder) now → (name : List ℕ) → is_installed_name name ≡ true → files name ≡ folder name
read_at_rest folder files tells [] told shown rest name is = absurd told
read_at_rest folder files tells (s ∷ past) told shown rest name is = ap (λ (f : Files). f name) shown.1 ∙ rest.lists_are name is

pub tells_now : (tells : Bool) (files : Files) (now : List State) → IsTold now → IsShown tells files now → IsTrue tells
tells_now tells files [] told shown = absurd told
tells_now tells files (s ∷ past) told shown = shown.0

are_loose : CommittingLaws → (together cleanup : Bool) (start : RunStart) (notes : List Note) (lists files : Files) (opened mid : List State) (c : Board) (picks : List NewSource) (loose : List (List ℕ)) (tells : Bool)
    → IsShown tells files mid → AtLast together cleanup start notes lists files opened mid c picks loose → AreLooseLists start.config.sources lists loose
are_loose laws together cleanup start notes lists files opened mid c picks loose tells shown a =
    let e = a.but in
    laws.loose (begun_of start) lists files notes e.commits loose a.over e.groups (none_removed e.commits e.each) a.names
    (read_at_rest (after_all (commits_of e.commits) lists) files tells mid e.told shown (laws.leaves (commits_of e.commits) lists opened mid e.made a.rest))

abbrev last_of : {together : Bool} {start : RunStart} {notes : List Note} {opened mid : List State} {c : Board} {picks : List NewSource} → Bool → List (List ℕ) → HasCommittedAllBut together start notes opened mid c picks → List (List Group)
last_of {together} {start} {notes} {opened} {mid} {c} {picks} cleanup loose e = with_last e.commits (last_groups (part_bytes mid) picks (names_to_remove cleanup c.verdicts loose))

pub record AllOfRun (together cleanup : Bool) (start : RunStart) (notes : List Note) (lists : Files) (mid : List State) (c : Board) (picks : List NewSource) (loose : List (List ℕ)) (commits : List (List Group)) : Type 0 where
  pub groups : AreGroups (begun_of start) notes (all_groups commits)
  pub all : AreAllGroups (begun_of start) lists c (all_groups commits)
  pub in_turn : AreInPlanOrder together (all_groups commits)
  pub shape : AreCommitGroups together commits
  pub removed : removed_in (all_groups commits) ≡ names_of_group (names_to_remove cleanup c.verdicts loose)

all_of_run : CommittingLaws → (together cleanup : Bool) (start : RunStart) (notes : List Note) (lists files : Files) (opened mid : List State) (c : Board) (picks : List NewSource) (loose : List (List ℕ)) (tells : Bool)
    → IsShown tells files mid → (a : AtLast together cleanup start notes lists files opened mid c picks loose) → AllOfRun together cleanup start notes lists mid c picks loose (last_of cleanup loose a.but)
all_of_run laws together cleanup start notes lists files opened mid c picks loose tells shown a =
    let e = a.but in
    let part = part_bytes mid in
    let names = names_to_remove cleanup c.verdicts loose in
    let last = last_groups part picks names in
    let joined : all_groups (with_last e.commits last) ≡ all_groups e.commits ++ last = all_with e.commits last in
    let sources : sources_in (all_groups (with_last e.commits last)) ≡ sources_in (all_groups e.commits) ++ numbers_of picks =
    ap sources_in joined ∙ sources_of_both (all_groups e.commits) last ∙ ap (λ (ns : List ℕ). sources_in (all_groups e.commits) ++ ns) (sources_last part picks names) in
    let removed : removed_in (all_groups (with_last e.commits last)) ≡ names_of_group names = ap removed_in joined ∙ removed_join e.commits last e.each ∙ removed_last part picks names in
    let switch : cleans_up start.config.settings c.verdicts ≡ cleans cleanup c.verdicts = ap (λ (t : Bool). t && list_all (λ verdict. not (is_kept verdict)) c.verdicts) a.switch in
    record {
      groups = subst (AreGroups (begun_of start) notes) (sym joined) (groups_join (begun_of start) notes e.commits last e.each e.groups (groups_last start notes mid picks names e.told a.each (of_none start cleanup c.verdicts loose a.names.loose)));
      all = record {
        finished = a.finished;
        order = sources ∙ sym e.order;
        cleans = subst (λ (t : Bool). RemovesLooseNames t start.config.sources lists (removed_in (all_groups (with_last e.commits last)))) (sym switch)
            (cleans_one (cleans cleanup c.verdicts) start.config.sources lists loose (removed_in (all_groups (with_last e.commits last)))
            (are_loose laws together cleanup start notes lists files opened mid c picks loose tells shown a) removed);
      };
      in_turn = turn_with together e.commits (all_groups (with_last e.commits last)) picks sources a.turn e.first;
      shape = shape_with together e.commits part picks names e.each e.first e.alone;
      removed = removed;
    }

-- ---- it is made

none_filled : (part : List ℕ → List ℕ) (later : List (List Change)) → filled_all part later ≡ [] → later ≡ []
unfolding filled_all
none_filled part [] none = refl
none_filled part (group ∷ later) none = absurd (cc)

some_filled : (part : List ℕ → List ℕ) (later : List (List Change)) (x : List Filled) (xs : Commit) → filled_all part later ≡ x ∷ xs → later ≢ []
unfolding filled_all
some_filled part [] x xs some = absurd (cc)
some_filled part (group ∷ later) x xs some = λ none. absurd (cc)

made_with : (commits : List (List Group)) (hs : List Group) (later : List (List Change)) (opened mid now : List State) → CommitsMade (commits_of commits) opened mid → filled_all (part_bytes mid) later ≡ commit_of hs → (later ≡ [] → now ≡ mid)
    → (later ≢ [] → HasCommitted (filled_all (part_bytes mid) later) mid now) → CommitsMade (commits_of (with_last commits hs)) opened now
made_with commits [] later opened mid now made is none done = subst (CommitsMade (commits_of commits) opened) (sym (none (none_filled (part_bytes mid) later is))) made
made_with commits (g ∷ gs) later opened mid now made is none done =
    subst (λ (cs : List Commit). CommitsMade cs opened now) (sym (commits_last commits (g ∷ gs)))
    (makes made (commit_of (g ∷ gs)) (subst (λ (x : Commit). HasCommitted x mid now) is (done (some_filled (part_bytes mid) later (changes_in g) (commit_of gs) is))))

-- the groups that are handed to the journal
abbrev AreLater : Bool → Board → List NewSource → List (List ℕ) → List (List Change) → Type 0
AreLater cleanup c picks loose later = later ≡ groups_for picks ++ group_of (names_to_remove cleanup c.verdicts loose)

filled_later : (cleanup : Bool) (c : Board) (picks : List NewSource) (loose : List (List ℕ)) (later : List (List Change)) (part : List ℕ → List ℕ) → AreLater cleanup c picks loose later
    → filled_all part later ≡ commit_of (last_groups part picks (names_to_remove cleanup c.verdicts loose))
filled_later cleanup c picks loose later part is = ap (filled_all part) is ∙ filled_last part picks (names_to_remove cleanup c.verdicts loose)

-- ---- what lies beside the lists

-- the groups of the last commit, of the sources that are left and the clean-up
last_groups_are : (cleanup : Bool) (c : Board) (picks : List NewSource) (loose : List (List ℕ)) (later : List (List Change)) → AreLater cleanup c picks loose later → groups_of (gathered_for picks) (names_to_remove cleanup c.verdicts loose) ≡ later
last_groups_are cleanup c picks loose later is = groups_same picks (names_to_remove cleanup c.verdicts loose) ∙ sym is

-- what the end of a run takes, beside what was taken before
abbrev TakenAtLast : Bool → RunStart → Board → List ℕ → Type 0
TakenAtLast cleanup start c = IsTaken start.config.sources (installed_in c) (cleans cleanup c.verdicts)

-- names that don't go
none_goes : (start : RunStart) (cleanup : Bool) (verdicts : List Verdict2) (loose : List (List ℕ)) → ((name : List ℕ) → Contains loose name → IsLoose start.config.sources name) → (name : List ℕ)
    → ((cleans cleanup verdicts ≡ true) × IsLoose start.config.sources name → ⊥) → Contains (names_of_group (names_to_remove cleanup verdicts loose)) name → ⊥
none_goes start cleanup verdicts loose are name out = one (cleans cleanup verdicts) refl
  where
    one : (t : Bool) → cleans cleanup verdicts ≡ t → Contains (names_of_group (if t then some_names loose else None)) name → ⊥
    one true cleaned is = out (cleaned, are name (subst (λ (ns : List (List ℕ)). Contains ns name) (group_some loose) is))
    one false cleaned is = none-in name is

aside_last : CommittingLaws → (together cleanup : Bool) (start : RunStart) (notes : List Note) (lists files : Files) (opened mid now : List State) (c : Board) (picks : List NewSource) (loose : List (List ℕ)) (later : List (List Change))
    → AtLast together cleanup start notes lists files opened mid c picks loose → AreLater cleanup c picks loose later → CanRecord later → (later ≡ [] → now ≡ mid) → (later ≢ [] → KeepsUnchangedFiles later mid now)
    → KeepsAside start.config.sources (TakenAtLast cleanup start c) [] mid now
aside_last laws together cleanup start notes lists files opened mid now c picks loose later a is can none keeps = by later refl
  where
    free : (name : List ℕ) → (TakenAtLast cleanup start c name → ⊥) → IsNone (partial name) (all_changed_names later)
    free name out = subst (λ (gs : List (List Change)). IsNone (partial name) (all_changed_names gs)) (last_groups_are cleanup c picks loose later is)
        (part_free laws start notes mid picks (names_to_remove cleanup c.verdicts loose) name a.sound (are_gathered start notes mid picks a.sound a.each a.turn) a.each
        (λ l. out (inl (list_more start.config.sources (numbers_of picks) (installed_in c)
        (λ n found. subst (λ (ns : List ℕ). Contains ns n) (sym a.but.order) (Contains-append_right (sources_in (all_groups a.but.commits)) (numbers_of picks) n found)) name l)))
        (none_goes start cleanup c.verdicts loose a.names.loose (partial name) (λ goes. out (inr goes))))

    by : (l : List (List Change)) → later ≡ l → KeepsAside start.config.sources (TakenAtLast cleanup start c) [] mid now
    by [] same = aside_none start.config.sources (TakenAtLast cleanup start c) mid now (none same)
    by (g ∷ gs) same = aside_committed start.config.sources (TakenAtLast cleanup start c) later mid now can (keeps (λ empty. let wrong : g ∷ gs ≡ [] = sym same ∙ empty in absurd (cc))) free

gone_last : CommittingLaws → (together cleanup : Bool) (start : RunStart) (notes : List Note) (lists files : Files) (opened mid now : List State) (c : Board) (picks : List NewSource) (loose : List (List ℕ)) (tells : Bool) (later : List (List Change))
    → IsShown tells files mid → AtLast together cleanup start notes lists files opened mid c picks loose → AreLater cleanup c picks loose later → (later ≡ [] → now ≡ mid) → (later ≢ [] → KeepsUnchangedFiles later mid now)
    → (later ≢ [] → IsNow (ReadsAllGone later) now) → cleans cleanup c.verdicts ≡ true → IsNow (λ s. NoneIsLoose start.config.sources (reads s)) now
gone_last laws together cleanup start notes lists files opened mid now c picks loose tells later shown a is none keeps gone cleaned =
    let names : names_to_remove cleanup c.verdicts loose ≡ some_names loose = ap (λ (t : Bool). if t then some_names loose else None) cleaned in
    none_loose start.config.sources files loose (groups_for picks) later mid now tells shown a.but.told a.names
    (is ∙ ap (λ (ns : Option (List (List ℕ))). groups_for picks ++ group_of ns) names) none keeps gone
    (λ name apart out. subst (λ (gs : List (List Change)). IsNone name (all_changed_names gs)) (last_groups_are cleanup c picks loose later is)
    (loose_free laws start notes mid picks (names_to_remove cleanup c.verdicts loose) name a.sound (are_gathered start notes mid picks a.sound a.each a.turn) a.each apart
    (λ found. out (subst (λ (ns : List (List ℕ)). Contains ns name) (ap names_of_group names ∙ group_some loose) found))))

-- ---- its end

pub ended : CommittingLaws → (together cleanup : Bool) (start : RunStart) (notes : List Note) (lists files : Files) (opened old mid now : List State) (c : Board) (picks : List NewSource) (loose : List (List ℕ)) (tells : Bool)
    (later : List (List Change)) (log : RunLog) → IsShown tells files mid → AtLast together cleanup start notes lists files opened mid c picks loose → AreLater cleanup c picks loose later
    → log ≡ with_removed (log_of c) (names_to_remove cleanup c.verdicts loose) → (later ≡ [] → now ≡ mid) → (later ≢ [] → HasCommitted (filled_all (part_bytes mid) later) mid now) → CanRecord later
    → (later ≢ [] → KeepsUnchangedFiles later mid now) → (later ≢ [] → IsNow (ReadsAllGone later) now)
    → KeepsAside start.config.sources (IsListOf start.config.sources (installed_in c)) [] old mid → HasCommittedAll together start notes lists opened old now log
ended laws together cleanup start notes lists files opened old mid now c picks loose tells later log shown a is told none done can keeps gone before =
    let last = aside_last laws together cleanup start notes lists files opened mid now c picks loose later a is can none keeps in
    let all = all_of_run laws together cleanup start notes lists files opened mid c picks loose tells shown a in
    record {
      commits = last_of cleanup loose a.but;
      ran = record {
        heard = notes;
        board = c;
        reached = reached_told start notes c mid a.under.heard a.but.told;
        groups = all.groups;
        all = all.all;
        in_turn = all.in_turn;
        shape = all.shape;
        told = told ∙ ap (λ (ns : List (List ℕ)). record (log_of c) { removed = removed_names ns }) (sym all.removed);
      };
      same = refl;
      made = made_with a.but.commits (last_groups (part_bytes mid) picks (names_to_remove cleanup c.verdicts loose)) later opened mid now a.but.made (filled_later cleanup c picks loose later (part_bytes mid) is) none done;
      aside = subst (λ (l : RunLog). KeepsAside start.config.sources (IsTaken start.config.sources (installed_by l) (cleans_up start.config.settings l.verdicts)) notes opened now) (sym told)
          (taken_so (aside_on start.config.sources _ (TakenAtLast cleanup start c) notes opened mid now (λ name l. inl l) a.but.aside last));
      end = subst (λ (l : RunLog). KeepsAside start.config.sources (IsTaken start.config.sources (installed_by l) (cleans_up start.config.settings l.verdicts)) [] old now) (sym told)
          (taken_so (aside_on start.config.sources _ (TakenAtLast cleanup start c) [] old mid now (λ name l. inl l) before last));
      gone = λ cleaned. gone_last laws together cleanup start notes lists files opened mid now c picks loose tells later shown a is none keeps gone
          (sym (ap (λ (t : Bool). t && list_all (λ verdict. not (is_kept verdict)) c.verdicts) a.switch) ∙ subst (λ (l : RunLog). cleans_up start.config.settings l.verdicts ≡ true) told cleaned);
    }
  where
    taken_so : {ns : List Note} {was : List State} → KeepsAside start.config.sources (TakenAtLast cleanup start c) ns was now → KeepsAside start.config.sources (IsTaken start.config.sources (installed_in c) (cleans_up start.config.settings c.verdicts)) ns was now
    taken_so {ns} {was} aside = subst (λ (t : Bool). KeepsAside start.config.sources (IsTaken start.config.sources (installed_in c) (t && list_all (λ verdict. not (is_kept verdict)) c.verdicts)) ns was now) (sym a.switch) aside

-- ---- it stops within it

may_all : (together : Bool) (start : RunStart) (lists : Files) (c : Board) (groups : List Group) → AreAllGroups (begun_of start) lists c groups → MayBeCommitted together (begun_of start) lists c groups
may_all false start lists c groups all = inr all
may_all true start lists c groups all = inr all

unfoldable has_last : (together cleanup : Bool) (start : RunStart) (notes : List Note) (lists : Files) (mid : List State) (c : Board) (picks : List NewSource) (loose : List (List ℕ)) (commits : List (List Group))
    → RunHasHeard start notes c mid → IsTold mid → AllOfRun together cleanup start notes lists mid c picks loose commits → MayBeStopped together (begun_of start) lists commits
has_last together cleanup start notes lists mid c picks loose commits heard told all = record {
  heard = notes;
  board = c;
  reached = reached_told start notes c mid heard told;
  groups = all.groups;
  may = may_all together start lists c (all_groups commits) all.all;
  in_turn = all.in_turn;
  shape = all.shape;
}

moment_with : CommittingLaws → (commits : List (List Group)) (hs : List Group) (later : List (List Change)) (opened mid now : List State) → CommitsMade (commits_of commits) opened mid → filled_all (part_bytes mid) later ≡ commit_of hs → later ≢ []
    → CommitHasBegun (filled_all (part_bytes mid) later) mid now → CommitProgress (commits_of (with_last commits hs)) (length (commits_of commits)) (suc (length (commits_of commits))) opened now
moment_with laws commits [] later opened mid now made is some begun = absurd (some (none_filled (part_bytes mid) later is))
moment_with laws commits (g ∷ gs) later opened mid now made is some begun =
    subst (λ (cs : List Commit). CommitProgress cs (length (commits_of commits)) (suc (length (commits_of commits))) opened now) (sym (commits_last commits (g ∷ gs)))
    (laws.begun (commits_of commits) (commit_of (g ∷ gs)) opened mid now made (subst (λ (x : Commit). CommitHasBegun x mid now) is begun))

-- within the last commit
stops_in_last : CommittingLaws → (error : RunError) (together cleanup : Bool) (start : RunStart) (notes : List Note) (lists files : Files) (opened mid now : List State) (c : Board) (picks : List NewSource) (loose : List (List ℕ)) (tells : Bool)
    (later : List (List Change)) → IsShown tells files mid → AtLast together cleanup start notes lists files opened mid c picks loose → AreLater cleanup c picks loose later → later ≢ []
    → CommitHasBegun (filled_all (part_bytes mid) later) mid now → error ≢ NoMemory → (IsNow IsSynced mid → IsNow IsSynced now) → HasProgress error start together lists opened now
unfolding has_last
stops_in_last laws error together cleanup start notes lists files opened mid now c picks loose tells later shown a is some begun moist settled =
    let e = a.but in
    let all = all_of_run laws together cleanup start notes lists files opened mid c picks loose tells shown a in
    record {
      commits = last_of cleanup loose e;
      acknowledged = length (commits_of e.commits);
      started = suc (length (commits_of e.commits));
      progress = moment_with laws e.commits (last_groups (part_bytes mid) picks (names_to_remove cleanup c.verdicts loose)) later opened mid now e.made (filled_later cleanup c picks loose later (part_bytes mid) is) some begun;
      whole = λ dry. absurd (moist dry);
      has = has_last together cleanup start notes lists mid c picks loose (last_of cleanup loose e) a.under.heard e.told all;
      agrees = λ told. run_agrees start notes mid a.under.heard e.told;
      synced = λ rest. settled (settled_made laws (commits_of e.commits) lists opened mid e.made rest);
    }

pub stops_within : CommittingLaws → (error : RunError) (together cleanup : Bool) (start : RunStart) (notes : List Note) (lists files : Files) (opened mid now : List State) (c : Board) (picks : List NewSource) (loose : List (List ℕ)) (tells : Bool)
    (later : List (List Change)) → IsShown tells files mid → AtLast together cleanup start notes lists files opened mid c picks loose → AreLater cleanup c picks loose later → later ≢ []
    → IsCommitStopped (filled_all (part_bytes mid) later) mid now → (error ≡ NoMemory → now ≡ mid) → (IsNow IsSynced mid → IsNow IsSynced now) → HasProgress error start together lists opened now
stops_within laws error together cleanup start notes lists files opened mid now c picks loose tells later shown a is some (inl unbegun) dry settled =
    stops_before laws error together start notes lists opened mid now c picks a.under.heard a.but unbegun settled
stops_within laws NoMemory together cleanup start notes lists files opened mid now c picks loose tells later shown a is some (inr begun) dry settled =
    stops_before laws NoMemory together start notes lists opened mid now c picks a.under.heard a.but (nothing_begun mid now (dry refl)) settled
stops_within laws DiskFault together cleanup start notes lists files opened mid now c picks loose tells later shown a is some (inr begun) dry settled =
    stops_in_last laws DiskFault together cleanup start notes lists files opened mid now c picks loose tells later shown a is some begun (λ wrong. absurd (cc)) settled
stops_within laws (BadJournal at) together cleanup start notes lists files opened mid now c picks loose tells later shown a is some (inr begun) dry settled =
    stops_in_last laws (BadJournal at) together cleanup start notes lists files opened mid now c picks loose tells later shown a is some begun (λ wrong. absurd (cc)) settled

-- ---- at the end of a run

-- nothing was done
pub stops_first : CommittingLaws → (error : RunError) (together cleanup : Bool) (b : Board) (old now : List State) → now ≡ old → StopsWhileEnding error together cleanup b old now
stops_first laws error together cleanup b old now same = λ start notes lists opened switch h.
    subst (HasProgress error start together lists opened) (sym same)
    (stops_before laws error together start notes lists opened old old b [] h.under_way.heard (all_committed together start notes opened old b h.first h.sets) (nothing_begun old old refl) (λ is. is))

-- it stopped as its sets were committed one by one
pub stops_one_by_one : (error : RunError) (together cleanup : Bool) (b : Board) (old now : List State) → together ≡ false → StopsBetweenAsks error b old now → StopsWhileEnding error together cleanup b old now
stops_one_by_one error together cleanup b old now isnt stops = λ start notes lists opened switch h.
    subst (λ (t : Bool). HasProgress error start t lists opened now) (sym isnt) (stops start notes lists opened h.sound h.under_way h.sets.sets)

-- before the last commit
pub stops_between : CommittingLaws → (error : RunError) (together cleanup : Bool) (b c : Board) (old mid now : List State) (groups : List (List Change)) → LeavesUncommitted together b c old mid groups → now ≡ mid → StopsWhileEnding error together cleanup b old now
stops_between laws error together cleanup b c old mid now groups leaves same = λ start notes lists opened switch h.
    let l = leaves start notes h.sound h.under_way in
    subst (HasProgress error start together lists opened) (sym same)
    (stops_before laws error together start notes lists opened mid mid c l.picks l.under_way.heard (l.sets opened h.first h.sets) (nothing_begun mid mid refl) (λ is. is))

-- reads change nothing
pub leaves_on : (together : Bool) (b c : Board) (old mid now : List State) (groups : List (List Change)) → now ≡ mid → LeavesUncommitted together b c old mid groups → LeavesUncommitted together b c old now groups
leaves_on together b c old mid now groups still leaves = subst (λ (t : List State). LeavesUncommitted together b c old t groups) (sym still) leaves

pub shown_on : (tells : Bool) (files : Files) (mid now : List State) → now ≡ mid → IsShown tells files mid → IsShown tells files now
shown_on tells files mid now still shown = subst (IsShown tells files) (sym still) shown

at_last : (together cleanup : Bool) (start : RunStart) (notes : List Note) (lists files : Files) (opened old mid : List State) (b c : Board) (groups : List (List Change)) (loose : List (List ℕ)) (sources : List Source) (tells : Bool)
    → start.config.settings.cleanup ≡ cleanup → RunsOverLists together start notes lists opened old b → (l : HasUncommitted together start notes b old mid c groups) → is_finished c ≡ true → sources ≡ c.config.sources
    → (IsTrue tells → AreLooseNames files sources loose) → IsShown tells files mid → AtLast together cleanup start notes lists files opened mid c l.picks loose
at_last together cleanup start notes lists files opened old mid b c groups loose sources tells switch h l finished same names shown =
    let but = l.sets opened h.first h.sets in
    let own : sources ≡ start.config.sources = same ∙ ap (λ (x : Setup). x.sources) l.under_way.heard.config in
    record {
      switch = switch;
      sound = h.sound;
      under = l.under_way;
      each = l.each;
      turn = l.in_turn;
      but = but;
      finished = finished;
      rest = h.rest;
      over = h.over;
      names = subst (λ (ss : List Source). AreLooseNames files ss loose) own (names (tells_now tells files mid but.told shown));
    }

-- within it
pub stops_last : CommittingLaws → (error : RunError) (together cleanup : Bool) (b c : Board) (old mid now : List State) (files : Files) (tells : Bool) (groups later : List (List Change)) (loose : List (List ℕ)) (sources : List Source) (first : RunLog)
    → LeavesUncommitted together b c old mid groups → is_finished c ≡ true → sources ≡ c.config.sources → (IsTrue tells → AreLooseNames files sources loose) → IsShown tells files mid
    → later ≡ groups ++ group_of (names_to_remove cleanup first.verdicts loose) → first ≡ log_of c → later ≢ [] → IsCommitStopped (filled_all (part_bytes mid) later) mid now → (error ≡ NoMemory → now ≡ mid) → (IsNow IsSynced mid → IsNow IsSynced now) → StopsWhileEnding error together cleanup b old now
stops_last laws error together cleanup b c old mid now files tells groups later loose sources first leaves finished same names shown is told some stopped dry settled = λ start notes lists opened switch h.
    let l = leaves start notes h.sound h.under_way in
    let is_c : later ≡ groups ++ group_of (names_to_remove cleanup c.verdicts loose) = subst (λ (x : RunLog). later ≡ groups ++ group_of (names_to_remove cleanup x.verdicts loose)) told is in
    stops_within laws error together cleanup start notes lists files opened mid now c l.picks loose tells later shown
    (at_last together cleanup start notes lists files opened old mid b c groups loose sources tells switch h l finished same names shown)
    (is_c ∙ ap (λ (gs : List (List Change)). gs ++ group_of (names_to_remove cleanup c.verdicts loose)) l.are) some stopped dry settled

-- behind it
pub ends_all : CommittingLaws → (together cleanup : Bool) (b c : Board) (old mid now : List State) (files : Files) (tells : Bool) (groups later : List (List Change)) (loose : List (List ℕ)) (sources : List Source) (first log : RunLog)
    → LeavesUncommitted together b c old mid groups → is_finished c ≡ true → sources ≡ c.config.sources → (IsTrue tells → AreLooseNames files sources loose) → IsShown tells files mid
    → later ≡ groups ++ group_of (names_to_remove cleanup first.verdicts loose) → first ≡ log_of c → log ≡ with_removed first (names_to_remove cleanup first.verdicts loose)
    → (later ≡ [] → now ≡ mid) → (later ≢ [] → HasCommitted (filled_all (part_bytes mid) later) mid now) → CanRecord later → (later ≢ [] → KeepsUnchangedFiles later mid now) → (later ≢ [] → IsNow (ReadsAllGone later) now)
    → CommitsAll together cleanup b old now log
ends_all laws together cleanup b c old mid now files tells groups later loose sources first log leaves finished same names shown is told told_log none done can keeps gone = λ start notes lists opened switch h.
    let l = leaves start notes h.sound h.under_way in
    let is_c : later ≡ groups ++ group_of (names_to_remove cleanup c.verdicts loose) = subst (λ (x : RunLog). later ≡ groups ++ group_of (names_to_remove cleanup x.verdicts loose)) told is in
    ended laws together cleanup start notes lists files opened old mid now c l.picks loose tells later log shown
    (at_last together cleanup start notes lists files opened old mid b c groups loose sources tells switch h l finished same names shown)
    (is_c ∙ ap (λ (gs : List (List Change)). gs ++ group_of (names_to_remove cleanup c.verdicts loose)) l.are)
    (subst (λ (x : RunLog). log ≡ with_removed x (names_to_remove cleanup x.verdicts loose)) told told_log) none done can keeps gone l.aside
