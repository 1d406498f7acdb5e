-- A run that may have been stopped: what each source has after its first commits.
use Rattle.std.proofs.Common.{◌≡◌, ◌≢◌, ◌⊎◌, ◌∙◌, inl, inr, ⊎_elim, refl, sym, ap, subst, ℕ, zero, suc, List, [], ◌∷◌, ◌++◌, take, drop, Contains, Some, append_assoc, Bool, true, false}
use Rattle.std.specs.Prelude.{slice_get}
use Rattle.std.specs.List.{flat_map, AllByRecursion as Each}
use Rattle.std.proofs.lemmas.Bool.{cases_eq}
use Rattle.acq_base.specs.Plan.{names_of}
use Rattle.acq_base.specs.declared.plan.Source.{Source}
use Rattle.acq_base.proofs.Lists.{first-or-rest}
use Rattle.acq_outside.specs.Crash.{State}
use Rattle.acq_outside.specs.Disk.{Files}
use Rattle.board_model.specs.Boards.{log_of}
use Rattle.board_model.specs.CallLaws.{AreOnce, SourcesAreSettledOnce}
use Rattle.board_model.specs.Runs.{Note}
use Rattle.commit_journal.specs.Changes.{Filled, folder_steps, after_commit}
use Rattle.commit_journal.specs.Runs.{Commit, CrashLeavesFirstCommits, CrashLeavesWholeNow, CrashLeavesWholeSince, CommitProgress, after_first}
use Rattle.update_model.specs.Next.{Keeps}
use Rattle.update_model.proofs.Carried.{each-at}
use Rattle.board_model.proofs.Making.{none-in}
use Rattle.acq_outside.proofs.Going.{since_map}
use Rattle.commit_journal.proofs.Running.{stands_as}
use Rattle.list_commits.proofs.Apart.{here, there, apart_of}
use Rattle.run_model.specs.Begun.{RunInput, ReadsPlanned}
use Rattle.run_model.specs.Coming.{HasNewSet, CrashLeavesWholeSets, SourcesAreWhole}
use Rattle.run_model.specs.Groups.{Group, SetOf, CleanUp, AreGroups, IsNewSet, CameToOnBoard, all_groups, commit_of, commits_of, sources_in}
use Rattle.run_model.specs.Laws.{CommitsLeaveWhole, CrashesLeaveWhole, GroupsMakeSets, GroupsStay}
use Rattle.run_model.specs.Runs.{AreAllGroups, MayBeStopped, MayBeCommitted, installed_by, is_told_installed}
use Rattle.run_model.proofs.Carrying.{HasGroup, after_groups, has_group, is_made, kept, stepped, after_both}
use Rattle.run_model.proofs.Finishing.{once_filtered}
use Rattle.run_model.proofs.Names.{SameUnder, holds_moved, installed_moved, keeps_same}
use Rattle.run_model.proofs.Ready.{Below}
use Rattle.run_model.proofs.Setting.{LeavesSet, leaves_set}

-- ---- groups stay groups

settled_stays : (begun : RunInput) (heard later : List Note) (n : ℕ) {settled : _} → CameToOnBoard begun heard n settled → CameToOnBoard begun (heard ++ later) n settled
settled_stays begun heard later n s = record {
  notes = s.notes;
  later = s.later ++ later;
  so_far = ap (λ (ns : List Note). ns ++ later) s.so_far ∙ append_assoc s.notes s.later later;
  board = s.board;
  reached = s.reached;
  ready = s.ready;
  comes_to = s.comes_to;
}

set_stays : (begun : RunInput) (heard later : List Note) (n : ℕ) {changes : _} → IsNewSet begun heard n changes → IsNewSet begun (heard ++ later) n changes
set_stays begun heard later n new_set = record {
  source = new_set.source;
  source_is = new_set.source_is;
  settled = new_set.settled;
  settles = settled_stays begun heard later n new_set.settles;
  held = new_set.held;
  installs = new_set.installs;
  staged = new_set.staged;
  sums = new_set.sums;
  are = new_set.are;
}

pub groups_stay : GroupsStay
groups_stay begun heard later [] are = tt
groups_stay begun heard later (SetOf n changes ∷ groups) are = (set_stays begun heard later n are.0, groups_stay begun heard later groups are.1)
groups_stay begun heard later (CleanUp names ∷ groups) are = are

-- ---- the first of the groups

nothing_before : (first later : List Group) → first ++ later ≡ [] → first ≡ []
nothing_before [] later is = refl
nothing_before (group ∷ first) later is = absurd (cc)

first_groups : (begun : RunInput) (heard : List Note) (first later : List Group) → AreGroups begun heard (first ++ later) → AreGroups begun heard first
first_groups begun heard [] later are = tt
first_groups begun heard (SetOf n changes ∷ first) later are = (are.0, first_groups begun heard first later are.1)
first_groups begun heard (CleanUp names ∷ first) later are = (are.0, nothing_before first later are.1)

pub sources_of_both : (first later : List Group) → sources_in (first ++ later) ≡ sources_in first ++ sources_in later
sources_of_both [] later = refl
sources_of_both (SetOf n changes ∷ first) later = ap (λ (ns : List ℕ). n ∷ ns) (sources_of_both first later)
sources_of_both (CleanUp names ∷ first) later = sources_of_both first later

each_first : (n : ℕ) (first later : List ℕ) → Each (λ m. m ≢ n) (first ++ later) → Each (λ m. m ≢ n) first
each_first n [] later others = tt
each_first n (m ∷ first) later others = (others.0, each_first n first later others.1)

once_first : (first later : List ℕ) → AreOnce (first ++ later) → AreOnce first
once_first [] later once = tt
once_first (n ∷ first) later once = (each_first n first later once.0, once_first first later once.1)

first_and_rest : (count : ℕ) (commits : List (List Group)) → all_groups commits ≡ all_groups (take count commits) ++ all_groups (drop count commits)
first_and_rest zero commits = refl
first_and_rest (suc count) [] = refl
first_and_rest (suc count) (groups ∷ commits) =
    ap (λ (gs : List Group). groups ++ gs) (first_and_rest count commits) ∙ sym (append_assoc groups (all_groups (take count commits)) (all_groups (drop count commits)))

first_in_turn : (count : ℕ) (commits : List (List Group)) (lists : Files) → after_first count (commits_of commits) lists ≡ after_groups (all_groups (take count commits)) lists
first_in_turn zero commits lists = refl
first_in_turn (suc count) [] lists = refl
first_in_turn (suc count) (groups ∷ commits) lists =
    first_in_turn count commits (after_commit (commit_of groups) lists)
    ∙ ap (after_groups (all_groups (take count commits))) (stepped groups lists)
    ∙ sym (after_both groups (all_groups (take count commits)) lists)

-- ---- each source

among : (n : ℕ) (ns : List ℕ) → Contains ns n ⊎ (Contains ns n → ⊥)
among n [] = inr (none-in n)
among n (m ∷ ns) = elim (cases_eq m n) [
  | inl same ↦ inl (here m ns n same)
  | inr differ ↦ elim (among n ns) [
    | inl later ↦ inl (there m ns n later)
    | inr never ↦ inr (λ is. ⊎_elim differ never (first-or-rest m ns n is))
  ]
]

group_makes : Below → (begun : RunInput) (heard : List Note) (n : ℕ) (changes : List Filled) (new_set : IsNewSet begun heard n changes) (lists before : Files) → ReadsPlanned begun lists → SameUnder new_set.source lists before
    → HasNewSet begun heard n new_set.source (folder_steps changes before)
group_makes below begun heard n changes new_set lists before begins same =
    let m = is_made below begun heard n changes new_set before begins.planned in
    let s : LeavesSet begun.config n new_set.source m.old new_set.settles.notes new_set.settled.verdict new_set.held before (folder_steps changes before) =
    leaves_set below begun.config n new_set.source m.old new_set.settles.notes new_set.settled new_set.held before (folder_steps changes before) m.was new_set.installs m.planned
    (installed_moved new_set.source m.old lists before same (begins.over.installed n new_set.source m.old m.stands)) m.made in
    record {
      set = s.set;
      came = record {
        former = m.old;
        stands = m.stands;
        notes = new_set.settles.notes;
        later = new_set.settles.later;
        so_far = new_set.settles.so_far;
        verdict = new_set.settled.verdict;
        comes = s.comes;
        is = s.is;
      };
      holds = s.leaves;
    }

pub groups_make_sets : Below → GroupsMakeSets
groups_make_sets below begun lists before heard n changes new_set begins keeps =
    group_makes below begun heard n changes new_set lists before begins (λ name is. each-at (λ name. before name ≡ lists name) (names_of new_set.source) name keeps is)

new_set_whole : Below → (begun : RunInput) (heard : List Note) (n : ℕ) (source : Source) (lists after : Files) → ReadsPlanned begun lists → slice_get begun.config.sources n ≡ Some source
    → HasGroup begun heard n source lists after → HasNewSet begun heard n source after
new_set_whole below begun heard n source lists after begins is group =
    let new_set : IsNewSet begun heard n group.changes = group.new_set in
    let both : Some new_set.source ≡ Some source = sym new_set.source_is ∙ is in
    let same : new_set.source ≡ source = cc in
    let made = group_makes below begun heard n group.changes new_set lists group.between begins (subst (λ (x : Source). SameUnder x lists group.between) (sym same) group.before) in
    subst (λ (x : Source). HasNewSet begun heard n x after) same (record {
      set = made.set;
      came = made.came;
      holds = holds_moved new_set.source made.set (folder_steps group.changes group.between) after
          (subst (λ (x : Source). SameUnder x (folder_steps group.changes group.between) after) (sym same) group.behind) made.holds;
    })

groups_leave_whole : Below → (begun : RunInput) (heard : List Note) (groups : List Group) (lists : Files) → ReadsPlanned begun lists → AreGroups begun heard groups → AreOnce (sources_in groups)
    → SourcesAreWhole begun heard lists (after_groups groups lists)
groups_leave_whole below begun heard groups lists begins are once n source is = elim (among n (sources_in groups)) [
  | inl there_is ↦ inr (new_set_whole below begun heard n source lists (after_groups groups lists) begins is
      (has_group below begun heard groups lists n source begins.planned (apart_of (flat_map names_of begun.config.sources) begins.apart) are once is there_is))
  | inr never ↦ inl (keeps_same source lists (after_groups groups lists)
      (kept below begun heard groups lists n source begins.planned (apart_of (flat_map names_of begun.config.sources) begins.apart) are is never))
]

-- a source has at most one of the groups that are begun
begun_once : SourcesAreSettledOnce → (together : Bool) (begun : RunInput) (lists : Files) (commits : List (List Group)) → MayBeStopped together begun lists commits → AreOnce (sources_in (all_groups commits))
begun_once law together begun lists commits run = one together run.may
  where
    settled : AreOnce (installed_by (log_of run.board))
    settled = once_filtered (λ n. is_told_installed (slice_get run.board.verdicts n)) run.board.settled (law begun.config begun.olds run.heard run.board run.reached).once

    all : AreAllGroups begun lists run.board (all_groups commits) → AreOnce (sources_in (all_groups commits))
    all are = subst AreOnce (sym are.order) settled

    one : (t : Bool) → MayBeCommitted t begun lists run.board (all_groups commits) → AreOnce (sources_in (all_groups commits))
    one false (inl first) = once_first (sources_in (all_groups commits)) first.rest (subst AreOnce first.order settled)
    one false (inr are) = all are
    one true (inl none) = subst (λ (gs : List Group). AreOnce (sources_in gs)) (sym none) tt
    one true (inr are) = all are

pub commits_leave_whole : Below → SourcesAreSettledOnce → CommitsLeaveWhole
commits_leave_whole below law together begun lists commits run count begins n source is =
    let first = all_groups (take count commits) in
    let later = all_groups (drop count commits) in
    let both : all_groups commits ≡ first ++ later = first_and_rest count commits in
    let are : AreGroups begun run.heard first = first_groups begun run.heard first later (subst (AreGroups begun run.heard) both run.groups) in
    let once : AreOnce (sources_in first) = once_first (sources_in first) (sources_in later) (subst AreOnce (ap sources_in both ∙ sources_of_both first later) (begun_once law together begun lists commits run)) in
    subst (λ (after : Files). Keeps source lists after ⊎ HasNewSet begun run.heard n source after) (sym (first_in_turn count commits lists))
    (groups_leave_whole below begun run.heard first lists begins are once n source is)

-- ---- a crash

pub crashes_leave_whole : Below → SourcesAreSettledOnce → ((commits : List Commit) (acknowledged started : ℕ) (old now : List State) → CommitProgress commits acknowledged started old now → CrashLeavesWholeNow commits acknowledged started old now)
    → ((commits : List Commit) (acknowledged started : ℕ) (old now : List State) → CommitProgress commits acknowledged started old now → CrashLeavesWholeSince commits started old now) → CrashesLeaveWhole
crashes_leave_whole below law whole_now whole_since together begun lists commits run acknowledged started opened now begins rest moment = (
  since_map (CrashLeavesFirstCommits (commits_of commits) lists 0 started) (CrashLeavesWholeSets begun run.heard lists) opened now (whole 0) (whole_since (commits_of commits) acknowledged started opened now moment lists rest),
  stands_as (CrashLeavesFirstCommits (commits_of commits) lists acknowledged started) (CrashLeavesWholeSets begun run.heard lists) now (whole acknowledged)
      (whole_now (commits_of commits) acknowledged started opened now moment lists rest),
)
  where
    whole : (least : ℕ) (s : State) → CrashLeavesFirstCommits (commits_of commits) lists least started s → CrashLeavesWholeSets begun run.heard lists s
    whole least s leaves image is =
        let left = leaves image is in
        record { after = after_first left.count (commits_of commits) lists; is = left.is; sources = commits_leave_whole below law together begun lists commits run left.count begins }
