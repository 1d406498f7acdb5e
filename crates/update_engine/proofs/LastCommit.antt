-- The end of a run.
use Rattle.std.proofs.Common.{◌≡◌, ◌∙◌, ◌<◌, ◌^◌, refl, sym, ap, subst, ℕ, Bool, true, false, List, [], ◌∷◌, ◌++◌, All, Contains, length, Option, None, IfSome}
use Rattle.std.specs.Prelude.{filter, if◌then◌else◌, slice_get}
use Rattle.std.specs.List.{AllByRecursion as Each}
use Rattle.std.proofs.lemmas.List.{append-nil}
use Rattle.std.proofs.lemmas.List.Elements.{Contains-append_left}
use Rattle.acq_base.specs.declared.plan.Source.{Source}
use Rattle.acq_outside.specs.Crash.{State}
use Rattle.acq_outside.specs.Disk.{IsName}
use Rattle.acq_outside.specs.States.{IsNow, IsTold}
use Rattle.board_model.specs.Boards.{Board, is_finished, log_of}
use Rattle.board_model.specs.Runs.{Note}
use Rattle.board_model.specs.Slots.{Setup}
use Rattle.commit_journal.specs.Changes.{AreAllStaged, CanRecord}
use Rattle.commit_journal.specs.declared.changing.Change.{Change}
use Rattle.journal_model.specs.Rest.{IsIdle}
use Rattle.list_commits.specs.Changes.{changes_for}
use Rattle.list_commits.specs.Loose.{AreSorted, IsLoose, removed_names}
use Rattle.list_commits.specs.RecordLaws.{MayBeRemoved, group_of, groups_of, names_of_group}
use Rattle.run_jobs.specs.Running.{RunStart, IsSoundBegun, IsUnderWay}
use Rattle.run_model.specs.Groups.{Group, all_groups, sources_in}
use Rattle.run_model.specs.Runs.{is_told_installed}
use Rattle.update_model.specs.declared.log.RunLog.{RunLog}
use Rattle.update_model.specs.declared.settled.Verdict2.{Verdict2}
use Rattle.update_engine.proofs.Known.{CommittingLaws}
use Rattle.update_engine.specs.Session.{EndsWithLog, GathersChanges, KeepsRunGoing, HasCommittedAllBut, HasCommittedSets, HasGatheredChanges, HasUncommitted, CommitsOneSource, MayCommit, LeavesUncommitted, NewSource, begun_of, cleans, groups_for, installed_in, names_to_remove, numbers_of, some_names, with_removed}
use Rattle.update_engine.proofs.Beside.{aside_fewer, aside_none, aside_on, list_more}
use Rattle.update_engine.specs.Run.{IsListOf}
use Rattle.update_engine.proofs.Distinct.{all_last, are_gathered, gathered_for}

-- ---- what is left

none_installed : (b : Board) → b.settled ≡ [] → installed_in b ≡ []
none_installed b none = ap (λ (ns : List ℕ). filter (λ n. is_told_installed (slice_get b.verdicts n)) ns) none

no_commits : (commits : List (List Group)) → Each CommitsOneSource commits → sources_in (all_groups commits) ≡ [] → commits ≡ []
no_commits [] each none = refl
no_commits (groups ∷ commits) each none =
    let some : each.0.n ∷ sources_in (all_groups commits) ≡ [] = subst (λ (gs : List Group). sources_in (gs ++ all_groups commits) ≡ []) each.0.is none in
    absurd (cc)

-- the sets are committed still where sources are settled alone
sets_kept : (start : RunStart) (notes : List Note) (opened : List State) (b c : Board) (old now : List State) → KeepsRunGoing b c old now → IsSoundBegun start → IsUnderWay start notes b old
    → HasCommittedSets (begun_of start) notes opened old b → HasCommittedSets (begun_of start) notes opened now c
sets_kept start notes opened b c old now goes sound under sets = record {
  sets = goes.made start notes opened sound under sets.sets;
  aside = aside_on start.config.sources (IsListOf start.config.sources (installed_in b)) (IsListOf start.config.sources (installed_in c)) notes opened old now
      (list_more start.config.sources (installed_in b) (installed_in c) (goes.more start notes sound under)) sets.aside (goes.aside start notes sound under);
}

-- where nothing is left, all sets are committed
pub all_committed : (together : Bool) (start : RunStart) (notes : List Note) (opened now : List State) (b : Board) → (together ≡ true → b.settled ≡ []) → HasCommittedSets (begun_of start) notes opened now b → HasCommittedAllBut together start notes opened now b []
all_committed together start notes opened now b none sets = record {
  told = sets.told;
  commits = sets.commits;
  made = sets.made;
  each = sets.each;
  groups = sets.groups;
  order = sym sets.order ∙ sym (append-nil (sources_in (all_groups sets.commits)));
  first = λ so. no_commits sets.commits sets.each (sets.order ∙ none_installed b (none so));
  alone = λ apart. refl;
  aside = sets.aside;
}

pub last_gathered : (together : Bool) (b c : Board) (old now : List State) (groups : List (List Change)) → together ≡ true → now ≡ old → GathersChanges b c groups → LeavesUncommitted together b c old now groups
last_gathered together b c old now groups is_so same gathers start notes sound under =
    let g : HasGatheredChanges start notes now b c groups = gathers start notes now sound (subst (λ (t : List State). IsUnderWay start notes b t) (sym same) under) in
    record {
      under_way = g.under_way;
      picks = g.picks;
      are = g.are;
      each = g.each;
      in_turn = g.in_turn;
      sets = λ opened none sets.
          let s = subst (λ (t : List State). HasCommittedSets (begun_of start) notes opened t b) (sym same) sets in
          let a = all_committed together start notes opened now b none s in
          record {
            told = a.told;
            commits = s.commits;
            made = s.made;
            each = s.each;
            groups = s.groups;
            order = g.order ∙ ap (λ (ns : List ℕ). ns ++ numbers_of g.picks) (sym s.order);
            first = λ so. no_commits s.commits s.each (s.order ∙ none_installed b (none so));
            alone = λ isnt. let wrong : true ≡ false = sym is_so ∙ isnt in absurd (cc);
            aside = aside_fewer start.config.sources _ _ notes opened now
                (list_more start.config.sources (installed_in b) (installed_in c) (λ m is. subst (λ (ns : List ℕ). Contains ns m) (sym g.order) (Contains-append_left (installed_in b) (numbers_of g.picks) m is))) s.aside;
          };
      aside = aside_none start.config.sources _ old now same;
    }

pub last_none : (together : Bool) (b c : Board) (old now : List State) (groups : List (List Change)) → together ≡ false → groups ≡ [] → KeepsRunGoing b c old now → LeavesUncommitted together b c old now groups
last_none together b c old now groups isnt empty goes start notes sound under = record {
  aside = goes.aside start notes sound under;
  under_way = goes.under_way start notes sound under;
  picks = [];
  are = empty;
  each = tt;
  in_turn = tt;
  sets = λ opened none sets. all_committed together start notes opened now c (λ so. let wrong : true ≡ false = sym so ∙ isnt in absurd (cc)) (sets_kept start notes opened b c old now goes sound under sets);
}

pub last_stands : (together : Bool) (b c : Board) (old now : List State) (groups : List (List Change)) → MayCommit b old → LeavesUncommitted together b c old now groups → IsNow IsIdle now → MayCommit c now
last_stands together b c old now groups stands leaves idle =
    let l = leaves stands.start stands.notes stands.sound stands.under_way in
    record { start = stands.start; notes = stands.notes; sound = stands.sound; under_way = l.under_way; idle = idle }

-- ---- it makes one commit with the clean-up

pub groups_same : (picks : List NewSource) (names : Option (List (List ℕ))) → groups_of (gathered_for picks) names ≡ groups_for picks ++ group_of names
groups_same [] names = refl
groups_same (p ∷ picks) names = ap (λ (gs : List (List Change)). changes_for p.source p.settled ∷ gs) (groups_same picks names)

may_go : (sources : List Source) (cleanup : Bool) (verdicts : List Verdict2) (loose : List (List ℕ)) → AreSorted loose → All (IsLoose sources) loose → All IsName loose → length loose < 2 ^ 31 → IfSome (names_to_remove cleanup verdicts loose) (MayBeRemoved sources)
may_go sources cleanup verdicts loose sorted are named few = one (cleans cleanup verdicts)
  where
    two : (names : List (List ℕ)) → names ≡ loose → IfSome (some_names names) (MayBeRemoved sources)
    two [] same = tt
    two (x ∷ xs) same = subst (MayBeRemoved sources) (sym same) (record { sorted = sorted; loose = are; named = named; few = few })

    one : (t : Bool) → IfSome (if t then some_names loose else None) (MayBeRemoved sources)
    one true = two loose refl
    one false = tt

pub can_last : CommittingLaws → (together : Bool) (b c : Board) (old now : List State) (groups later : List (List Change)) (cleanup : Bool) (verdicts : List Verdict2) (loose : List (List ℕ)) → MayCommit b old → LeavesUncommitted together b c old now groups
    → AreSorted loose → All (IsLoose c.config.sources) loose → All IsName loose → length loose < 2 ^ 31 → later ≡ groups ++ group_of (names_to_remove cleanup verdicts loose) → CanRecord later
can_last laws together b c old now groups later cleanup verdicts loose stands leaves sorted are named few is =
    let l = leaves stands.start stands.notes stands.sound stands.under_way in
    let names = names_to_remove cleanup verdicts loose in
    let all : groups_of (gathered_for l.picks) names ≡ later = groups_same l.picks names ∙ ap (λ (gs : List (List Change)). gs ++ group_of names) (sym l.are) ∙ sym is in
    let here = subst (λ (x : Setup). All (IsLoose x.sources) loose) l.under_way.heard.config are in
    subst CanRecord all (laws.can stands.start.config.sources (gathered_for l.picks) names (are_gathered stands.start stands.notes now l.picks stands.sound l.each l.in_turn)
    (may_go stands.start.config.sources cleanup verdicts loose sorted here named few))

staged_by : CommittingLaws → (together : Bool) (start : RunStart) (notes : List Note) (b : Board) (old now : List State) (c : Board) (groups : List (List Change)) (names : Option (List (List ℕ))) → (l : HasUncommitted together start notes b old now c groups)
    → IsNow (AreAllStaged (groups_of (gathered_for l.picks) names)) now
staged_by laws together start notes b old [] c groups names l = tt
staged_by laws together start notes b old (s ∷ past) c groups names l = laws.staged (gathered_for l.picks) names s (all_last start notes s past l.picks l.each)

pub staged_last : CommittingLaws → (together : Bool) (b c : Board) (old now : List State) (groups later : List (List Change)) (cleanup : Bool) (verdicts : List Verdict2) (loose : List (List ℕ)) → MayCommit b old → LeavesUncommitted together b c old now groups
    → later ≡ groups ++ group_of (names_to_remove cleanup verdicts loose) → IsNow (AreAllStaged later) now
staged_last laws together b c old now groups later cleanup verdicts loose stands leaves is =
    let l = leaves stands.start stands.notes stands.sound stands.under_way in
    let names = names_to_remove cleanup verdicts loose in
    let all : groups_of (gathered_for l.picks) names ≡ later = groups_same l.picks names ∙ ap (λ (gs : List (List Change)). gs ++ group_of names) (sym l.are) ∙ sym is in
    subst (λ (gs : List (List Change)). IsNow (AreAllStaged gs) now) all (staged_by laws together stands.start stands.notes b old now c groups names l)

-- ---- what is told

none_removed : (cleanup : Bool) (verdicts : List Verdict2) (loose : List (List ℕ)) → cleans cleanup verdicts ≡ false → removed_names (names_of_group (names_to_remove cleanup verdicts loose)) ≡ []
none_removed cleanup verdicts loose e = ap (λ (t : Bool). removed_names (names_of_group (if t then some_names loose else None))) e

pub ends_last : (together : Bool) (b c : Board) (old now : List State) (groups : List (List Change)) (cleanup : Bool) (loose : List (List ℕ)) (log : RunLog) → (IsTold old → IsTold now) → LeavesUncommitted together b c old now groups → is_finished c ≡ true
    → log ≡ with_removed (log_of c) (names_to_remove cleanup (log_of c).verdicts loose) → EndsWithLog cleanup b old log
ends_last together b c old now groups cleanup loose log on leaves finished is = subst (EndsWithLog cleanup b old) (sym is) (λ start notes sound switch under.
    let l = leaves start notes sound under in
    record {
      olds = l.under_way.heard.olds;
      same = λ told. l.under_way.heard.same (on told);
      of_board = record {
        board = c;
        reached = l.under_way.heard.reached;
        finished = finished;
        verdicts = refl;
        order = refl;
        asks = refl;
        kept = λ none. none_removed cleanup c.verdicts loose (subst (λ (t : Bool). cleans t c.verdicts ≡ false) switch none);
      };
    })

pub ends_told : (together : Bool) (b c : Board) (old now : List State) (groups : List (List Change)) (cleanup : Bool) (loose : List (List ℕ)) (first log : RunLog) → (IsTold old → IsTold now) → LeavesUncommitted together b c old now groups → is_finished c ≡ true → first ≡ log_of c
    → log ≡ with_removed first (names_to_remove cleanup first.verdicts loose) → EndsWithLog cleanup b old log
ends_told together b c old now groups cleanup loose first log on leaves finished told is =
    ends_last together b c old now groups cleanup loose log on leaves finished (subst (λ (l : RunLog). log ≡ with_removed l (names_to_remove cleanup l.verdicts loose)) told is)
