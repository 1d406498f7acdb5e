-- What groups of changes, one after another, make of the lists.
use Rattle.std.proofs.Common.{◌≡◌, ◌≢◌, ◌∙◌, inl, inr, refl, sym, ap, subst, ℕ, Bool, true, false, List, [], ◌∷◌, ◌++◌, map, All, Contains, Some, None}
use Rattle.std.specs.Prelude.{if◌then◌else◌, slice_get}
use Rattle.std.specs.List.{flat_map, AllByRecursion as Each}
use Rattle.std.proofs.lemmas.Bool.{cases_eq}
use Rattle.std.proofs.lemmas.List.Elements.{All-contains}
use Rattle.acq_base.specs.Plan.{IsPlanned, names_of}
use Rattle.acq_base.specs.declared.installed.Old.{Old}
use Rattle.acq_base.specs.declared.plan.Source.{Source}
use Rattle.acq_base.proofs.Lists.{first-or-rest}
use Rattle.update_model.proofs.Carried.{each-at}
use Rattle.acq_outside.specs.Disk.{Files, with_file}
use Rattle.board_model.specs.CallLaws.{AreOnce}
use Rattle.board_model.specs.Changes.{AreMade}
use Rattle.board_model.specs.Reached.{Reached}
use Rattle.board_model.specs.RunLaws.{IsSourceAt}
use Rattle.board_model.specs.Runs.{Note}
use Rattle.board_model.proofs.Making.{none-in}
use Rattle.board_model.proofs.Resting.{olds-there}
use Rattle.commit_journal.specs.Changes.{AreApart, Filled, DropFile, folder_step, folder_steps, after_commit}
use Rattle.journal_model.specs.Names.{is_installed_name}
use Rattle.journal_model.proofs.Twice.{with_other}
use Rattle.list_commits.specs.Made.{after_all}
use Rattle.list_commits.specs.SetLaws.{OwnsChanges}
use Rattle.list_commits.proofs.Apart.{here, there}
use Rattle.run_model.specs.Begun.{RunInput}
use Rattle.run_model.specs.Groups.{Group, SetOf, CleanUp, AreGroups, AreRemovable, IsNewSet, all_groups, changes_in, commit_of, commits_of, removed_in, sources_in}
use Rattle.run_model.proofs.Names.{SameUnder, get_in, in_plan, sources_apart}
use Rattle.run_model.proofs.Ready.{Below, WasReady, owns, put_names, was_ready}

-- ---- groups in turn

abbrev pub after_groups : List Group → Files → Files
after_groups [] lists = lists
after_groups (group ∷ groups) lists = after_groups groups (folder_steps (changes_in group) lists)

pub after_both : (first later : List Group) (lists : Files) → after_groups (first ++ later) lists ≡ after_groups later (after_groups first lists)
after_both [] later lists = refl
after_both (group ∷ first) later lists = after_both first later (folder_steps (changes_in group) lists)

pub stepped : (groups : List Group) (lists : Files) → after_commit (commit_of groups) lists ≡ after_groups groups lists
unfolding after_commit
stepped [] lists = refl
stepped (group ∷ groups) lists = stepped groups (folder_steps (changes_in group) lists)

pub all_in_turn : (commits : List (List Group)) (lists : Files) → after_all (commits_of commits) lists ≡ after_groups (all_groups commits) lists
all_in_turn [] lists = refl
all_in_turn (groups ∷ commits) lists =
    all_in_turn commits (after_commit (commit_of groups) lists)
    ∙ ap (after_groups (all_groups commits)) (stepped groups lists)
    ∙ sym (after_both groups (all_groups commits) lists)

-- ---- a source's changes

-- a source's new set, made on these lists
pub record Made (begun : RunInput) (heard : List Note) (n : ℕ) (changes : List Filled) (new_set : IsNewSet begun heard n changes) (lists : Files) : Type 0 where
  pub old : Old
  pub stands : IsSourceAt begun.config begun.olds n new_set.source old
  pub was : WasReady begun.config n new_set.source old new_set.settles.notes new_set.settled
  pub planned : IsPlanned new_set.source
  pub owns_them : OwnsChanges new_set.source new_set.settled
  pub made : AreMade new_set.source new_set.settled lists (folder_steps changes lists)

pub is_made : Below → (begun : RunInput) (heard : List Note) (n : ℕ) (changes : List Filled) (new_set : IsNewSet begun heard n changes) (lists : Files) → All IsPlanned begun.config.sources → Made begun heard n changes new_set lists
is_made below begun heard n changes new_set lists planned =
    let s = new_set.settles in
    let r : Reached begun.config begun.olds s.notes s.board = s.reached in
    let old = olds-there begun.config.sources begun.olds n new_set.source r.each new_set.source_is in
    let stands : IsSourceAt begun.config begun.olds n new_set.source old.0 = record { source_is = new_set.source_is; old_is = old.1 } in
    let was = was_ready below.stand begun.config begun.olds s.notes s.board n new_set.source old.0 new_set.settled r s.ready s.comes_to stands in
    let is_planned = All-contains IsPlanned begun.config.sources new_set.source planned (get_in begun.config.sources n new_set.source new_set.source_is) in
    let own = owns below begun.config n new_set.source old.0 s.notes new_set.settled was is_planned in
    record {
      old = old.0;
      stands = stands;
      was = was;
      planned = is_planned;
      owns_them = own;
      made = subst (λ (cs : List Filled). AreMade new_set.source new_set.settled lists (folder_steps cs lists)) (sym new_set.are)
          (below.make new_set.staged new_set.source new_set.settled lists (put_names below new_set.source is_planned) own new_set.sums);
    }

-- they change nothing but the source's own names
pub beside : Below → (begun : RunInput) (heard : List Note) (n : ℕ) (changes : List Filled) (new_set : IsNewSet begun heard n changes) (lists : Files) (name : List ℕ) → All IsPlanned begun.config.sources
    → (Contains (names_of new_set.source) name → ⊥) → folder_steps changes lists name ≡ lists name
beside below begun heard n changes new_set lists name planned never =
    let m = is_made below begun heard n changes new_set lists planned in
    m.made.others name (λ is. never (m.owns_them.own name is))

-- ---- a clean-up's changes

drop_beside : (drop : List ℕ) (lists : Files) (name : List ℕ) → drop ≢ name → folder_step lists (DropFile drop) name ≡ lists name
drop_beside drop lists name differ = by (is_installed_name drop)
  where
    by : (t : Bool) → (if t then with_file lists drop None else lists) name ≡ lists name
    by true = with_other lists drop None name differ
    by false = refl

pub drops_beside : (names : List (List ℕ)) (lists : Files) (name : List ℕ) → (Contains names name → ⊥) → folder_steps (map DropFile names) lists name ≡ lists name
drops_beside [] lists name never = refl
drops_beside (drop ∷ names) lists name never =
    drops_beside names (folder_step lists (DropFile drop)) name (λ is. never (there drop names name is))
    ∙ drop_beside drop lists name (λ same. never (here drop names name same))

-- ---- names that no group changes

removed_apart : (begun : RunInput) (heard : List Note) (groups : List Group) (name : List ℕ) → AreGroups begun heard groups → Contains (removed_in groups) name → Contains (flat_map names_of begun.config.sources) name → ⊥
removed_apart begun heard [] name are removed within = none-in name removed
removed_apart begun heard (SetOf n changes ∷ groups) name are removed within = removed_apart begun heard groups name are.1 removed within
removed_apart begun heard (CleanUp names ∷ groups) name are removed within = let none : AreRemovable begun names = are.0 in none.apart name removed within

pub untouched : Below → (begun : RunInput) (heard : List Note) (groups : List Group) (lists : Files) (name : List ℕ) → All IsPlanned begun.config.sources → AreGroups begun heard groups
    → ((m : ℕ) (s : Source) → Contains (sources_in groups) m → slice_get begun.config.sources m ≡ Some s → Contains (names_of s) name → ⊥) → (Contains (removed_in groups) name → ⊥)
    → after_groups groups lists name ≡ lists name
untouched below begun heard [] lists name planned are never stays = refl
untouched below begun heard (SetOf n changes ∷ groups) lists name planned are never stays =
    let new_set : IsNewSet begun heard n changes = are.0 in
    untouched below begun heard groups (folder_steps changes lists) name planned are.1 (λ m s is. never m s (there n (sources_in groups) m is)) stays
    ∙ beside below begun heard n changes new_set lists name planned (never n new_set.source (here n (sources_in groups) n refl) new_set.source_is)
untouched below begun heard (CleanUp names ∷ groups) lists name planned are never stays =
    ap (λ (gs : List Group). after_groups gs (folder_steps (map DropFile names) lists) name) are.1 ∙ drops_beside names lists name stays

-- ---- a source that has no group

pub kept : Below → (begun : RunInput) (heard : List Note) (groups : List Group) (lists : Files) (n : ℕ) (source : Source) → All IsPlanned begun.config.sources → AreApart (flat_map names_of begun.config.sources)
    → AreGroups begun heard groups → slice_get begun.config.sources n ≡ Some source → (Contains (sources_in groups) n → ⊥) → SameUnder source lists (after_groups groups lists)
kept below begun heard groups lists n source planned apart are is never = λ name within. untouched below begun heard groups lists name planned are
    (λ m s among is' within'. sources_apart begun.config.sources n m source s name apart is is' (λ same. never (subst (λ (k : ℕ). Contains (sources_in groups) k) (sym same) among)) within within')
    (λ removed. removed_apart begun heard groups name are removed (in_plan begun.config.sources n source name is within))

-- ---- a source that has one

pub record HasGroup (begun : RunInput) (heard : List Note) (n : ℕ) (source : Source) (lists after : Files) : Type 0 where
  pub changes : List Filled
  pub new_set : IsNewSet begun heard n changes
  pub between : Files
  pub before : SameUnder source lists between
  pub behind : SameUnder source (folder_steps changes between) after

never_again : (n : ℕ) (ns : List ℕ) → Each (λ m. m ≢ n) ns → Contains ns n → ⊥
never_again n ns others is = each-at (λ m. m ≢ n) ns n others is refl

pub has_group : Below → (begun : RunInput) (heard : List Note) (groups : List Group) (lists : Files) (n : ℕ) (source : Source) → All IsPlanned begun.config.sources → AreApart (flat_map names_of begun.config.sources)
    → AreGroups begun heard groups → AreOnce (sources_in groups) → slice_get begun.config.sources n ≡ Some source → Contains (sources_in groups) n → HasGroup begun heard n source lists (after_groups groups lists)
has_group below begun heard [] lists n source planned apart are once is among = absurd (none-in n among)
has_group below begun heard (CleanUp names ∷ groups) lists n source planned apart are once is among =
    absurd (none-in n (subst (λ (gs : List Group). Contains (sources_in gs) n) are.1 among))
has_group below begun heard (SetOf m changes ∷ groups) lists n source planned apart are once is among = elim (cases_eq m n) [
  | inl same ↦ record {
    changes = changes;
    new_set = subst (λ (k : ℕ). IsNewSet begun heard k changes) same are.0;
    between = lists;
    before = λ name within. refl;
    behind = kept below begun heard groups (folder_steps changes lists) n source planned apart are.1 is
        (λ later. never_again m (sources_in groups) once.0 (subst (λ (k : ℕ). Contains (sources_in groups) k) (sym same) later));
  }
  | inr differ ↦
      let rest = has_group below begun heard groups (folder_steps changes lists) n source planned apart are.1 once.1 is (later_in m n (sources_in groups) differ among) in
      let new_set : IsNewSet begun heard m changes = are.0 in
      record {
        changes = rest.changes;
        new_set = rest.new_set;
        between = rest.between;
        before = λ name within. rest.before name within
            ∙ beside below begun heard m changes new_set lists name planned (λ within'. sources_apart begun.config.sources n m source new_set.source name apart is new_set.source_is (λ same. differ (sym same)) within within');
        behind = rest.behind;
      }
]
  where
    later_in : (m n : ℕ) (ns : List ℕ) → m ≢ n → Contains (m ∷ ns) n → Contains ns n
    later_in m n ns differ among = elim (first-or-rest m ns n among) [ inl same ↦ absurd (differ same) | inr later ↦ later ]
