-- Names of no source, and what a run makes of them.
use Rattle.std.proofs.Common.{◌≡◌, ◌∙◌, ⊎_elim, refl, sym, ap, subst, ℕ, Bool, true, false, List, [], ◌∷◌, map, All, Contains, Option, Some, None}
use Rattle.std.specs.Prelude.{if◌then◌else◌, is_some}
use Rattle.std.specs.List.{flat_map}
use Rattle.acq_base.specs.Plan.{IsPlanned, names_of}
use Rattle.acq_base.proofs.Lists.{first-or-rest}
use Rattle.acq_outside.specs.Disk.{Files, same_name, with_file}
use Rattle.board_model.specs.Runs.{Note}
use Rattle.commit_journal.specs.Changes.{DropFile, folder_step, folder_steps}
use Rattle.journal_model.specs.Names.{is_installed_name}
use Rattle.journal_model.proofs.Twice.{with_same}
use Rattle.update_model.specs.declared.log.RunLog.{RunLog}
use Rattle.board_model.proofs.Making.{none-in}
use Rattle.run_model.specs.Begun.{RunInput}
use Rattle.run_model.specs.Groups.{Group, SetOf, CleanUp, AreGroups, IsNewSet, all_groups, removed_in}
use Rattle.run_model.specs.Laws.{RunsCleanUp}
use Rattle.run_model.specs.Runs.{HasRun, RemovesLooseNames, cleans_up}
use Rattle.run_model.proofs.Carrying.{after_groups, all_in_turn, beside, untouched}
use Rattle.run_model.proofs.Loose.{Loose, loose_of}
use Rattle.run_model.proofs.Names.{in_plan}
use Rattle.run_model.proofs.Ready.{Below}

-- ---- a name that is dropped

drop_none : (drop : List ℕ) (lists : Files) (name : List ℕ) → lists name ≡ None → folder_step lists (DropFile drop) name ≡ None
drop_none drop lists name none = by (is_installed_name drop)
  where
    two : (t : Bool) → (if t then None else lists name) ≡ None
    two true = refl
    two false = none

    by : (t : Bool) → (if t then with_file lists drop None else lists) name ≡ None
    by true = two (same_name drop name)
    by false = none

drops_none : (names : List (List ℕ)) (lists : Files) (name : List ℕ) → lists name ≡ None → folder_steps (map DropFile names) lists name ≡ None
drops_none [] lists name none = none
drops_none (drop ∷ names) lists name none = drops_none names (folder_step lists (DropFile drop)) name (drop_none drop lists name none)

drop_here : (lists : Files) (name : List ℕ) → is_installed_name name ≡ true → folder_step lists (DropFile name) name ≡ None
drop_here lists name list = rw list (with_same lists name None name refl)

drops_gone : (names : List (List ℕ)) (lists : Files) (name : List ℕ) → is_installed_name name ≡ true → Contains names name → folder_steps (map DropFile names) lists name ≡ None
drops_gone [] lists name list is = absurd (none-in name is)
drops_gone (drop ∷ names) lists name list is = ⊎_elim
    (λ same. drops_none names (folder_step lists (DropFile drop)) name (subst (λ (d : List ℕ). folder_step lists (DropFile d) name ≡ None) (sym same) (drop_here lists name list)))
    (λ later. drops_gone names (folder_step lists (DropFile drop)) name list later)
    (first-or-rest drop names name is)

-- ---- groups in turn, under a name of no source

abbrev IsLoose : RunInput → List ℕ → Type 0
IsLoose begun name = Contains (flat_map names_of begun.config.sources) name → ⊥

stays_none : Below → (begun : RunInput) (heard : List Note) (groups : List Group) (lists : Files) (name : List ℕ) → All IsPlanned begun.config.sources → AreGroups begun heard groups → IsLoose begun name
    → lists name ≡ None → after_groups groups lists name ≡ None
stays_none below begun heard [] lists name planned are loose none = none
stays_none below begun heard (SetOf n changes ∷ groups) lists name planned are loose none =
    let new_set : IsNewSet begun heard n changes = are.0 in
    stays_none below begun heard groups (folder_steps changes lists) name planned are.1 loose
    (beside below begun heard n changes new_set lists name planned (λ within. loose (in_plan begun.config.sources n new_set.source name new_set.source_is within)) ∙ none)
stays_none below begun heard (CleanUp names ∷ groups) lists name planned are loose none =
    ap (λ (gs : List Group). after_groups gs (folder_steps (map DropFile names) lists) name) are.1 ∙ drops_none names lists name none

goes : Below → (begun : RunInput) (heard : List Note) (groups : List Group) (lists : Files) (name : List ℕ) → AreGroups begun heard groups → is_installed_name name ≡ true → Contains (removed_in groups) name
    → after_groups groups lists name ≡ None
goes below begun heard [] lists name are list removed = absurd (none-in name removed)
goes below begun heard (SetOf n changes ∷ groups) lists name are list removed = goes below begun heard groups (folder_steps changes lists) name are.1 list removed
goes below begun heard (CleanUp names ∷ groups) lists name are list removed =
    ap (λ (gs : List Group). after_groups gs (folder_steps (map DropFile names) lists) name) are.1 ∙ drops_gone names lists name list removed

pub stays_loose : Below → (begun : RunInput) (heard : List Note) (groups : List Group) (lists : Files) (name : List ℕ) → All IsPlanned begun.config.sources → AreGroups begun heard groups → IsLoose begun name
    → (Contains (removed_in groups) name → ⊥) → after_groups groups lists name ≡ lists name
stays_loose below begun heard groups lists name planned are loose stays =
    untouched below begun heard groups lists name planned are (λ m s among is within. loose (in_plan begun.config.sources m s name is within)) stays

-- ---- the clean-up

-- a log tells what its board does
pub cleans_told : {together : Bool} {begun : RunInput} {lists : Files} {log : RunLog} {commits : List (List Group)} → (run : HasRun together begun lists log commits)
    → cleans_up begun.config.settings run.board.verdicts ≡ cleans_up begun.config.settings log.verdicts
cleans_told {begun = begun} run = ap (λ (l : RunLog). cleans_up begun.config.settings l.verdicts) (sym run.told)

pub runs_clean_up : Below → RunsCleanUp
runs_clean_up below together begun lists log commits name begins run loose =
    ap (λ (after : Files). after name) (all_in_turn commits lists)
    ∙ one (cleans_up begun.config.settings run.board.verdicts) run.all.cleans
    ∙ ap (λ (c : Bool). if c then None else lists name) (cleans_told run)
  where
    groups : List Group
    groups = all_groups commits

    exists : (bytes : List ℕ) → lists name ≡ Some bytes → (t : Bool) → is_installed_name name ≡ t → Loose begun.config.sources lists (removed_in groups) → after_groups groups lists name ≡ None
    exists bytes is true list all = ⊎_elim
        (λ among. goes below begun run.heard groups lists name run.groups list among)
        (λ within. absurd (loose within))
        (all.all name (ap is_some is))
    exists bytes is false list all = let wrong : Some bytes ≡ None = sym is ∙ begins.alone name list in absurd (cc)

    two : (o : Option (List ℕ)) → lists name ≡ o → Loose begun.config.sources lists (removed_in groups) → after_groups groups lists name ≡ None
    two None is all = stays_none below begun run.heard groups lists name begins.planned run.groups loose is
    two (Some bytes) is all = exists bytes is (is_installed_name name) refl all

    one : (c : Bool) → RemovesLooseNames c begun.config.sources lists (removed_in groups) → after_groups groups lists name ≡ (if c then None else lists name)
    one true cleans = two (lists name) refl (loose_of below.loose begun.config.sources lists (removed_in groups) begins.alone cleans)
    one false none = stays_loose below begun run.heard groups lists name begins.planned run.groups loose
        (λ among. none-in name (subst (λ (ns : List (List ℕ)). Contains ns name) none among))
