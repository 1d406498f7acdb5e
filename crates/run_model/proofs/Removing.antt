-- What a log tells as removed.
use Rattle.std.proofs.Common.{◌≡◌, inr, ◌∙◌, ⊎_elim, refl, sym, ap, subst, ℕ, Bool, true, false, List, [], ◌∷◌, map, Contains, None}
use Rattle.std.specs.Prelude.{filter, if◌then◌else◌, is_some, not}
use Rattle.std.specs.List.{flat_map}
use Rattle.std.proofs.lemmas.Bool.{not-true}
use Rattle.acq_base.specs.Plan.{names_of}
use Rattle.acq_base.specs.declared.uri.ListName.{ListName}
use Rattle.acq_outside.specs.Disk.{Files}
use Rattle.journal_model.specs.Names.{is_installed_name, is_partial}
use Rattle.journal_model.proofs.FolderNames.{not_partial}
use Rattle.journal_model.proofs.Views.{list_not_aside}
use Rattle.list_commits.specs.Loose.{removed_names}
use Rattle.list_commits.specs.Made.{after_all}
use Rattle.update_model.specs.declared.log.RunLog.{RunLog}
use Rattle.board_model.proofs.Making.{none-in}
use Rattle.list_commits.proofs.Sorting.{in_names, stays_in}
use Rattle.run_model.specs.Begun.{RunInput}
use Rattle.run_model.specs.Groups.{all_groups, commits_of, removed_in}
use Rattle.run_model.specs.Laws.{RunsHaveBegun, RunsTellRemoved}
use Rattle.run_model.specs.Runs.{RemovesLooseNames, MayBeCommitted, cleans_up}
use Rattle.run_model.proofs.Cleaning.{cleans_told, runs_clean_up}
use Rattle.run_model.proofs.Loose.{loose_of}
use Rattle.run_model.proofs.Ready.{Below}

-- ---- filtered names

told_names : (names : List (List ℕ)) → map (λ (n : ListName). n.0) (removed_names names) ≡ filter (λ name. not (is_partial name)) names
told_names names = again (filter (λ name. not (is_partial name)) names)
  where
    again : (xs : List (List ℕ)) → map (λ (n : ListName). n.0) (map (λ (x : List ℕ). record { 0 = x }) xs) ≡ xs
    again [] = refl
    again (x ∷ xs) = ap (λ ys. x ∷ ys) (again xs)

list_is_whole : (name : List ℕ) → is_installed_name name ≡ true → not (is_partial name) ≡ true
list_is_whole name list = ap not (not_partial name (list_not_aside name list))

-- ---- what is told

abbrev IsGone : RunInput → Files → Files → List ℕ → Type 0
IsGone begun lists after name = (is_some (lists name) ≡ true) × (after name ≡ None) × (Contains (flat_map names_of begun.config.sources) name → ⊥)

pub runs_tell_removed : Below → RunsTellRemoved
runs_tell_removed below together begun lists log commits name begins run = (tells, told)
  where
    removed : List (List ℕ)
    removed = removed_in (all_groups commits)

    told_is : map (λ (n : ListName). n.0) log.removed ≡ filter (λ n. not (is_partial n)) removed
    told_is = ap (λ (l : RunLog). map (λ (n : ListName). n.0) l.removed) run.told ∙ told_names removed

    left : (c : Bool) → cleans_up begun.config.settings run.board.verdicts ≡ c → (Contains (flat_map names_of begun.config.sources) name → ⊥) → after_all (commits_of commits) lists name ≡ (if c then None else lists name)
    left c is out = runs_clean_up below together begun lists log commits name begins run out ∙ ap (λ (b : Bool). if b then None else lists name) (sym (cleans_told run) ∙ is)

    from : (c : Bool) → cleans_up begun.config.settings run.board.verdicts ≡ c → RemovesLooseNames c begun.config.sources lists removed → Contains removed name → is_partial name ≡ false
        → IsGone begun lists (after_all (commits_of commits) lists) name
    from true is cleans among no_part =
        let loose = loose_of below.loose begun.config.sources lists removed begins.alone cleans in
        let out = loose.apart name among in
        (loose.exists name among (loose.listed name among no_part), left true is out, out)
    from false is none among no_part = absurd (none-in name (subst (λ (ns : List (List ℕ)). Contains ns name) none among))

    tells : Contains (map (λ (n : ListName). n.0) log.removed) name → IsGone begun lists (after_all (commits_of commits) lists) name
    tells is =
        let found = in_names (λ n. not (is_partial n)) removed name (subst (λ (ns : List (List ℕ)). Contains ns name) told_is is) in
        from (cleans_up begun.config.settings run.board.verdicts) refl run.all.cleans found.0 (not-true (is_partial name) found.1)

    listed : (t : Bool) → is_installed_name name ≡ t → is_some (lists name) ≡ true → is_installed_name name ≡ true
    listed true is some = is
    listed false is some = let wrong : false ≡ true = sym (ap is_some (begins.alone name is)) ∙ some in absurd (cc)

    to : (c : Bool) → cleans_up begun.config.settings run.board.verdicts ≡ c → RemovesLooseNames c begun.config.sources lists removed → IsGone begun lists (after_all (commits_of commits) lists) name → Contains removed name
    to true is cleans gone = ⊎_elim
        (λ among. among)
        (λ within. absurd (gone.2 within))
        ((loose_of below.loose begun.config.sources lists removed begins.alone cleans).all name gone.0)
    to false is none gone =
        let none_there : lists name ≡ None = sym (left false is gone.2) ∙ gone.1 in
        let wrong : false ≡ true = sym (ap is_some none_there) ∙ gone.0 in absurd (cc)

    told : IsGone begun lists (after_all (commits_of commits) lists) name → Contains (map (λ (n : ListName). n.0) log.removed) name
    told gone =
        subst (λ (ns : List (List ℕ)). Contains ns name) (sym told_is)
        (stays_in (λ n. not (is_partial n)) removed name (list_is_whole name (listed (is_installed_name name) refl gone.0))
        (to (cleans_up begun.config.settings run.board.verdicts) refl run.all.cleans gone))

-- ---- a run that has ended has begun

pub runs_have_begun : RunsHaveBegun
runs_have_begun together begun lists log commits run = record {
  heard = run.heard;
  board = run.board;
  reached = run.reached;
  groups = run.groups;
  may = may together;
  in_turn = run.in_turn;
  shape = run.shape;
}
  where
    may : (t : Bool) → MayBeCommitted t begun lists run.board (all_groups commits)
    may true = inr run.all
    may false = inr run.all
