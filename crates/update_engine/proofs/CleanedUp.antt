-- Behind the last commit of a run: what lies beside the lists stays, and the names of no source are gone.
use Rattle.std.proofs.Common.{◌≡◌, ◌≢◌, ◌⊎◌, ◌∙◌, inl, inr, ⊎_elim, refl, sym, ap, subst, ℕ, suc, Bool, true, false, All, List, [], ◌∷◌, ◌++◌, Contains, Option, Some, None}
use Rattle.std.specs.Prelude.{is_some, slice_get}
use Rattle.std.specs.List.{flat_map, AllByRecursion as Each}
use Rattle.std.proofs.lemmas.List.{append-nil}
use Rattle.acq_base.specs.Plan.{IsPlanned, names_of}
use Rattle.acq_base.specs.declared.plan.Source.{Source}
use Rattle.acq_base.proofs.Lists.{first-or-rest}
use Rattle.acq_outside.specs.Crash.{State, IsShown, reads}
use Rattle.acq_outside.specs.Disk.{Files}
use Rattle.acq_outside.specs.States.{IsTold, IsNow}
use Rattle.board_bounds.proofs.Walking.{at_all}
use Rattle.board_model.proofs.Making.{none-in}
use Rattle.board_model.specs.Runs.{Note}
use Rattle.commit_journal.specs.Changes.{IsNone, all_changed_names, all_changes}
use Rattle.commit_journal.specs.Commits.{AreGone, KeepsUnchangedFiles, ReadsAllGone}
use Rattle.commit_journal.specs.declared.changing.Change.{Change}
use Rattle.journal_model.proofs.Views.{partial_one}
use Rattle.journal_model.specs.Names.{journal, lock, partial}
use Rattle.list_commits.proofs.Apart.{here, there}
use Rattle.list_commits.proofs.Gone.{all_kept, parts_kept}
use Rattle.list_commits.specs.Changes.{drops_for}
use Rattle.list_commits.specs.Loose.{AreLooseNames, IsLoose, NoneIsLoose, kept_of}
use Rattle.list_commits.specs.RecordLaws.{AreGathered, group_of, groups_of, names_gathered, names_of_group}
use Rattle.run_jobs.specs.Running.{RunStart, IsSoundBegun}
use Rattle.run_model.proofs.Names.{in_plan}
use Rattle.run_jobs.proofs.Lists.{read_alike}
use Rattle.update_engine.proofs.Beside.{gone_behind}
use Rattle.update_engine.proofs.Distinct.{either, gathered_for}
use Rattle.update_engine.proofs.Known.{CommittingLaws}
use Rattle.update_engine.specs.Run.{IsListOf}
use Rattle.update_engine.specs.Session.{IsNewSource, NewSource, numbers_of, some_names}

-- ---- what the clean-up removes

dropped : (names : List (List ℕ)) (files : Files) (name : List ℕ) → AreGone (drops_for names) files → Contains names name → files name ≡ None
dropped [] files name gone is = absurd (none-in name is)
dropped (x ∷ names) files name gone is = ⊎_elim (λ same. subst (λ (n : List ℕ). files n ≡ None) same gone.0) (dropped names files name gone.1) (first-or-rest x names name is)

last_gone : (groups : List (List Change)) (last : List Change) (files : Files) → AreGone (all_changes (groups ++ last ∷ [])) files → AreGone last files
last_gone [] last files gone = subst (λ (cs : List Change). AreGone cs files) (append-nil last) gone
last_gone (g ∷ groups) last files gone = last_gone groups last files (gone_behind g (all_changes (groups ++ last ∷ [])) files gone)

some_groups : (groups : List (List Change)) (last : List Change) → groups ++ last ∷ [] ≢ []
some_groups [] last none = absurd (cc)
some_groups (g ∷ groups) last none = absurd (cc)

-- a name of no source is among those that were found, or has no file
there_or_none : (files : Files) (sources : List Source) (loose : List (List ℕ)) (name : List ℕ) → AreLooseNames files sources loose → IsLoose sources name → Contains loose name ⊎ (files name ≡ None)
there_or_none files sources loose name are is = by (files name) refl
  where
    by : (o : Option (List ℕ)) → files name ≡ o → Contains loose name ⊎ (files name ≡ None)
    by None e = inr e
    by (Some bytes) e = ⊎_elim inl
        (λ kept. absurd (⊎_elim is.other (λ out. let wrong : true ≡ false = sym is.inside ∙ out in absurd (cc)) kept))
        (are.all name (ap is_some e))

-- the lists on their way of no source, and the lists, are gone
pub none_loose : (sources : List Source) (files : Files) (loose : List (List ℕ)) (groups later : List (List Change)) (mid now : List State) (tells : Bool) → IsShown tells files mid → IsTold mid → AreLooseNames files sources loose
    → later ≡ groups ++ group_of (some_names loose) → (later ≡ [] → now ≡ mid) → (later ≢ [] → KeepsUnchangedFiles later mid now) → (later ≢ [] → IsNow (ReadsAllGone later) now)
    → ((name : List ℕ) → IsLoose sources name → (Contains loose name → ⊥) → IsNone name (all_changed_names later)) → IsNow (λ s. NoneIsLoose sources (reads s)) now
none_loose sources files loose groups later [] now tells shown told are is none keeps gone free = absurd told
none_loose sources files loose groups later (m ∷ past) [] tells shown told are is none keeps gone free = tt
none_loose sources files loose groups later (m ∷ past) (s ∷ more) tells shown told are is none keeps gone free = λ name apart. ⊎_elim (among name loose is) (absent name apart) (there_or_none files sources loose name are apart)
  where
    among : (name : List ℕ) (names : List (List ℕ)) → later ≡ groups ++ group_of (some_names names) → Contains names name → reads s name ≡ None
    among name [] is found = absurd (none-in name found)
    among name (x ∷ names) is found =
        let some : later ≢ [] = λ empty. some_groups groups (drops_for (x ∷ names)) (sym is ∙ empty) in
        dropped (x ∷ names) (reads s) name (last_gone groups (drops_for (x ∷ names)) (reads s) (subst (λ (gs : List (List Change)). AreGone (all_changes gs) (reads s)) is (gone some))) found

    as_before : (name : List ℕ) → files name ≡ None → IsLoose sources name → (l : List (List Change)) → later ≡ l → reads s name ≡ reads m name
    as_before name e apart [] same = subst (λ (t : List State). IsNow (λ (x : State). reads x name ≡ reads m name) t) (sym (none same)) refl
    as_before name e apart (g ∷ gs) same = read_alike m s name (keeps (λ empty. let wrong : g ∷ gs ≡ [] = sym same ∙ empty in absurd (cc)) name
        (λ is. apart.other (there lock (journal ∷ flat_map kept_of sources) name (here journal (flat_map kept_of sources) name (sym is))))
        (free name apart (λ found. let wrong : true ≡ false = sym (are.there name found) ∙ ap is_some e in absurd (cc))))

    absent : (name : List ℕ) → IsLoose sources name → files name ≡ None → reads s name ≡ None
    absent name apart e = as_before name e apart later refl ∙ (ap (λ (f : Files). f name) (sym shown.1) ∙ e)

-- ---- which names the last commit leaves alone

-- a name that a plan's sources have is that of none on its way
in_source : (sources : List Source) (name : List ℕ) → Contains (flat_map names_of sources) name → (n : ℕ) × (source : Source) × (slice_get sources n ≡ Some source) × Contains (names_of source) name
in_source [] name is = absurd (none-in name is)
in_source (source ∷ sources) name is = ⊎_elim
    (λ own. (0, source, refl, own))
    (λ later. let found = in_source sources name later in (suc found.0, found.1, found.2, found.3))
    (either (names_of source) (flat_map names_of sources) name is)

not_planned : CommittingLaws → (sources : List Source) (name : List ℕ) → All IsPlanned sources → Contains (flat_map names_of sources) (partial name) → ⊥
not_planned laws sources name planned is =
    let found = in_source sources (partial name) is in
    laws.other_names found.1 (at_all IsPlanned sources found.0 found.1 planned found.2) (partial name) name found.3 refl

-- a list that is on none of these sources' way
not_picked : (start : RunStart) (notes : List Note) (now : List State) (picks : List NewSource) (name : List ℕ) → Each (IsNewSource start notes now) picks → (IsListOf start.config.sources (numbers_of picks) name → ⊥)
    → Contains (names_gathered (gathered_for picks)) name → ⊥
not_picked start notes now [] name each out is = none-in name is
not_picked start notes now (p ∷ picks) name each out is = ⊎_elim
    (λ first. out (record { n = p.n; source = p.source; at = each.0.source_is; own = first; among = here p.n (numbers_of picks) p.n refl }))
    (not_picked start notes now picks name each.1 (λ l. out (record { n = l.n; source = l.source; at = l.at; own = l.own; among = there p.n (numbers_of picks) l.n l.among })))
    (either (names_of p.source) (names_gathered (gathered_for picks)) name is)

gathered_planned : (start : RunStart) (notes : List Note) (now : List State) (picks : List NewSource) → Each (IsNewSource start notes now) picks → (name : List ℕ) → Contains (names_gathered (gathered_for picks)) name
    → Contains (flat_map names_of start.config.sources) name
gathered_planned start notes now [] each name is = absurd (none-in name is)
gathered_planned start notes now (p ∷ picks) each name is = ⊎_elim
    (in_plan start.config.sources p.n p.source name each.0.source_is)
    (gathered_planned start notes now picks each.1 name)
    (either (names_of p.source) (names_gathered (gathered_for picks)) name is)

-- a list on its way that no source picked has, and that doesn't go
pub part_free : CommittingLaws → (start : RunStart) (notes : List Note) (now : List State) (picks : List NewSource) (names : Option (List (List ℕ))) (name : List ℕ) → IsSoundBegun start → AreGathered start.config.sources (gathered_for picks)
    → Each (IsNewSource start notes now) picks → (IsListOf start.config.sources (numbers_of picks) name → ⊥) → (Contains (names_of_group names) (partial name) → ⊥) → IsNone (partial name) (all_changed_names (groups_of (gathered_for picks) names))
part_free laws start notes now picks names name sound gathered each out stays =
    laws.others start.config.sources (gathered_for picks) names (partial name) gathered
    (λ is. not_planned laws start.config.sources name sound.planned (gathered_planned start notes now picks each (partial name) is))
    (λ other is same. not_picked start notes now picks name each out (subst (Contains (names_gathered (gathered_for picks))) (partial_one other name same) is))
    stays

-- a name of no source that isn't among those that go
pub loose_free : CommittingLaws → (start : RunStart) (notes : List Note) (now : List State) (picks : List NewSource) (names : Option (List (List ℕ))) (name : List ℕ) → IsSoundBegun start → AreGathered start.config.sources (gathered_for picks)
    → Each (IsNewSource start notes now) picks → IsLoose start.config.sources name → (Contains (names_of_group names) name → ⊥) → IsNone name (all_changed_names (groups_of (gathered_for picks) names))
loose_free laws start notes now picks names name sound gathered each loose out =
    let sources = start.config.sources in
    laws.others sources (gathered_for picks) names name gathered
    (λ is. loose.other (there lock (journal ∷ flat_map kept_of sources) name (there journal (flat_map kept_of sources) name (all_kept sources name (gathered_planned start notes now picks each name is)))))
    (λ other is same. loose.other (there lock (journal ∷ flat_map kept_of sources) name (there journal (flat_map kept_of sources) name
    (subst (Contains (flat_map kept_of sources)) same (parts_kept sources other (gathered_planned start notes now picks each other is))))))
    out
