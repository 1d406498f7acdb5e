-- What the items of a source heard, and those of all sources.
use Rattle.std.proofs.Common.{◌≡◌, ◌≢◌, ◌∙◌, ℕ, suc, ◌+◌, List, [], ◌∷◌, length, AllPairs, Option, Some, None, Ok, Err, refl, sym, ap, subst, arith, inl, inr, ◌⊎◌}
use Rattle.std.specs.Prelude.{option_and_then, slice_get, Result}
use Rattle.std.specs.List.{sum_by, AllByRecursion as Each}
use Rattle.std.proofs.lemmas.List.Sums.{sum_by-cons}
use Rattle.acq_base.specs.Mirror.{MirrorMap}
use Rattle.acq_base.specs.Plan.{names_of}
use Rattle.acq_base.specs.declared.installed.Old.{Old}
use Rattle.acq_base.specs.declared.plan.Source.{Source}
use Rattle.acq_base.specs.declared.plan.Target.{Target}
use Rattle.acq_base.specs.declared.sum.Sum.{Sum}
use Rattle.board_model.specs.Agreeing.{Agrees, part_at, part_of}
use Rattle.board_model.specs.Changes.{IsInstalled}
use Rattle.board_model.specs.Ends.{ComesTo}
use Rattle.board_model.specs.Keys.{keys_from, keys_in, name_at, places_from}
use Rattle.board_model.specs.Runs.{Note}
use Rattle.board_model.specs.Slots.{Setup}
use Rattle.board_model.specs.Stands.{history_of}
use Rattle.release_file.specs.Release.{listed_sum}
use Rattle.run_model.specs.Asked.{IsListed}
use Rattle.update_model.specs.Laws.{ReleasesEndAsObtained}
use Rattle.update_model.specs.Outcomes.{AdmittedRelease, Directory, PartFiles, Staying, admitted, wanted_by}
use Rattle.update_model.specs.Points.{start}
use Rattle.update_model.specs.Releases.{obtain_release}
use Rattle.update_model.specs.Walks.{release_walk}
use Rattle.update_model.specs.declared.end.End.{End}
use Rattle.update_model.specs.declared.settled.Verdict2.{Verdict2}
use Rattle.run_model.proofs.Ends.{over_once}
use Rattle.generated_days.specs.Asks.{asks_along, asks_for, asks_for_list}
use Rattle.generated_days.proofs.Answers.{NoFault, agrees-along, lives-along}
use Rattle.generated_days.proofs.Items.{from-first, item-heard, lists-heard, lists-unheard, said-by}
use Rattle.generated_days.proofs.Keys.{heard-append, heard_by}
use Rattle.generated_days.proofs.Quiet.{quiet-key}

module _
    (ends_as_obtained : ReleasesEndAsObtained) (mirror : MirrorMap) (dir : Directory) (parts : PartFiles) (config : Setup) (n : ℕ) (source : Source) (old : Old) (notes : List Note) (verdict : Verdict2)
    (source_is : slice_get config.sources n ≡ Some source) (installed : IsInstalled source old dir) (sizes : (name : List ℕ) → config.sizes name ≡ length (parts name))
    (agrees : Agrees mirror parts config.sources notes) (quiet : Each (λ note. NoFault note.told.closed) notes) (distinct : AllPairs (λ x y. x ≢ y) (names_of source))
    (comes : ComesTo config n source old (history_of n notes) verdict)
    (others : (k : ℕ) (t : Target) → slice_get source.targets k ≡ Some t → (history_of n notes (suc k) ≡ []) ⊎ IsListed config old source t (history_of n notes 0)) where
  no-part : part_at parts config.sources (record { source = n; place = 0 }) ≡ []
  no-part = ap (λ (s : Option Source). part_of parts (option_and_then (λ source. name_at source 0) s)) source_is

  release-asks : length (history_of n notes 0) ≡ asks_along mirror [] (release_walk source)
  release-asks = item-heard mirror parts config n 0 (release_walk source) [] notes comes.end no-part agrees quiet comes.release.asks comes.release.ends

  -- its Release is the mirror's
  release-is : comes.end ≡ obtain_release mirror source
  release-is =
      ends_as_obtained mirror source config.settings.retries comes.release.told.trails comes.end comes.release.told.route
      (comes.release.told.agrees mirror []
      (agrees-along mirror [] config.settings.retries (start config.settings.retries (release_walk source)) (history_of n notes 0) comes.release.asks
      (said-by mirror parts config.sources (record { source = n; place = 0 }) [] notes no-part agrees)))
      (comes.release.told.lives (lives-along config.settings.retries (start config.settings.retries (release_walk source)) (history_of n notes 0) (quiet-key (record { source = n; place = 0 }) notes quiet)))

  -- it may be installed and names the list
  set-of : (k : ℕ) (t : Target) → IsListed config old source t (history_of n notes 0)
      → (set : AdmittedRelease) × (sum : Sum) × (admitted comes.end old.release config.settings config.change config.now ≡ Ok set) × (listed_sum set.release t.path ≡ Some sum)
  set-of k t listed =
      let same : listed.end ≡ comes.end = over_once listed.end comes.end (sym listed.ends ∙ comes.release.ends) in
      (listed.set, listed.sum, subst (λ (e : End). admitted e old.release config.settings config.change config.now ≡ Ok listed.set) same listed.came_to, listed.listed)

  list-asks : (came : Result AdmittedRelease Staying) → admitted comes.end old.release config.settings config.change config.now ≡ came
      → heard_by (places_from n 1 source.targets) notes ≡ sum_by (asks_for_list mirror dir parts) (wanted_by source config.settings came)
  list-asks (Err why) is =
      lists-unheard mirror dir parts config n source old notes source_is installed sizes agrees quiet distinct 0 source.targets (from-first source.targets) (λ k t there. by k t (others k t there))
    where
      by : (k : ℕ) (t : Target) → (history_of n notes (suc k) ≡ []) ⊎ IsListed config old source t (history_of n notes 0) → history_of n notes (suc k) ≡ []
      by k t (inl none) = none
      by k t (inr listed) =
          let found = set-of k t listed in
          let first = found.2 in
          absurd (cc)
  list-asks (Ok set) is =
      lists-heard mirror dir parts config n source old notes source_is installed sizes agrees quiet distinct set.release 0 source.targets comes.lists (from-first source.targets)
      (λ k t there none. by k t none (others k t there))
      (comes.named_lists ∙ ap (wanted_by source config.settings) is) comes.routes comes.places
    where
      by : (k : ℕ) (t : Target) → listed_sum set.release t.path ≡ None → (history_of n notes (suc k) ≡ []) ⊎ IsListed config old source t (history_of n notes 0) → history_of n notes (suc k) ≡ []
      by k t unlisted (inl none) = none
      by k t unlisted (inr listed) =
          let found = set-of k t listed in
          let same : found.0 ≡ set = ok-once found.0 set (sym found.2 ∙ is) in
          let there : listed_sum set.release t.path ≡ Some found.1 = subst (λ (s : AdmittedRelease). listed_sum s.release t.path ≡ Some found.1) same found.3 in
          absurd (cc)
        where
          ok-once : (a b : AdmittedRelease) → ◌≡◌ {A = Result AdmittedRelease Staying} (Ok a) (Ok b) → a ≡ b
          ok-once a b e = cc

  pub source-asks : heard_by (keys_in n source) notes ≡ asks_for mirror dir parts config.settings config.change config.now source
  source-asks =
      let lists = list-asks (admitted comes.end old.release config.settings config.change config.now) refl in
      sum-up _ _ _ _ release-asks
      (lists ∙ ap (λ (came : Result AdmittedRelease Staying). sum_by (asks_for_list mirror dir parts) (wanted_by source config.settings came)) came_is)
    where
      sum-up : (a b c d : ℕ) → a ≡ c → b ≡ d → a + b ≡ c + d
      sum-up a b c d same other = omega (arith, same, other)

      came_is : admitted comes.end old.release config.settings config.change config.now ≡ admitted (obtain_release mirror source) (dir source.release_name.0) config.settings config.change config.now
      came_is =
          ap (λ (e : End). admitted e old.release config.settings config.change config.now) release-is
          ∙ ap (λ (o : Option (List ℕ)). admitted (obtain_release mirror source) o config.settings config.change config.now) installed.release

-- ---- all sources

pub sources-asks : (f : Source → ℕ) (notes : List Note) (n : ℕ) (all sources : List Source) → ((i : ℕ) → slice_get sources i ≡ slice_get all (n + i))
    → ((m : ℕ) (source : Source) → slice_get all m ≡ Some source → heard_by (keys_in m source) notes ≡ f source)
    → heard_by (keys_from n sources) notes ≡ sum_by f sources
sources-asks f notes n all [] at each = refl
sources-asks f notes n all (s ∷ sources) at each =
    let here : slice_get all n ≡ Some s = subst (λ (i : ℕ). slice_get all i ≡ Some s) (omega arith) (sym (at 0)) in
    let rest = sources-asks f notes (suc n) all sources (λ i. subst (λ (j : ℕ). slice_get sources i ≡ slice_get all j) (omega arith) (at (suc i))) each in
    heard-append (keys_in n s) (keys_from (suc n) sources) notes ∙ sum-up _ _ _ _ (each n s here) rest ∙ sym (sum_by-cons f s sources)
  where
    sum-up : (a b c d : ℕ) → a ≡ c → b ≡ d → a + b ≡ c + d
    sum-up a b c d same other = omega (arith, same, other)
