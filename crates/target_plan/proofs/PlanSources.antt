-- A source is planned exactly where some entry names it.
use Rattle.std.proofs.Common.{◌≡◌, ℕ, ◌<◌, zero, suc, length, map, get_or, Bool, true, ◌||◌, List, [], ◌∷◌, refl, sym, ap, ◌∙◌, subst, arith}
use Rattle.std.specs.List.{All, list_any, filter}
use Rattle.std.specs.Cmp.{IsEquivalence}
use Rattle.std.proofs.lemmas.Bool.{or_right}
use Rattle.acq_base.specs.declared.plan.Source.{Source}
use Rattle.acq_base.specs.declared.settings.Pick.{Pick}
use Rattle.acq_base.specs.declared.settings.Settings.{Settings}
use Rattle.source_lists.specs.declared.entry.Entry.{Entry}
use Rattle.target_plan.specs.Groups.{first_of_each, together}
use Rattle.target_plan.specs.Seen.{key_of, key_cmp}
use Rattle.target_plan.specs.Drafts.{is_same_source, source_of, draft_of, finished}
use Rattle.target_plan.specs.Planned.{names}
use Rattle.target_plan.proofs.Grouping.{has, has-first, laws_of_keys}
use Rattle.target_plan.proofs.GroupLemmas.{key_total, same_key}
use Rattle.target_plan.proofs.PlanTargets.{all-first, all-map-from}

has-there : {T : Type 0} (same : T → T → Bool) (xs : List T) (y : T) (k : ℕ) (d : T) → k < length xs → same (get_or xs k d) y ≡ true → has same xs y ≡ true
has-there same [] y k d within e = absurd (omega (arith, within))
has-there same (x ∷ xs) y zero d within e = ap (λ (b : Bool). b || has same xs y) e
has-there same (x ∷ xs) y (suc k) d within e = ap (λ (b : Bool). same x y || b) (has-there same xs y k d (omega (arith, within)) e) ∙ or_right (same x y) true refl

any-there : {T : Type 0} (test : T → Bool) (xs : List T) (k : ℕ) (d : T) → k < length xs → test (get_or xs k d) ≡ true → list_any test xs ≡ true
any-there test [] k d within e = absurd (omega (arith, within))
any-there test (x ∷ xs) zero d within e = ap (λ (b : Bool). b || list_any test xs) e
any-there test (x ∷ xs) (suc k) d within e = ap (λ (b : Bool). test x || b) (any-there test xs k d (omega (arith, within)) e) ∙ or_right (test x) true refl

laws : IsEquivalence is_same_source
laws = laws_of_keys is_same_source key_cmp key_total key_of same_key

module _ (pick : Pick) (settings : Settings) (entries : List Entry) where
  abbrev group : Entry → Entry × List Entry
  group first = (first, filter (is_same_source first) entries)

  abbrev source : Entry → Source
  source first = finished (draft_of pick settings (group first))

  named-as : (firsts : List Entry) (x : Entry) → list_any (λ s. names s x) (map finished (map (draft_of pick settings) (map group firsts))) ≡ has is_same_source firsts x
  unfolding finished draft_of source_of is_same_source
  named-as [] x = refl
  named-as (f ∷ firsts) x = ap (λ (b : Bool). is_same_source f x || b) (named-as firsts x)

  module _ (sources : List Source) (are : sources ≡ map finished (map (draft_of pick settings) (together is_same_source entries))) where
    pub each_entry : All (λ entry. list_any (λ s. names s entry) sources ≡ true) entries
    unfolding together
    each_entry k d within =
        let x = get_or entries k d in
        ap (list_any (λ s. names s x)) are ∙ named-as (first_of_each is_same_source entries) x ∙ has-first is_same_source laws entries x ∙ has-there is_same_source entries x k d within (laws.refl x)

    pub each_source : All (λ s. list_any (names s) entries ≡ true) sources
    unfolding together finished draft_of source_of is_same_source
    each_source =
        let P = λ (s : Source). list_any (names s) entries ≡ true in
        let firsts = first_of_each is_same_source entries in
        subst (All P) (sym are) (all-map-from P finished (map (draft_of pick settings) (map group firsts))
        (all-map-from (λ draft. P (finished draft)) (draft_of pick settings) (map group firsts)
        (all-map-from (λ g. P (finished (draft_of pick settings g))) group firsts
        (all-first (λ (first : Entry). P (source first)) is_same_source entries (λ k d within. any-there (is_same_source (get_or entries k d)) entries k d within (laws.refl (get_or entries k d)))))))
