-- Names of lists and what is wanted of those on their way.
use Rattle.std.proofs.Common.{◌≡◌, ◌⊎◌, ◌∙◌, inl, inr, ⊎_elim, refl, ap, subst, ℕ, zero, suc, Bool, true, false, List, [], ◌∷◌, ◌++◌, map, Contains, Option, Some, None, bytes_eq}
use Rattle.std.specs.Prelude.{if◌then◌else◌, slice_get}
use Rattle.std.specs.List.{flat_map}
use Rattle.std.proofs.lemmas.List.Elements.{Contains-append_left, Contains-append_right}
use Rattle.std.proofs.lemmas.Slice.Eq.{bytes_eq-Decides}
use Rattle.acq_base.specs.Plan.{names_of}
use Rattle.acq_base.specs.declared.plan.Source.{Source}
use Rattle.acq_base.specs.declared.plan.Target.{Target}
use Rattle.acq_base.proofs.Lists.{first-or-rest}
use Rattle.board_model.specs.Boards.{Board}
use Rattle.board_model.specs.NameLaws.{AreNamedApart}
use Rattle.board_model.specs.Slots.{Slot}
use Rattle.board_model.specs.Uses.{Free, WantedPart, or_use, wanted_part, use_among, use_in, use_under}
use Rattle.board_model.proofs.Making.{none-in}
use Rattle.commit_journal.specs.Changes.{AreApart, IsNone}
use Rattle.list_commits.proofs.Apart.{here, there, apart_of, not_in}
use Rattle.list_commits.proofs.Recording.{both_apart, right_apart}
use Rattle.run_model.proofs.Names.{in_plan}

-- ---- lists on their way

-- ---- names apart

apart_first : (xs ys : List (List ℕ)) → AreApart (xs ++ ys) → AreApart xs
apart_first [] ys apart = tt
apart_first (x ∷ xs) ys apart = (none_first xs ys x apart.0, apart_first xs ys apart.1)
  where
    none_first : (xs ys : List (List ℕ)) (x : List ℕ) → IsNone x (xs ++ ys) → IsNone x xs
    none_first [] ys x none = tt
    none_first (z ∷ zs) ys x none = (none.0, none_first zs ys x none.1)

-- ---- nothing is wanted under a Release's name

abbrev targets_of : Source → List (List ℕ)
targets_of source = map (λ target. target.name.0) source.targets

-- a name under which no target is
abbrev IsNoTarget : List Source → List ℕ → Type 0
IsNoTarget [] name = Unit {0}
IsNoTarget (source ∷ sources) name = (Contains (targets_of source) name → ⊥) × IsNoTarget sources name

no_target : (sources : List Source) (n : ℕ) (source : Source) → AreApart (flat_map names_of sources) → slice_get sources n ≡ Some source → IsNoTarget sources source.release_name.0
no_target [] n source apart is = absurd (cc)
no_target (s ∷ sources) zero source apart is =
    let same : s ≡ source = cc in
    let own : AreApart (names_of s) = apart_first (names_of s) (flat_map names_of sources) apart in
    subst (λ (x : Source). IsNoTarget (s ∷ sources) x.release_name.0) same (
      not_in s.release_name.0 (targets_of s) own.0,
      others sources (λ within. both_apart (names_of s) (flat_map names_of sources) s.release_name.0 apart (here s.release_name.0 (targets_of s) s.release_name.0 refl) within),
    )
  where
    others : (rest : List Source) → (Contains (flat_map names_of rest) s.release_name.0 → ⊥) → IsNoTarget rest s.release_name.0
    others [] never = tt
    others (r ∷ rest) never = (
      λ is. never (Contains-append_left (names_of r) (flat_map names_of rest) s.release_name.0 (there r.release_name.0 (targets_of r) s.release_name.0 is)),
      others rest (λ is. never (Contains-append_right (names_of r) (flat_map names_of rest) s.release_name.0 is)),
    )
no_target (s ∷ sources) (suc n) source apart is = (
  λ within. both_apart (names_of s) (flat_map names_of sources) source.release_name.0 apart (there s.release_name.0 (targets_of s) source.release_name.0 within)
      (in_plan sources n source source.release_name.0 is (here source.release_name.0 (targets_of source) source.release_name.0 refl)),
  no_target sources n source (right_apart (names_of s) (flat_map names_of sources) apart) is,
)

not_among : (sizes : List ℕ → ℕ) (slot : Slot) (place : ℕ) (targets : List Target) (name : List ℕ) → (Contains (map (λ (t : Target). t.name.0) targets) name → ⊥) → use_among sizes slot place targets name ≡ None
not_among sizes slot place [] name never = refl
not_among sizes slot place (t ∷ targets) name never = one (bytes_eq t.name.0 name) refl (λ never'. not_among sizes slot (suc place) targets name never')
  where
    one : (c : Bool) → bytes_eq t.name.0 name ≡ c → ((Contains (map (λ (t : Target). t.name.0) targets) name → ⊥) → use_among sizes slot (suc place) targets name ≡ None) → (if c then Some (use_in (sizes name) place slot) else use_among sizes slot (suc place) targets name) ≡ None
    one true same rest = absurd (never (here t.name.0 (map (λ (t : Target). t.name.0) targets) name ((bytes_eq-Decides t.name.0 name).0 same)))
    one false differ rest = rest (λ is. never (there t.name.0 (map (λ (t : Target). t.name.0) targets) name is))

none_under : (sizes : List ℕ → ℕ) (sources : List Source) (slots : List Slot) (name : List ℕ) → IsNoTarget sources name → use_under sizes sources slots name ≡ Free
none_under sizes [] slots name none = refl
none_under sizes (source ∷ sources) [] name none = refl
none_under sizes (source ∷ sources) (slot ∷ slots) name none =
    ap (λ (o : Option WantedPart). or_use o (use_under sizes sources slots name)) (not_among sizes slot 0 source.targets name none.0) ∙ none_under sizes sources slots name none.1

pub release_free : (b : Board) (n : ℕ) (source : Source) → AreNamedApart b.config → slice_get b.config.sources n ≡ Some source → wanted_part b source.release_name.0 ≡ Free
release_free b n source apart is = none_under b.config.sizes b.config.sources b.slots source.release_name.0 (no_target b.config.sources n source (apart_of (flat_map names_of b.config.sources) apart) is)

-- a name of a source is its Release's or a target's
pub record IsTargetAt (source : Source) (name : List ℕ) : Type 0 where
  pub k : ℕ
  pub target : Target
  pub at : slice_get source.targets k ≡ Some target
  pub is : target.name.0 ≡ name

target_at : (targets : List Target) (name : List ℕ) → Contains (map (λ (t : Target). t.name.0) targets) name → (k : ℕ) × (target : Target) × (slice_get targets k ≡ Some target) × (target.name.0 ≡ name)
target_at [] name is = absurd (none-in name is)
target_at (t ∷ targets) name is = ⊎_elim
    (λ same. (0, t, refl, same))
    (λ later. let found = target_at targets name later in (suc found.0, found.1, found.2, found.3))
    (first-or-rest t.name.0 (map (λ (t : Target). t.name.0) targets) name is)

pub which_name : (source : Source) (name : List ℕ) → Contains (names_of source) name → (source.release_name.0 ≡ name) ⊎ IsTargetAt source name
which_name source name is = ⊎_elim inl
    (λ later. let found = target_at source.targets name later in inr (record { k = found.0; target = found.1; at = found.2; is = found.3 }))
    (first-or-rest source.release_name.0 (targets_of source) name is)
