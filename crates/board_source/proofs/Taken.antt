-- A map's values under the names of the targets that are left, once the value of one was taken out.
use Rattle.std.proofs.Common.{◌≡◌, ◌≢◌, ◌∙◌, ◌+◌, ◌<◌, ◌++◌, ◌&&◌, [], ◌∷◌, ℕ, suc, cond, Bool, true, false, List, length, get_or, Option, None, refl, sym, ap, subst, arith}
use Rattle.std.specs.Prelude.{bytes_eq}
use Rattle.std.specs.Cmp.Lexicographic.{slice_cmp}
use Rattle.std.specs.List.{AllWithin, list_all}
use Rattle.std.specs.Ordering.{nat_cmp, is_eq}
use Rattle.std.proofs.lemmas.Bool.{false_from_ne_true}
use Rattle.std.proofs.lemmas.List.{get_or-map, length-map}
use Rattle.std.proofs.lemmas.List.Folds.{list_all-append}
use Rattle.std.proofs.lemmas.Map.Text.{is_eq-slice_cmp}
use Rattle.std.proofs.lemmas.Slice.Eq.{bytes_eq-Decides}
use Rattle.std.proofs.lemmas.Str.{IsUtf8-from_ascii}
use Rattle.acq_base.specs.Plan.{names_of}
use Rattle.acq_base.specs.declared.plan.Source.{Source}
use Rattle.acq_base.specs.declared.plan.Target.{Target}
use Rattle.acq_outside.specs.Disk.{IsName}
use Rattle.board_source.specs.Names.{HasDiskNames, NamesDiffer}

-- a disk may have the name of the n-th target
pub target-name : (source : Source) (n : ℕ) (target : Target) → HasDiskNames source → n < length source.targets → target ≡ get_or source.targets n target → IsName target.name.0
target-name source n target fits below is =
    let count = length-map source.targets (λ (t : Target). t.name.0) in
    let plain = fits (suc n) target.name.0 (omega (arith, below, count)) in
    let name = get_or (names_of source) (suc n) target.name.0 in
    subst IsName (get_or-map (λ (t : Target). t.name.0) source.targets n target target.name.0 below ∙ sym (ap (λ (t : Target). t.name.0) is))
    (record { text = IsUtf8-from_ascii name plain.ascii; nonempty = plain.nonempty; short = plain.short })

-- no later target has the name of the n-th
pub later-differs : (source : Source) (n k : ℕ) (d e : Target) → NamesDiffer source
    → n < k → k < length source.targets → (get_or source.targets n d).name.0 ≢ (get_or source.targets k e).name.0
later-differs source n k d e distinct before below same =
    let d_name = d.name.0 in
    let count = length-map source.targets (λ (t : Target). t.name.0) in
    distinct (suc n) (suc k) d_name (omega arith) (omega (arith, count))
    (get_or-map (λ (t : Target). t.name.0) source.targets n d d_name (omega arith) ∙ same ∙ sym (get_or-map (λ (t : Target). t.name.0) source.targets k e d_name below))

pub still-there : (source : Source) (old now rows : List ℕ → Option (List ℕ)) (n : ℕ) (d target : Target)
    → NamesDiffer source → target ≡ get_or source.targets n d
    → ((q : List ℕ) → now q ≡ cond (is_eq (slice_cmp nat_cmp target.name.0 q)) None (old q))
    → AllWithin (λ t. old t.name.0 ≡ rows t.name.0) source.targets n (length source.targets)
    → AllWithin (λ t. now t.name.0 ≡ rows t.name.0) source.targets (n + 1) (length source.targets)
still-there source old now rows n d target distinct is taken left k e above below =
    let other = get_or source.targets k e in
    let differs : bytes_eq target.name.0 other.name.0 ≡ false =
    false_from_ne_true (bytes_eq target.name.0 other.name.0) (λ eq. later-differs source n k d e distinct (omega arith) below
    (sym (ap (λ (t : Target). t.name.0) is) ∙ (bytes_eq-Decides target.name.0 other.name.0).0 eq)) in
    taken other.name.0
    ∙ ap (λ (b : Bool). cond b None (old other.name.0)) (is_eq-slice_cmp target.name.0 other.name.0 ∙ differs)
    ∙ left k e (omega arith) below

and-more : (a b c : Bool) → ((a && b) && c) ≡ (a && (b && (c && true)))
and-more false b c = refl
and-more true false c = refl
and-more true true false = refl
and-more true true true = refl

-- whether all targets pass, with one more
pub all-pass-more : (passes : Target → Bool) (targets : List Target) (target : Target) (first before next : Bool)
    → before ≡ (first && list_all passes targets) → next ≡ passes target → (before && next) ≡ (first && list_all passes (targets ++ target ∷ []))
all-pass-more passes targets target first before next so_far is =
    (λ i. so_far i && is i) ∙ and-more first (list_all passes targets) (passes target) ∙ ap (λ (b : Bool). first && b) (sym (list_all-append passes targets (target ∷ [])))
