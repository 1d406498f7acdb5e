-- Rows of what stands for sources and targets, one after another.
use Rattle.std.proofs.Common.{◌≡◌, sym, ap, ◌∙◌, ℕ, ◌+◌, ◌<◌, List, [], ◌∷◌, ◌++◌, length, map, take, drop, get_or, All}
use Rattle.std.proofs.lemmas.List.{append-nil, append_assoc, drop_more, take_more, take-append-drop, map-append}
use Rattle.std.proofs.lemmas.List.Concat.{flat_map-append}
use Rattle.std.proofs.lemmas.List.Elements.{All-nil, All-head, All-tail, All-append, All-map}
use Rattle.std.proofs.lemmas.Simd.{map-map}
use Rattle.std.specs.List.{flat_map}
use Rattle.acq_base.specs.Plan.{IsPlanned}
use Rattle.acq_base.specs.declared.plan.Source.{Source}
use Rattle.acq_base.specs.declared.plan.Target.{Target}
use Rattle.acq_base.specs.declared.uri.ListName.{ListName}
use Rattle.acq_outside.specs.Disk.{Files, IsName}
use Rattle.lists_dir.specs.Installed.{target_names}
use Rattle.lists_dir.proofs.DiskNames.{targets_fit}

-- one element more, or one less
pub flat_more : {X A : Type 0} (f : X → List A) (xs : List X) (i : ℕ) (x : X) → i < length xs → x ≡ get_or xs i x → flat_map f (take (i + 1) xs) ≡ flat_map f (take i xs) ++ f x
flat_more f xs i x below is =
    ap (flat_map f) (take_more xs i x below) ∙ flat_map-append f (take i xs) (get_or xs i x ∷ [])
    ∙ ap (λ t. flat_map f (take i xs) ++ t) (append-nil (f (get_or xs i x)) ∙ ap f (sym is))

pub map_more : {X A : Type 0} (f : X → A) (xs : List X) (i : ℕ) (x : X) → i < length xs → x ≡ get_or xs i x → map f (take (i + 1) xs) ≡ map f (take i xs) ++ f x ∷ []
map_more f xs i x below is =
    ap (map f) (take_more xs i x below) ∙ map-append f (take i xs) (get_or xs i x ∷ []) ∙ ap (λ y. map f (take i xs) ++ f y ∷ []) (sym is)

pub map_rest : {X A : Type 0} (f : X → A) (xs : List X) (i : ℕ) (x : X) → i < length xs → x ≡ get_or xs i x → map f (drop i xs) ≡ f x ∷ map f (drop (i + 1) xs)
map_rest f xs i x below is = ap (map f) (drop_more xs i x below) ∙ ap (λ y. f y ∷ map f (drop (i + 1) xs)) (sym is)

-- a front of what is left is done
pub batched : {X A : Type 0} (f : X → A) (rest front back : List X) (n : ℕ) (sums after all : List A) → front ≡ take n rest → back ≡ drop n rest → after ≡ sums ++ map f front → sums ++ map f rest ≡ all → after ++ map f back ≡ all
batched f rest front back n sums after all is_front is_back added so_far =
    ap (λ l. l ++ map f back) added ∙ append_assoc sums (map f front) (map f back)
    ∙ ap (λ l. sums ++ l) (sym (map-append f front back) ∙ ap (map f) ((λ i. is_front i ++ is_back i) ∙ take-append-drop n rest))
    ∙ so_far

-- the files of a source's lists come before those of the sources behind it
pub files_rest : (files : Files) (sources : List Source) (i : ℕ) (source : Source) → i < length sources → source ≡ get_or sources i source
    → map (λ (name : ListName). files name.0) (flat_map target_names (drop i sources))
    ≡ map (λ (name : ListName). files name.0) (target_names source) ++ map (λ (name : ListName). files name.0) (flat_map target_names (drop (i + 1) sources))
files_rest files sources i source below is =
    ap (λ s. map (λ (name : ListName). files name.0) (flat_map target_names s)) (drop_more sources i source below)
    ∙ map-append (λ (name : ListName). files name.0) (target_names (get_or sources i source)) (flat_map target_names (drop (i + 1) sources))
    ∙ ap (λ (s : Source). map (λ (name : ListName). files name.0) (target_names s) ++ map (λ (name : ListName). files name.0) (flat_map target_names (drop (i + 1) sources))) (sym is)

pub files_of_targets : (files : Files) (source : Source) → map (λ (name : ListName). files name.0) (target_names source) ≡ map (λ (target : Target). files target.name.0) source.targets
files_of_targets files source = map-map (λ (name : ListName). files name.0) (λ (target : Target). target.name) source.targets

-- the names of planned sources' lists are names of a disk
pub all_fit : (sources : List Source) → All IsPlanned sources → All (λ name. IsName name.0) (flat_map target_names sources)
all_fit [] planned = All-nil (λ (name : ListName). IsName name.0)
all_fit (source ∷ sources) planned =
    All-append (λ (name : ListName). IsName name.0) (target_names source) (flat_map target_names sources)
    (All-map (λ (name : ListName). IsName name.0) (λ (target : Target). target.name) source.targets (targets_fit source (All-head IsPlanned source sources planned)))
    (all_fit sources (All-tail IsPlanned source sources planned))
