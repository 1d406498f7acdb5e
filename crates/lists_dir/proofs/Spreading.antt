-- The sums of the lists that are there, each in its name's place.
use Rattle.std.proofs.Common.{◌≡◌, refl, sym, ap, ◌∙◌, arith, ℕ, ◌+◌, ◌<◌, Bool, true, false, List, [], ◌∷◌, ◌++◌, length, map, take, drop, get_or, cond, Option, Some, None, All, option_map}
use Rattle.std.proofs.lemmas.List.{take_more, drop_more, length-map, get_or-map}
use Rattle.std.proofs.lemmas.List.Elements.{All-nil, All-cons, All-append, filter-append, All-filter}
use Rattle.std.specs.List.{filter}
use Rattle.std.specs.Option.{is_some}
use Rattle.acq_base.specs.declared.uri.ListName.{ListName}
use Rattle.acq_outside.specs.Disk.{Files}
use Rattle.lists_dir.specs.Summing.{has_file}

-- a file with a size is there
pub sized : (size : Option ℕ) (file : Option (List ℕ)) → size ≡ option_map length file → is_some size ≡ is_some file
sized size None is = ap is_some is
sized size (Some bytes) is = ap is_some is

-- one element more that is kept or not
pub filter_more : {X : Type 0} (test : X → Bool) (xs : List X) (i : ℕ) (x : X) → i < length xs → x ≡ get_or xs i x → filter test (take (i + 1) xs) ≡ filter test (take i xs) ++ filter test (x ∷ [])
filter_more test xs i x below is =
    ap (filter test) (take_more xs i x below) ∙ filter-append test (take i xs) (get_or xs i x ∷ []) ∙ ap (λ y. filter test (take i xs) ++ filter test (y ∷ [])) (sym is)

-- what is kept keeps what holds of it
pub all_more : {X : Type 0} (P : X → Type 0) (there : Bool) (xs : List X) (x : X) → All P xs → P x → All P (xs ++ filter (λ _. there) (x ∷ []))
all_more P there xs x those this = All-append P xs (filter (λ _. there) (x ∷ [])) those (All-filter (λ _. there) P (x ∷ []) (All-cons P x [] this (All-nil P)))

-- the sums that are left begin with that of the next name, if it has a file
pub sums_rest : (files : Files) (names : List ListName) (i : ℕ) (d : ListName) → i < length names
    → map (λ (name : ListName). files name.0) (filter (has_file files) (drop i names))
    ≡ cond (has_file files (get_or names i d)) (files (get_or names i d).0 ∷ map (λ (name : ListName). files name.0) (filter (has_file files) (drop (i + 1) names)))
    (map (λ (name : ListName). files name.0) (filter (has_file files) (drop (i + 1) names)))
sums_rest files names i d below =
    ap (λ l. map (λ (name : ListName). files name.0) (filter (has_file files) l)) (drop_more names i d below)
    ∙ by (has_file files (get_or names i d)) (get_or names i d) (filter (has_file files) (drop (i + 1) names))
  where
    by : (there : Bool) (name : ListName) (rest : List ListName)
        → map (λ (n : ListName). files n.0) (cond there (name ∷ rest) rest) ≡ cond there (files name.0 ∷ map (λ (n : ListName). files n.0) rest) (map (λ (n : ListName). files n.0) rest)
    by true name rest = refl
    by false name rest = refl

-- a name's flag says whether it has a file
pub flag_of : (files : Files) (names : List ListName) (flags : List Bool) (i : ℕ) (e : Bool) (d : ListName) → flags ≡ map (has_file files) names → i < length flags
    → get_or flags i e ≡ has_file files (get_or names i d)
flag_of files names flags i e d told below = ap (λ l. get_or l i e) told ∙ get_or-map (has_file files) names i d e (omega (arith, below, ap length told, length-map names (has_file files)))
