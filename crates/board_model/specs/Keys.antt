-- The items of a plan and their numbers.
use Rattle.std.specs.Prelude.{ℕ, suc, zero, ◌==◌, ◌&&◌, Bool, if◌then◌else◌, bytes_eq, List, [], ◌∷◌, ◌++◌, slice_get, codes, Option, Some, None, option_map}
use Rattle.acq_base.specs.declared.plan.Source.{Source}
use Rattle.acq_base.specs.declared.plan.Target.{Target}
use Rattle.acq_base.specs.declared.uri.ListName.{ListName}
use Rattle.board_model.specs.declared.key.Key.{Key}

abbrev pub same_key : Key → Key → Bool
same_key a b = a.source == b.source && a.place == b.place

abbrev pub places_from : ℕ → ℕ → List Target → List Key
places_from source place [] = []
places_from source place (target ∷ targets) = (record { source = source; place = place }) ∷ places_from source (suc place) targets

abbrev pub keys_in : ℕ → Source → List Key
keys_in n source = (record { source = n; place = 0 }) ∷ places_from n 1 source.targets

-- all items of the sources from the n-th on. The number of an item is its place here: a Release, its lists, the next Release
abbrev pub keys_from : ℕ → List Source → List Key
keys_from n [] = []
keys_from n (source ∷ sources) = keys_in n source ++ keys_from (suc n) sources

abbrev pub key_at : List Source → ℕ → Option Key
key_at sources number = slice_get (keys_from 0 sources) number

abbrev pub target_path : Option Target → List ℕ
target_path None = []
target_path (Some target) = target.path

-- the path that stands for an item in the log
abbrev pub path_at : Source → ℕ → List ℕ
path_at source zero = codes "Release"
path_at source (suc place) = target_path (slice_get source.targets place)

-- the name of an item's list
abbrev pub name_at : Source → ℕ → Option ListName
name_at source zero = None
name_at source (suc place) = option_map (λ (target : Target). target.name) (slice_get source.targets place)

-- what rows have under a name: of several the first
abbrev pub named : {A : Type 0} → List (ListName × A) → List ℕ → Option A
named [] name = None
named (row ∷ rows) name = if bytes_eq row.0.0 name then Some row.1 else named rows name
