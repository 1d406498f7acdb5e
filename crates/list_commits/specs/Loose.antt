-- Names of the lists folder that belong to no source.
use Rattle.std.specs.Prelude.{◌≡◌, ◌⊎◌, ℕ, Bool, true, false, not, ◌&&◌, None, List, [], ◌∷◌, map, filter, AllPairs, Contains, IsSome}
use Rattle.std.specs.BTreeSet.{BTreeSet, contains}
use Rattle.std.specs.List.{flat_map}
use Rattle.std.specs.Ordering.{nat_cmp}
use Rattle.std.specs.Cmp.Lexicographic.{slice_cmp}
use Rattle.std.specs.declared.cmp.Ordering.TheVariants.{Less}
use Rattle.acq_base.specs.Plan.{names_of}
use Rattle.acq_base.specs.declared.plan.Source.{Source}
use Rattle.acq_base.specs.declared.uri.ListName.{ListName}
use Rattle.acq_outside.specs.Disk.{Files}
use Rattle.journal_model.specs.Names.{lock, journal, partial, is_inside, is_partial}

-- each name, and that under which it is on its way
abbrev pub with_parts : List (List ℕ) → List (List ℕ)
with_parts names = flat_map (λ name. name ∷ partial name ∷ []) names

abbrev pub kept_of : Source → List (List ℕ)
kept_of source = with_parts (names_of source)

-- the names that stay: the lock, the journal, and each source's lists, installed or on their way
abbrev pub kept_names : List Source → List (List ℕ)
kept_names sources = lock ∷ journal ∷ flat_map kept_of sources

-- a name in the folder that belongs to no source
pub record IsLoose (sources : List Source) (name : List ℕ) : Type 0 where
  pub other : Contains (kept_names sources) name → ⊥
  pub inside : is_inside name ≡ true

-- in byte order, each once
abbrev pub AreSorted : List (List ℕ) → Type 0
AreSorted names = AllPairs (λ a b. slice_cmp nat_cmp a b ≡ Less) names

-- all names of files in the folder that belong to no source; one that leads out of the folder is no file's in it
pub record AreLooseNames (files : Files) (sources : List Source) (names : List (List ℕ)) : Type 0 where
  pub sorted : AreSorted names
  pub there : (name : List ℕ) → Contains names name → IsSome (files name)
  pub loose : (name : List ℕ) → Contains names name → IsLoose sources name
  pub all : (name : List ℕ) → IsSome (files name) → Contains names name ⊎ (Contains (kept_names sources) name ⊎ (is_inside name ≡ false))

-- no file in the folder belongs to no source, neither a list nor one on its way
abbrev pub NoneIsLoose : List Source → Files → Type 0
NoneIsLoose sources files = (name : List ℕ) → IsLoose sources name → files name ≡ None

-- those under which no list is on its way, as names of lists
abbrev pub removed_names : List (List ℕ) → List ListName
removed_names names = map (λ name. record { 0 = name }) (filter (λ name. not (is_partial name)) names)

-- a name that isn't kept, and stays in the folder
abbrev pub is_loose : BTreeSet (List ℕ) → List ℕ → Bool
is_loose kept name = not (contains (slice_cmp nat_cmp) kept name) && is_inside name
