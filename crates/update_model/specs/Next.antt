-- What a run leaves in the folder of lists, and by which commits.
use Rattle.std.specs.Prelude.{◌≡◌, ℕ, ◌&&◌, Bool, true, false, bytes_eq, if◌then◌else◌, List, [], ◌∷◌, ◌++◌, map, Contains, Option, Some, None, option_map, filter_map, ℤ, Ok, Err}
use Rattle.std.specs.List.{list_all, AllByRecursion as Each}
use Rattle.acq_base.specs.Mirror.{MirrorMap}
use Rattle.acq_base.specs.Plan.{names_of, plan_names}
use Rattle.acq_base.specs.Sum.{sum_of}
use Rattle.acq_base.specs.declared.plan.Plan.{Plan}
use Rattle.acq_base.specs.declared.plan.Source.{Source}
use Rattle.acq_base.specs.declared.settings.Settings.{Settings}
use Rattle.acq_base.specs.declared.sum.Sum.{Sum}
use Rattle.release_file.specs.Release.{listed_sum, same_sum}
use Rattle.release_file.specs.declared.changing.Change.{Change}
use Rattle.update_model.specs.Outcomes.{AdmittedRelease, Outcome, Directory, PartFiles, Older, Kept, new_set}

-- ---- the directory

-- under the source's names lie this Release, for each target that it lists a file of the listed sum, and nothing else
pub record HasWholeSet (dir : Directory) (source : Source) (set : AdmittedRelease) : Type 0 where
  pub release_file : dir source.release_name.0 ≡ Some set.bytes
  pub lists : Each (λ target. option_map sum_of (dir target.name.0) ≡ listed_sum set.release target.path) source.targets

-- two directories have the same under the source's names
abbrev pub Keeps : Source → Directory → Directory → Type 0
Keeps source dir after = Each (λ name. after name ≡ dir name) (names_of source)

-- what a source's outcome leaves under its names: the new set, or what was there
abbrev pub OutcomeLeaves : Outcome → Source → Directory → Directory → Type 0
OutcomeLeaves (Ok set) source dir after = HasWholeSet after source set
OutcomeLeaves (Err why) source dir after = Keeps source dir after

-- whether a source has a new set, or keeps a newer one
abbrev pub lets_clean_up : Outcome → Bool
lets_clean_up (Ok set) = true
lets_clean_up (Err (Older date)) = true
lets_clean_up (Err (Kept cause)) = false

-- whether the names of no source go: that is switched on, and no source keeps its set for a cause
abbrev pub cleans : Settings → List Outcome → Bool
cleans settings outcomes = settings.cleanup && list_all lets_clean_up outcomes

-- each source has its new set or what it had, and the names of no source stay or go
pub record IsNext (world : MirrorMap) (dir : Directory) (parts : PartFiles) (plan : Plan) (settings : Settings) (change : Change) (now : ℤ) (after : Directory) : Type 0 where
  pub sources : Each (λ source. OutcomeLeaves (new_set world dir parts source settings change now) source dir after) plan.sources
  pub others : (name : List ℕ) → (Contains (plan_names plan) name → ⊥)
      → after name ≡ (if cleans settings (map (λ source. new_set world dir parts source settings change now) plan.sources) then None else dir name)

-- two directories differ at most in the bytes of lists of equal sums
pub record Alike (plan : Plan) (a b : Directory) : Type 0 where
  pub releases : Each (λ source. a source.release_name.0 ≡ b source.release_name.0) plan.sources
  pub lists : Each (λ source. Each (λ target. option_map sum_of (a target.name.0) ≡ option_map sum_of (b target.name.0)) source.targets) plan.sources
  pub others : (name : List ℕ) → (Contains (plan_names plan) name → ⊥) → a name ≡ b name

-- ---- the commits

abbrev pub same_bytes : Option (List ℕ) → List ℕ → Bool
same_bytes None bytes = false
same_bytes (Some a) bytes = bytes_eq a bytes

abbrev pub same_sums : Option Sum → Option Sum → Bool
same_sums None None = true
same_sums (Some a) (Some b) = same_sum a b
same_sums a b = false

-- whether a directory holds a set already
abbrev pub has_whole_set : Directory → Source → AdmittedRelease → Bool
has_whole_set dir source set =
    same_bytes (dir source.release_name.0) set.bytes
    && list_all (λ target. same_sums (option_map sum_of (dir target.name.0)) (listed_sum set.release target.path)) source.targets

-- what one group of changes does
pub data Deed : Type 0 where
  Installs : (source : Source) → (set : AdmittedRelease) → Deed
  CleansUp : (names : List (List ℕ)) → Deed

-- a source's new set is installed where it isn't there already
abbrev pub deed_of : Directory → Source × Outcome → Option Deed
deed_of dir settled = deed settled.0 settled.1
  where
    deed : Source → Outcome → Option Deed
    deed source (Ok set) = if has_whole_set dir source set then None else Some (Installs source set)
    deed source (Err why) = None

-- the names of no source go where they may and there are some
abbrev pub clean_up : Bool → List (List ℕ) → List Deed
clean_up false names = []
clean_up true [] = []
clean_up true (name ∷ names) = CleansUp (name ∷ names) ∷ []

-- what is done for the sources in this order, and the clean-up last; `loose` are the names of no source
abbrev pub deeds : Directory → Settings → List (List ℕ) → List (Source × Outcome) → List Deed
deeds dir settings loose order = filter_map (deed_of dir) order ++ clean_up (cleans settings (map (λ s. s.1) order)) loose

abbrev pub one_commit : List Deed → List (List Deed)
one_commit [] = []
one_commit (d ∷ ds) = (d ∷ ds) ∷ []

-- the commits of a run, each a list of groups: one for each deed in the order of settling, or one of all deeds in plan order
abbrev pub commits : Bool → Directory → Settings → List (List ℕ) → List (Source × Outcome) → List (Source × Outcome) → List (List Deed)
commits false dir settings loose settled planned = map (λ d. d ∷ []) (deeds dir settings loose settled)
commits true dir settings loose settled planned = one_commit (deeds dir settings loose planned)
