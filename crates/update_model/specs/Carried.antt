-- What the commits of a run make of the folder of lists, one after another.
use Rattle.std.specs.Prelude.{◌≡◌, ◌≢◌, ◌↔◌, ◌≤◌, ℕ, ℤ, Bool, true, false, List, [], ◌∷◌, length, map, AllPairs, Contains, None}
use Rattle.std.specs.List.{flat_map, AllByRecursion as Each}
use Rattle.acq_base.specs.Mirror.{MirrorMap}
use Rattle.acq_base.specs.Plan.{IsSound, names_of, plan_names}
use Rattle.acq_base.specs.declared.plan.Plan.{Plan}
use Rattle.acq_base.specs.declared.plan.Source.{Source}
use Rattle.acq_base.specs.declared.settings.Settings.{Settings}
use Rattle.release_file.specs.declared.changing.Change.{Change}
use Rattle.update_model.specs.Next.{HasWholeSet, Deed, Installs, CleansUp, deeds, commits, IsNext}
use Rattle.update_model.specs.Outcomes.{Outcome, Directory, PartFiles, new_set}

-- nothing changes under other names
abbrev pub StaysBeside : List (List ℕ) → Directory → Directory → Type 0
StaysBeside names before after = (name : List ℕ) → (Contains names name → ⊥) → after name ≡ before name

-- what one group of changes makes of a directory
abbrev pub Does : Deed → Directory → Directory → Type 0
Does (Installs source set) before after = HasWholeSet after source set × StaysBeside (names_of source) before after
Does (CleansUp names) before after = ((name : List ℕ) → Contains names name → after name ≡ None) × StaysBeside names before after

-- and what groups make of it in order
abbrev pub Carried : List Deed → Directory → Directory → Type 0
Carried [] before after = (name : List ℕ) → after name ≡ before name
Carried (d ∷ ds) before after = (between : Directory) × Does d before between × Carried ds between after

-- what commits make of it one after another, each of all its groups
abbrev pub Committed : List (List Deed) → Directory → Directory → Type 0
Committed [] before after = (name : List ℕ) → after name ≡ before name
Committed (c ∷ cs) before after = (between : Directory) × Carried c before between × Committed cs between after

-- the deeds of commits in order
abbrev pub all_deeds : List (List Deed) → List Deed
all_deeds commits = flat_map (λ deeds. deeds) commits

abbrev pub sources_of : List (Source × Outcome) → List Source
sources_of order = map (λ s. s.0) order

abbrev pub all_names : List Source → List (List ℕ)
all_names sources = flat_map names_of sources

-- the plan's sources in some order, each with what the mirror has for it
pub record AreSettled (world : MirrorMap) (dir : Directory) (parts : PartFiles) (plan : Plan) (settings : Settings) (change : Change) (now : ℤ) (order : List (Source × Outcome)) : Type 0 where
  pub outcomes : Each (λ s. s.1 ≡ new_set world dir parts s.0 settings change now) order
  pub sources : (source : Source) → Contains plan.sources source ↔ Contains (sources_of order) source
  pub distinct : AllPairs (λ a b. a ≢ b) (all_names (sources_of order))

-- names of no source: all that the directory has, and maybe others, as of partial files
pub record AreLoose (dir : Directory) (plan : Plan) (loose : List (List ℕ)) : Type 0 where
  pub apart : (name : List ℕ) → Contains loose name → Contains (plan_names plan) name → ⊥
  pub all : (name : List ℕ) → (Contains (plan_names plan) name → ⊥) → (Contains loose name → ⊥) → dir name ≡ None

-- the deeds of a run, carried out in any order of its sources, leave what is next
abbrev pub DeedsLeadToNext : Type 0
DeedsLeadToNext =
    (world : MirrorMap) (dir : Directory) (parts : PartFiles) (plan : Plan) (settings : Settings) (change : Change) (now : ℤ)
    (order : List (Source × Outcome)) (loose : List (List ℕ)) (after : Directory)
    → AreSettled world dir parts plan settings change now order → AreLoose dir plan loose
    → Carried (deeds dir settings loose order) dir after
    → IsNext world dir parts plan settings change now after

-- the commits of a run do the same, whether they are made one by one in the order of settling or together in plan order
abbrev pub CommitsDoTheSame : Type 0
CommitsDoTheSame =
    (dir : Directory) (settings : Settings) (loose : List (List ℕ)) (settled planned : List (Source × Outcome))
    → ((s : Source × Outcome) → Contains settled s ↔ Contains planned s)
    → (deed : Deed)
    → Contains (all_deeds (commits false dir settings loose settled planned)) deed
    ↔ Contains (all_deeds (commits true dir settings loose settled planned)) deed

-- together they are one commit, or none where there is nothing to do
abbrev pub TogetherIsOneCommit : Type 0
TogetherIsOneCommit =
    (dir : Directory) (settings : Settings) (loose : List (List ℕ)) (settled planned : List (Source × Outcome))
    → length (commits true dir settings loose settled planned) ≤ 1

-- and in either form they leave what is next
abbrev pub CommitsLeadToNext : Type 0
CommitsLeadToNext =
    (together : Bool) (world : MirrorMap) (dir : Directory) (parts : PartFiles) (plan : Plan) (settings : Settings) (change : Change) (now : ℤ)
    (settled planned : List (Source × Outcome)) (loose : List (List ℕ)) (after : Directory)
    → AreSettled world dir parts plan settings change now settled → AreSettled world dir parts plan settings change now planned
    → AreLoose dir plan loose
    → Committed (commits together dir settings loose settled planned) dir after
    → IsNext world dir parts plan settings change now after

-- a sound plan has a directory that is next
abbrev pub NextIsThere : Type 0
NextIsThere =
    (world : MirrorMap) (dir : Directory) (parts : PartFiles) (plan : Plan) (settings : Settings) (change : Change) (now : ℤ)
    → IsSound plan → (after : Directory) × IsNext world dir parts plan settings change now after
