-- What makes a plan sound, so that no two of its files share a name.
use Rattle.std.specs.Prelude.{◌≡◌, ◌≢◌, ℕ, ◌≤◌, List, ◌∷◌, length, map, All, AllPairs}
use Rattle.std.specs.List.{flat_map}
use Rattle.acq_base.specs.declared.plan.Target.{Target}
use Rattle.acq_base.specs.declared.plan.Source.{Source}
use Rattle.acq_base.specs.declared.plan.Plan.{Plan}
use Rattle.acq_base.specs.Uri.{IsSound as IsSoundUri, list_name}

-- the list names of a source: its Release's, and those of its targets
abbrev pub names_of : Source → List (List ℕ)
names_of source = source.release_name.0 ∷ map (λ target. target.name.0) source.targets

-- the list names of all sources, in plan order: one for each source and target
abbrev pub plan_names : Plan → List (List ℕ)
plan_names plan = flat_map names_of plan.sources

-- a target is fetched from a sound URI and installed under that URI's list name
pub record IsSoundTarget (target : Target) : Type 0 where
  pub uri : IsSoundUri target.uri
  pub named : target.name.0 ≡ list_name target.uri

pub record IsSoundSource (source : Source) : Type 0 where
  pub base : IsSoundUri source.base
  pub release : IsSoundUri source.release
  pub named : source.release_name.0 ≡ list_name source.release
  pub targets : All IsSoundTarget source.targets

-- what holds of each source of a sound plan, for calls that take one source
pub record IsPlanned (source : Source) : Type 0 where
  pub sound : IsSoundSource source
  pub distinct : AllPairs (λ a b. a ≢ b) (names_of source)
  pub short : All (λ name. length name ≤ 240) (names_of source)
  pub few : length (names_of source) ≤ 4096

pub record IsSound (plan : Plan) : Type 0 where
  pub sources : All IsSoundSource plan.sources
  pub distinct : AllPairs (λ a b. a ≢ b) (plan_names plan)
  pub short : All (λ name. length name ≤ 240) (plan_names plan)
  pub few : length (plan_names plan) ≤ 4096
