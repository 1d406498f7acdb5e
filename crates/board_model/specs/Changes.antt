-- What the changes of a settled source make of the folder of lists.
use Rattle.std.specs.Prelude.{◌≡◌, ℕ, List, [], ◌∷◌, ◌++◌, map, Option, Some, None, option_map, IfSome}
use Rattle.std.specs.List.{AllByRecursion as Each}
use Rattle.acq_base.specs.Sum.{sum_of}
use Rattle.acq_base.specs.declared.installed.Old.{Old}
use Rattle.acq_base.specs.declared.plan.Source.{Source}
use Rattle.update_model.specs.Carried.{StaysBeside}
use Rattle.update_model.specs.Files.{sum_of_body}
use Rattle.update_model.specs.Outcomes.{Directory}
use Rattle.update_model.specs.declared.settled.Settled.{Settled}
use Rattle.board_model.specs.Keys.{named}

abbrev pub release_name_in : Source → Option (List ℕ) → List (List ℕ)
release_name_in source None = []
release_name_in source (Some bytes) = source.release_name.0 ∷ []

-- the names whose files change
abbrev pub touched : Source → Settled → List (List ℕ)
touched source settled =
    release_name_in source settled.release ++ map (λ put. put.0.0) settled.puts ++ map (λ name. name.0) settled.drops

-- the Release and the lists are put, each a file of its sum, the lists that go are gone, and nothing else changes
pub record AreMade (source : Source) (settled : Settled) (before after : Directory) : Type 0 where
  pub release : IfSome settled.release (λ bytes. after source.release_name.0 ≡ Some bytes)
  pub puts : Each (λ put. option_map sum_of (after put.0.0) ≡ Some (sum_of_body put.1)) settled.puts
  pub drops : Each (λ name. after name.0 ≡ None) settled.drops
  pub others : StaysBeside (touched source settled) before after

-- a directory has what is installed of a source under its names
pub record IsInstalled (source : Source) (old : Old) (dir : Directory) : Type 0 where
  pub release : old.release ≡ dir source.release_name.0
  pub lists : Each (λ target. named old.lists target.name.0 ≡ dir target.name.0) source.targets
