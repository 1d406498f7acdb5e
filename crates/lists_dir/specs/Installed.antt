-- What is installed of a source.
use Rattle.std.specs.Prelude.{ℕ, List, [], ◌∷◌, map, Option, Some, None}
use Rattle.std.specs.List.{flat_map}
use Rattle.acq_base.specs.declared.installed.Old.{Old}
use Rattle.acq_base.specs.declared.plan.Source.{Source}
use Rattle.acq_base.specs.declared.plan.Target.{Target}
use Rattle.acq_base.specs.declared.uri.ListName.{ListName}
use Rattle.acq_outside.specs.Disk.{Files}

-- the names of a source's targets, in order
abbrev pub target_names : Source → List ListName
target_names source = map (λ target. target.name) source.targets

-- a target's file under its name, if there is one
abbrev pub listed : Target → Option (List ℕ) → List (ListName × List ℕ)
listed target None = []
listed target (Some bytes) = (target.name, bytes) ∷ []

-- the files under the targets' names, in order
abbrev pub lists_of : Files → List Target → List (ListName × List ℕ)
lists_of files targets = flat_map (λ target. listed target (files target.name.0)) targets

abbrev pub installed_of : Files → Source → Old
installed_of files source = record { release = files source.release_name.0; lists = lists_of files source.targets }
