-- With what a run begins, as it is read.
use Rattle.std.specs.Prelude.{ℕ, ◌-◌, ◌^◌, List, length, map}
use Rattle.std.specs.List.{flat_map}
use Rattle.acq_base.specs.declared.plan.Source.{Source}
use Rattle.acq_base.specs.declared.plan.Target.{Target}
use Rattle.acq_base.specs.declared.uri.ListName.{ListName}
use Rattle.acq_outside.specs.Crash.{State}
use Rattle.journal_model.specs.Rest.{part_bytes, size_below}

-- from which byte a list on its way may be resumed
abbrev pub size_of : List State → Target → ListName × ℕ
size_of now target = (target.name, size_below (2 ^ 64 - 1) (length (part_bytes now target.name.0)))

abbrev pub sizes_in : List State → Source → List (ListName × ℕ)
sizes_in now source = map (size_of now) source.targets

-- those of all targets, in plan order
abbrev pub sizes_of : List State → List Source → List (ListName × ℕ)
sizes_of now sources = flat_map (sizes_in now) sources
