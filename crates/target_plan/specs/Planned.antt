-- What every source of a plan keeps, whatever the entries are.
use Rattle.std.specs.Prelude.{◌≡◌, ◌&&◌, Bool, true, All, bytes_eq}
use Rattle.acq_base.specs.declared.plan.Source.{Source}
use Rattle.acq_base.specs.declared.plan.Target.{Target}
use Rattle.acq_base.specs.declared.settings.Pick.{Pick}
use Rattle.acq_base.specs.Uri.{same_uri, list_name}
use Rattle.kept_hooks.specs.Picking.{is_picked}
use Rattle.source_lists.specs.declared.entry.Entry.{Entry}

abbrev pub IsPickedTarget : Pick → Target → Type 0
IsPickedTarget pick target = is_picked pick target ≡ true

-- all its targets are of kinds that are picked
abbrev pub HasPicked : Pick → Source → Type 0
HasPicked pick source = All (IsPickedTarget pick) source.targets

-- a target is installed under the list name of its URI
abbrev pub IsNamedTarget : Target → Type 0
IsNamedTarget target = target.name.0 ≡ list_name target.uri

-- its Release and its targets are installed under the list names of their URIs
pub record HasNames (source : Source) : Type 0 where
  pub release : source.release_name.0 ≡ list_name source.release
  pub targets : All IsNamedTarget source.targets

-- an entry names a source, by its base URI and suite
abbrev pub names : Source → Entry → Bool
names source entry = same_uri source.base entry.uri && bytes_eq source.suite entry.suite
