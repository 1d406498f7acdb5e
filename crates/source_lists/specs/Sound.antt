-- What every entry is like that the readers give: what a plan that is made of it relies on.
use Rattle.std.specs.Prelude.{◌≡◌, ◌≢◌, ℕ, true, List, [], All, IfSome}
use Rattle.acq_base.specs.declared.uri.Uri.{Uri}
use Rattle.acq_base.specs.Settings.{IsArchitecture}
use Rattle.acq_base.specs.Uri.{IsSound as IsSoundUri}
use Rattle.uri_names.specs.Normal.{IsBase}
use Rattle.source_lists.specs.declared.entry.Entry.{Entry}
use Rattle.source_lists.specs.Values.{is_path, is_component, is_exact, is_empty}

-- a base URI as `read_base` gives it
pub record IsReadBase (uri : Uri) : Type 0 where
  pub base : IsBase uri
  pub sound : IsSoundUri uri

abbrev pub IsPath : List ℕ → Type 0
IsPath text = is_path text ≡ true

abbrev pub IsComponent : List ℕ → Type 0
IsComponent text = is_component text ≡ true

-- at least one architecture
pub record AreArchitectures (archs : List (List ℕ)) : Type 0 where
  pub some : archs ≢ []
  pub all : All IsArchitecture archs

pub record IsSound (entry : Entry) : Type 0 where
  pub uri : IsReadBase entry.uri
  pub suite : IsPath entry.suite
  -- an exact path has no component, and any other suite has one
  pub exact : is_exact entry.suite ≡ is_empty entry.components
  pub components : All IsComponent entry.components
  pub archs : IfSome entry.archs AreArchitectures
