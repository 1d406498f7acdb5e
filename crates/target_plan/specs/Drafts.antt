-- The sources that entries name, and the lists planned for each.
use Rattle.std.specs.Prelude.{ℕ, ◌&&◌, Bool, if◌then◌else◌, List, [], ◌∷◌, ◌++◌, map, filter, codes, bytes_eq, unwrap_or}
use Rattle.std.specs.List.{flat_map}
use Rattle.acq_base.specs.declared.plan.ByHash.{ByHash}
use Rattle.acq_base.specs.declared.plan.Target.{Target}
use Rattle.acq_base.specs.declared.plan.Source.{Source}
use Rattle.acq_base.specs.declared.settings.Pick.{Pick}
use Rattle.acq_base.specs.declared.settings.Settings.{Settings}
use Rattle.acq_base.specs.declared.uri.Uri.{Uri}
use Rattle.acq_base.specs.Uri.{same_uri, list_name}
use Rattle.uri_names.specs.Folder.{below_of}
use Rattle.kept_hooks.specs.Picking.{is_picked}
use Rattle.source_lists.specs.declared.entry.Entry.{Entry}
use Rattle.target_plan.specs.declared.offers.Offer.{Offer}
use Rattle.target_plan.specs.declared.draft.Planned.{Planned}
use Rattle.target_plan.specs.declared.draft.Draft.{Draft}
use Rattle.target_plan.specs.declared.checks.File.{File}
use Rattle.target_plan.specs.Groups.{first_of_each, together}
use Rattle.target_plan.specs.Offers.{is_exact, place_of, offers_of}

-- ---- sources

-- entries of one base URI and suite are of one source
unfoldable pub is_same_source : Entry → Entry → Bool
is_same_source a b = same_uri a.uri b.uri && bytes_eq a.suite b.suite

-- that of the first entry that sets it, else the setting's
unfoldable pub by_hash_of : ByHash → List Entry → ByHash
by_hash_of setting [] = setting
by_hash_of setting (entry ∷ entries) = unwrap_or entry.by_hash (by_hash_of setting entries)

unfoldable pub pdiffs_of : Bool → List Entry → Bool
pdiffs_of setting [] = setting
pdiffs_of setting (entry ∷ entries) = unwrap_or entry.pdiffs (pdiffs_of setting entries)

-- the folder of a source's Release below its base: the exact path, of which `/` is the base itself, or `dists/SUITE/`
unfoldable pub folder_of : List ℕ → List ℕ
folder_of suite =
    if bytes_eq suite (codes "/") then []
    else if is_exact suite then suite
    else codes "dists/" ++ suite ++ codes "/"

-- a file in that folder
abbrev pub file_uri : Entry → List ℕ → Uri
file_uri entry path = below_of entry.uri (folder_of entry.suite ++ path)

-- ---- lists

abbrev pub target_of : Entry → Offer → Target
target_of entry offer =
    let uri = file_uri entry offer.path in
    record { path = offer.path; uri = uri; name = record { 0 = list_name uri }; kind = offer.kind }

abbrev pub planned_of : Entry → Offer → Planned
planned_of entry offer = record { target = target_of entry offer; origin = offer.origin }

abbrev pub name_of : Planned → List ℕ
name_of planned = planned.target.name.0

abbrev pub is_same_name : Planned → Planned → Bool
is_same_name a b = bytes_eq (name_of a) (name_of b)

-- the lists of these offers that are picked
abbrev pub picked_of : Pick → Entry → List Offer → List Planned
picked_of pick entry offers = filter (λ planned. is_picked pick planned.target) (map (planned_of entry) offers)

-- and of those of one name the first
unfoldable pub lists_of : Pick → Entry → List Offer → List Planned
lists_of pick entry offers = first_of_each is_same_name (picked_of pick entry offers)

-- ---- drafts

-- a source without its lists
unfoldable pub source_of : Settings → Entry → List Entry → Source
source_of settings entry entries =
    let release = file_uri entry (codes "Release") in
    record {
      base = entry.uri;
      suite = entry.suite;
      release = release;
      release_name = record { 0 = list_name release };
      by_hash = by_hash_of settings.by_hash entries;
      pdiffs = pdiffs_of settings.pdiffs entries;
      targets = [];
    }

-- a source of a first entry and all its entries
unfoldable pub draft_of : Pick → Settings → Entry × List Entry → Draft
draft_of pick settings group = record {
  source = source_of settings group.0 group.1;
  origin = place_of group.0;
  lists = lists_of pick group.0 (offers_of settings group.0.suite group.1);
}

-- all sources, in the order in which the entries first name them
unfoldable pub drafts_of : Pick → Settings → List Entry → List Draft
drafts_of pick settings entries = map (draft_of pick settings) (together is_same_source entries)

-- ---- files

abbrev pub file_of : Planned → File
file_of planned = record { name = planned.target.name; origin = planned.origin }

-- a source's files: its Release and its lists, each with the entry that first gave it
unfoldable pub files_of : Draft → List File
files_of draft = record { name = draft.source.release_name; origin = draft.origin } ∷ map file_of draft.lists

-- the files of all sources, in plan order
unfoldable pub files_in : List Draft → List File
files_in drafts = flat_map files_of drafts

abbrev pub target_in : Planned → Target
target_in planned = planned.target

-- a source with its lists
unfoldable pub finished : Draft → Source
finished draft = record draft.source { targets = map target_in draft.lists }
