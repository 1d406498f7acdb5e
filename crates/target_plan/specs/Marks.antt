-- Names, their marks, and where sources are so plain that their names are told without their URIs.
use Rattle.std.specs.Prelude.{◌≡◌, ℕ, ◌+◌, ◌-◌, ◌*◌, ◌^◌, ◌%◌, ◌≤◌, ◌==◌, ◌&&◌, min, not, Bool, true, false, List, [], ◌∷◌, ◌++◌, map, fold, codes, length, All, None}
use Rattle.std.specs.List.{flat_map}
use Rattle.acq_base.specs.declared.settings.Pick.{Pick}
use Rattle.acq_base.specs.declared.settings.Settings.{Settings}
use Rattle.acq_base.specs.declared.uri.Scheme.{Scheme}
use Rattle.acq_base.specs.declared.uri.Scheme.TheVariants.{Http, File}
use Rattle.acq_base.specs.declared.uri.Uri.{Uri}
use Rattle.acq_base.specs.Uri.{list_name, name_byte, port_text}
use Rattle.source_lists.specs.declared.entry.Entry.{Entry}
use Rattle.target_plan.specs.declared.draft.Planned.{Planned}
use Rattle.target_plan.specs.declared.marks.Mark.{Mark}
use Rattle.target_plan.specs.declared.offers.Offer.{Offer}
use Rattle.target_plan.specs.Drafts.{file_uri, folder_of, name_of, picked_of}
use Rattle.target_plan.specs.Offers.{component_offers, is_exact, offers_of}

-- ---- marks

unfoldable pub step : Mark → ℕ → Mark
step mark byte = record { size = min (mark.size + 1) (2 ^ 64 - 1); digest = (mark.digest * 1099511628211 + byte) % 2 ^ 64 }

abbrev pub start : Mark
start = record { size = 0; digest = 0 }

-- the mark of a name
abbrev pub mark_of : List ℕ → Mark
mark_of name = fold step start name

abbrev pub digest_of : List ℕ → ℕ
digest_of name = (mark_of name).digest

-- the digests of these names came in, and none of the names is too long
pub record AreMarked (names : List (List ℕ)) (old new : List ℕ) : Type 0 where
  pub added : new ≡ old ++ map digest_of names
  pub short : All (λ (name : List ℕ). length name ≤ 240) names

-- ---- paths without dot segments

-- no segment begins with a dot; the path goes on behind a slash, or within a segment
unfoldable pub plain_from : Bool → List ℕ → Bool
plain_from after_slash [] = true
plain_from after_slash (c ∷ cs) = not (after_slash && (c == 46)) && plain_from (c == 47) cs

abbrev pub is_plain : List ℕ → Bool
is_plain path = plain_from true path

abbrev pub IsPlain : List ℕ → Type 0
IsPlain path = is_plain path ≡ true

-- what stands in a list name for a part of a path
abbrev pub escaped : List ℕ → List ℕ
escaped path = flat_map name_byte path

-- what stands in list names before the path
unfoldable pub head_of_parts : Scheme → List ℕ → ℕ → List ℕ
head_of_parts Http host port = escaped host ++ escaped (port_text port)
head_of_parts File host port = []

abbrev pub head_of : Uri → List ℕ
head_of uri = head_of_parts uri.scheme uri.host uri.port

-- the mark behind what stands in list names for a path and the folder of a suite
abbrev pub behind_folder : Mark → List ℕ → List ℕ → Mark
behind_folder head path suite =
    fold step (fold step (fold step (fold step head (escaped path)) (escaped (codes "dists/"))) (escaped suite)) (escaped (codes "/"))

-- ---- the names of a source's files

-- an entry whose source has no other entry
abbrev pub alone : Entry → Entry × List Entry
alone entry = (entry, entry ∷ [])

-- its Release's, and those of its lists, of which some may be the same
abbrev pub names_of : Pick → Settings → Entry × List Entry → List (List ℕ)
names_of pick settings group =
    list_name (file_uri group.0 (codes "Release")) ∷ map name_of (picked_of pick group.0 (offers_of settings group.0.suite group.1))

-- what an entry offers of a component without a name
abbrev pub bare_offers : Settings → Entry → List Offer
bare_offers settings entry = component_offers settings (([], entry), ([], entry) ∷ [])

abbrev pub path_of : Planned → List ℕ
path_of planned = planned.target.path

-- the paths of the lists that an entry gives of a component, behind the component
abbrev pub tails_of : Pick → Settings → Entry → List (List ℕ)
tails_of pick settings entry = map path_of (picked_of pick entry (bare_offers settings entry))

-- these stand for them in list names
pub record AreTails (pick : Pick) (settings : Settings) (entry : Entry) (tails : List (List ℕ)) : Type 0 where
  pub are : tails ≡ map escaped (tails_of pick settings entry)
  pub plain : All IsPlain (tails_of pick settings entry)

-- the names of lists behind a component
abbrev pub names_behind : List ℕ → List (List ℕ) → List (List ℕ)
names_behind front tails = map (λ (tail : List ℕ). front ++ tail) tails

-- the names of the files in a folder
abbrev pub names_below : List ℕ → List (List ℕ) → List (List ℕ) → List (List ℕ)
names_below front components tails = (front ++ codes "Release") ∷ flat_map (λ (component : List ℕ). names_behind (front ++ escaped component) tails) components

abbrev pub MarksLists : Mark → List (List ℕ) → List ℕ → List ℕ → Type 0
MarksLists mark tails old new = (front : List ℕ) → mark ≡ mark_of front → AreMarked (names_behind front tails) old new

pub record MarksFiles (folder : Mark) (components tails : List (List ℕ)) (old new : List ℕ) : Type 0 where
  pub marked : (front : List ℕ) → folder ≡ mark_of front → AreMarked (names_below front components tails) old new
  pub plain : All IsPlain components

-- the folder of a source is no exact path, and its names begin with this mark
pub record IsFolderMark (first : Entry) (mark : Mark) : Type 0 where
  pub suite : is_exact first.suite ≡ false
  pub base : IsPlain first.uri.path
  pub folder : IsPlain (folder_of first.suite)
  pub is : mark ≡ mark_of (list_name (file_uri first []))

-- two entries that offer the same of a component
pub record IsAlike (a b : Entry) : Type 0 where
  pub binary : a.binary ≡ b.binary
  pub source : a.source ≡ b.source
  pub one : a.archs ≡ None
  pub other : b.archs ≡ None
