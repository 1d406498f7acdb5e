-- Texts that count, in order, are those of some folder.
use Rattle.std.proofs.Common.{◌≡◌, ◌∙◌, refl, sym, ap, ap₂, subst, true≢false, inl, inr, ◌⊎◌, ℕ, Bool, true, false, cond, ◌&&◌, List, [], ◌∷◌, ◌++◌, map, Option, Some, None}
use Rattle.std.specs.Prelude.{◌==◌}
use Rattle.std.specs.Prelude.{nat_eq, unwrap_or}
use Rattle.std.specs.List.{list_all}
use Rattle.std.specs.Cmp.Lexicographic.{pointwise}
use Rattle.std.proofs.lemmas.Cmp.{nat_list_eq_equiv}
use Rattle.std.proofs.lemmas.List.{append-nil}
use Rattle.std.proofs.lemmas.Slice.Eq.{bytes_eq-Decides}
use Rattle.acq_outside.specs.Etc.{EtcFiles, bytes_at, folder_names, is_at, names_in, place_index}
use Rattle.acq_outside.specs.declared.etc.Place.{Place}
use Rattle.acq_outside.specs.declared.etc.Place.TheVariants.{SourcesList, SourcesParts, Conf, ConfParts}
use Rattle.configuration.specs.Answers.{IsOrdered, part_names}
use Rattle.configuration.specs.Folder.{Folder, FolderFile, folder_of, parts_at, text_at}
use Rattle.configuration.specs.Names.{counts, listing}
use Rattle.configuration.proofs.Order.{Name, IsIn, below_in, not_below_itself, ordered_head, ordered_tail, same_names}
use Rattle.configuration.proofs.Listing.{counts_listed, listed_counts, listing_ordered}

-- ---- names that count, in order, are their own listing

in_counted : (is_counted : Name → Bool) (names : List Name) (name : Name) → list_all is_counted names ≡ true → IsIn names name → is_counted name ≡ true
in_counted is_counted [] name all within = absurd within
in_counted is_counted (first ∷ others) name all within = go (is_counted first) refl all within (in_counted is_counted others name)
  where
    go : (b : Bool) → is_counted first ≡ b → (b && list_all is_counted others) ≡ true → (first ≡ name) ⊎ IsIn others name → (list_all is_counted others ≡ true → IsIn others name → is_counted name ≡ true) → is_counted name ≡ true
    go true e all (inl same) later = ap is_counted (sym same) ∙ e
    go true e all (inr rest) later = later all rest
    go false e all within later = absurd (true≢false (sym all))

pub own_listing : (is_counted : Name → Bool) (names : List Name) → IsOrdered names → list_all is_counted names ≡ true → listing is_counted names ≡ names
own_listing is_counted names order all =
    same_names (listing is_counted names) names (listing_ordered is_counted names) order
    (λ name within. (listed_counts is_counted names name within).0)
    (λ name within. counts_listed is_counted names name within (in_counted is_counted names name all within))

-- ---- the files of a folder

abbrev placed_at : Place → List FolderFile → EtcFiles
placed_at place parts = map (λ part. (place, part.0, part.1)) parts

abbrev single_at : Place → List ℕ → EtcFiles
single_at place text = (place, [], text) ∷ []

names_append : (a b : EtcFiles) (place : Place) → names_in (a ++ b) place ≡ names_in a place ++ names_in b place
names_append [] b place = refl
names_append (file ∷ a) b place = go (place_index file.0 == place_index place) (names_append a b place)
  where
    go : (here : Bool) → names_in (a ++ b) place ≡ names_in a place ++ names_in b place
        → cond here (file.1 ∷ names_in (a ++ b) place) (names_in (a ++ b) place) ≡ cond here (file.1 ∷ names_in a place) (names_in a place) ++ names_in b place
    go true rest = ap (λ (ns : List Name). file.1 ∷ ns) rest
    go false rest = rest

own_names : (place other : Place) (parts : List FolderFile) → (place_index place == place_index other) ≡ true → names_in (placed_at place parts) other ≡ part_names parts
own_names place other [] same = refl
own_names place other (part ∷ parts) same = rw same (ap (λ (ns : List Name). part.0 ∷ ns) (own_names place other parts same))

no_names : (place other : Place) (parts : List FolderFile) → (place_index place == place_index other) ≡ false → names_in (placed_at place parts) other ≡ []
no_names place other [] differ = refl
no_names place other (part ∷ parts) differ = rw differ (no_names place other parts differ)

-- the bytes in the first of two rows of files, or else in the second
abbrev first_of : Option (List ℕ) → Option (List ℕ) → Option (List ℕ)
first_of (Some bytes) later = Some bytes
first_of None later = later

bytes_append : (a b : EtcFiles) (place : Place) (name : Name) → bytes_at (a ++ b) place name ≡ first_of (bytes_at a place name) (bytes_at b place name)
bytes_append [] b place name = refl
bytes_append (file ∷ a) b place name = go (is_at file place name) (bytes_append a b place name)
  where
    go : (here : Bool) → bytes_at (a ++ b) place name ≡ first_of (bytes_at a place name) (bytes_at b place name)
        → cond here (Some file.2) (bytes_at (a ++ b) place name) ≡ first_of (cond here (Some file.2) (bytes_at a place name)) (bytes_at b place name)
    go true rest = refl
    go false rest = rest

no_bytes : (place other : Place) (parts : List FolderFile) (name : Name) → (place_index place == place_index other) ≡ false → bytes_at (placed_at place parts) other name ≡ None
no_bytes place other [] name differ = refl
no_bytes place other (part ∷ parts) name differ = rw differ (no_bytes place other parts name differ)

-- ---- the texts of parts in order

names_equal : (name : Name) → pointwise nat_eq name name ≡ true
names_equal name = nat_list_eq_equiv.refl name

names_differ : (a b : Name) → (a ≡ b → ⊥) → pointwise nat_eq a b ≡ false
names_differ a b differ = go (pointwise nat_eq a b) refl
  where
    go : (e : Bool) → pointwise nat_eq a b ≡ e → e ≡ false
    go true e = absurd (differ ((bytes_eq-Decides a b).0 e))
    go false e = refl

map_same : {B : Type 0} (f g : Name → B) (names : List Name) → ((name : Name) → IsIn names name → f name ≡ g name) → map f names ≡ map g names
map_same f g [] all = refl
map_same f g (name ∷ names) all = ap₂ (λ x xs. x ∷ xs) (all name (inl refl)) (map_same f g names (λ other within. all other (inr within)))

abbrev text_in : EtcFiles → Place → Name → FolderFile
text_in files place name = (name, unwrap_or (bytes_at files place name) [])

-- each part of a folder is found under its name
pub own_parts : (place : Place) (parts : List FolderFile) → (place_index place == place_index place) ≡ true → IsOrdered (part_names parts) → map (text_in (placed_at place parts) place) (part_names parts) ≡ parts
own_parts place [] same order = refl
own_parts place (part ∷ parts) same order =
    let names = part_names parts in
    let behind = ordered_tail part.0 names order in
    let first : text_in (placed_at place (part ∷ parts)) place part.0 ≡ part = rw (same, names_equal part.0) refl in
    let passes : (name : Name) → IsIn names name → text_in (placed_at place (part ∷ parts)) place name ≡ text_in (placed_at place parts) place name
    = λ name within. rw (same, names_differ part.0 name (λ (e : part.0 ≡ name). not_below_itself name (subst (λ (n : Name). Rattle.configuration.proofs.Order.cmp n name ≡ Rattle.std.specs.declared.cmp.Ordering.TheVariants.Less) e (below_in part.0 names name (ordered_head part.0 names order) within)))) refl in
    ap₂ (λ (x : FolderFile) (xs : List FolderFile). x ∷ xs) first
    (map_same (text_in (placed_at place (part ∷ parts)) place) (text_in (placed_at place parts) place) names passes ∙ own_parts place parts same behind)

-- ---- the folder

pub files_with : Folder → EtcFiles
files_with folder = placed_at ConfParts folder.conf_parts ++ (placed_at SourcesParts folder.list_parts ++ (single_at Conf folder.conf ++ single_at SourcesList folder.list))

conf_names : (folder : Folder) → folder_names (files_with folder) ConfParts ≡ part_names folder.conf_parts
unfolding files_with
conf_names folder =
    let singles = single_at Conf folder.conf ++ single_at SourcesList folder.list in
    names_append (placed_at ConfParts folder.conf_parts) (placed_at SourcesParts folder.list_parts ++ singles) ConfParts
    ∙ ap₂ (λ (a b : List Name). a ++ b) (own_names ConfParts ConfParts folder.conf_parts refl)
    (names_append (placed_at SourcesParts folder.list_parts) singles ConfParts ∙ ap (λ (a : List Name). a ++ []) (no_names SourcesParts ConfParts folder.list_parts refl))
    ∙ append-nil (part_names folder.conf_parts)

list_names : (folder : Folder) → folder_names (files_with folder) SourcesParts ≡ part_names folder.list_parts
unfolding files_with
list_names folder =
    let singles = single_at Conf folder.conf ++ single_at SourcesList folder.list in
    names_append (placed_at ConfParts folder.conf_parts) (placed_at SourcesParts folder.list_parts ++ singles) SourcesParts
    ∙ ap₂ (λ (a b : List Name). a ++ b) (no_names ConfParts SourcesParts folder.conf_parts refl)
    (names_append (placed_at SourcesParts folder.list_parts) singles SourcesParts ∙ ap (λ (a : List Name). a ++ []) (own_names SourcesParts SourcesParts folder.list_parts refl)
    ∙ append-nil (part_names folder.list_parts))

conf_bytes : (folder : Folder) (name : Name) → bytes_at (files_with folder) ConfParts name ≡ bytes_at (placed_at ConfParts folder.conf_parts) ConfParts name
unfolding files_with
conf_bytes folder name =
    let singles = single_at Conf folder.conf ++ single_at SourcesList folder.list in
    bytes_append (placed_at ConfParts folder.conf_parts) (placed_at SourcesParts folder.list_parts ++ singles) ConfParts name
    ∙ ap (first_of (bytes_at (placed_at ConfParts folder.conf_parts) ConfParts name))
    (bytes_append (placed_at SourcesParts folder.list_parts) singles ConfParts name ∙ ap (λ (b : Option (List ℕ)). first_of b None) (no_bytes SourcesParts ConfParts folder.list_parts name refl))
    ∙ none_behind (bytes_at (placed_at ConfParts folder.conf_parts) ConfParts name)
  where
    none_behind : (b : Option (List ℕ)) → first_of b None ≡ b
    none_behind (Some bytes) = refl
    none_behind None = refl

list_bytes : (folder : Folder) (name : Name) → bytes_at (files_with folder) SourcesParts name ≡ bytes_at (placed_at SourcesParts folder.list_parts) SourcesParts name
unfolding files_with
list_bytes folder name =
    let singles = single_at Conf folder.conf ++ single_at SourcesList folder.list in
    bytes_append (placed_at ConfParts folder.conf_parts) (placed_at SourcesParts folder.list_parts ++ singles) SourcesParts name
    ∙ ap (λ (b : Option (List ℕ)). first_of b (bytes_at (placed_at SourcesParts folder.list_parts ++ singles) SourcesParts name)) (no_bytes ConfParts SourcesParts folder.conf_parts name refl)
    ∙ bytes_append (placed_at SourcesParts folder.list_parts) singles SourcesParts name
    ∙ none_behind (bytes_at (placed_at SourcesParts folder.list_parts) SourcesParts name)
  where
    none_behind : (b : Option (List ℕ)) → first_of b None ≡ b
    none_behind (Some bytes) = refl
    none_behind None = refl

conf_text : (folder : Folder) → text_at (files_with folder) Conf [] ≡ folder.conf
unfolding files_with
conf_text folder =
    let singles = single_at Conf folder.conf ++ single_at SourcesList folder.list in
    ap (λ (b : Option (List ℕ)). unwrap_or b [])
    (bytes_append (placed_at ConfParts folder.conf_parts) (placed_at SourcesParts folder.list_parts ++ singles) Conf []
    ∙ ap (λ (b : Option (List ℕ)). first_of b (bytes_at (placed_at SourcesParts folder.list_parts ++ singles) Conf [])) (no_bytes ConfParts Conf folder.conf_parts [] refl)
    ∙ bytes_append (placed_at SourcesParts folder.list_parts) singles Conf []
    ∙ ap (λ (b : Option (List ℕ)). first_of b (bytes_at singles Conf [])) (no_bytes SourcesParts Conf folder.list_parts [] refl))

list_text : (folder : Folder) → text_at (files_with folder) SourcesList [] ≡ folder.list
unfolding files_with
list_text folder =
    let singles = single_at Conf folder.conf ++ single_at SourcesList folder.list in
    ap (λ (b : Option (List ℕ)). unwrap_or b [])
    (bytes_append (placed_at ConfParts folder.conf_parts) (placed_at SourcesParts folder.list_parts ++ singles) SourcesList []
    ∙ ap (λ (b : Option (List ℕ)). first_of b (bytes_at (placed_at SourcesParts folder.list_parts ++ singles) SourcesList [])) (no_bytes ConfParts SourcesList folder.conf_parts [] refl)
    ∙ bytes_append (placed_at SourcesParts folder.list_parts) singles SourcesList []
    ∙ ap (λ (b : Option (List ℕ)). first_of b (bytes_at singles SourcesList [])) (no_bytes SourcesParts SourcesList folder.list_parts [] refl))

abbrev CountIn : Place → List FolderFile → Type 0
CountIn place parts = IsOrdered (part_names parts) × (list_all (counts place) (part_names parts) ≡ true)

parts_found : (files : EtcFiles) (place : Place) (parts : List FolderFile) → (place_index place == place_index place) ≡ true → folder_names files place ≡ part_names parts
    → ((name : Name) → bytes_at files place name ≡ bytes_at (placed_at place parts) place name) → CountIn place parts → parts_at files place (listing (counts place) (folder_names files place)) ≡ parts
parts_found files place parts same names bytes count =
    ap (λ (ns : List Name). parts_at files place (listing (counts place) ns)) names
    ∙ ap (parts_at files place) (own_listing (counts place) (part_names parts) count.0 count.1)
    ∙ map_same (λ name. (name, text_at files place name)) (text_in (placed_at place parts) place) (part_names parts) (λ name within. ap (λ (b : Option (List ℕ)). (name, unwrap_or b [])) (bytes name))
    ∙ own_parts place parts same count.0

-- texts that count, in order, are those of these files
pub some_files : (folder : Folder) → CountIn ConfParts folder.conf_parts → CountIn SourcesParts folder.list_parts → (files : EtcFiles) × (folder_of files ≡ folder)
unfolding folder_of
some_files folder conf list =
    let files = files_with folder in
    let confs = parts_found files ConfParts folder.conf_parts refl (conf_names folder) (conf_bytes folder) conf in
    let lists = parts_found files SourcesParts folder.list_parts refl (list_names folder) (list_bytes folder) list in
    (files, λ i. record { conf_parts = confs i; conf = conf_text folder i; list = list_text folder i; list_parts = lists i })
