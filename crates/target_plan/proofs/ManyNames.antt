-- Sources and lists that are too many, where the digests of their names differ and none of these is too long.
use Rattle.std.proofs.Common.{◌≡◌, ◌≢◌, ℕ, ◌<◌, ◌≤◌, ◌==◌, ◌&&◌, ◌+◌, nat_lt, Bool, true, false, cond, List, [], ◌∷◌, ◌++◌, map, take, get_or, length, Some, None, refl, sym, ap, ◌∙◌, subst, codes, append_assoc, arith}
use Rattle.std.specs.Prelude.{bytes_eq}
use Rattle.std.specs.List.{All, AllPairs, flat_map}
use Rattle.std.proofs.lemmas.Bool.{eqb-true, and_parts}
use Rattle.std.proofs.lemmas.Bool.Decides.{nat_tests}
use Rattle.std.proofs.lemmas.List.{map-append, length-map, take_more}
use Rattle.std.proofs.lemmas.List.Elements.{All-head, All-tail}
use Rattle.std.proofs.lemmas.Slice.Eq.{bytes_eq-Decides}
use Rattle.acq_base.specs.declared.settings.Pick.{Pick}
use Rattle.acq_base.specs.declared.settings.Settings.{Settings}
use Rattle.source_lists.specs.declared.entry.Entry.{Entry}
use Rattle.target_plan.specs.declared.checks.File.{File}
use Rattle.target_plan.specs.declared.draft.Planned.{Planned}
use Rattle.target_plan.specs.declared.error.PlanError.TheVariants.{LongName, TooMany}
use Rattle.acq_base.specs.declared.uri.Uri.{Uri}
use Rattle.acq_base.specs.Uri.{list_name, same_uri, scheme_index}
use Rattle.acq_base.proofs.Uris.{scheme_is}
use Rattle.uri_names.specs.Folder.{below_of}
use Rattle.target_plan.specs.Drafts.{is_same_source, folder_of, file_uri, name_of, is_same_name, picked_of, lists_of, source_of, draft_of, file_of, files_of, files_in}
use Rattle.target_plan.specs.Groups.{together}
use Rattle.target_plan.specs.declared.marks.Mark.{Mark}
use Rattle.target_plan.specs.Marks.{digest_of, AreMarked, IsFolderMark, alone, names_of}
use Rattle.target_plan.specs.Offers.{offers_of}
use Rattle.target_plan.specs.Planning.{or_else, long_name, clash_of, clash_with, clash_behind, too_many, refusal_of}
use Rattle.target_plan.specs.Seen.{key_of, key_cmp}
use Rattle.target_plan.proofs.Clashes.{file_name}
use Rattle.target_plan.proofs.Grouping.{laws_of_keys}
use Rattle.target_plan.proofs.GroupLemmas.{key_total, same_key}
use Rattle.target_plan.proofs.Lone.{AllOther, Lone, lone_left, lone_right, lone_first, lone_back, lone_from, lone_groups}

abbrev IsShort : List ℕ → Type 0
IsShort name = length name ≤ 240

abbrev LoneNames : List (List ℕ) → Type 0
LoneNames names = Lone bytes_eq names

-- ---- no refusal but that they are too many

not-above : (n : ℕ) → n ≤ 240 → nat_lt 240 n ≡ false
not-above n within = grind (arith, nat_tests)

above : (n : ℕ) → 4096 < n → nat_lt 4096 n ≡ true
above n many = grind (arith, nat_tests)

none-long : (files : List File) → All IsShort (map file_name files) → long_name files ≡ None
unfolding long_name
none-long [] short = refl
none-long (f ∷ files) short =
    let here = not-above (length (file_name f)) (All-head IsShort (file_name f) (map file_name files) short) in
    (λ i. or_else (cond (here i) (Some (LongName f.name)) None) (long_name files)) ∙ none-long files (All-tail IsShort (file_name f) (map file_name files) short)

apart-from : (name : List ℕ) (front : List (List ℕ)) (other : List ℕ) (back : List (List ℕ)) → AllOther bytes_eq name (front ++ other ∷ back) → bytes_eq name other ≡ false
apart-from name [] other back apart = apart.0
apart-from name (n ∷ front) other back apart = apart-from name front other back apart.2

none-earlier : (earlier : List File) (f : File) (files : List File) → LoneNames (map file_name earlier ++ file_name f ∷ map file_name files) → clash_with earlier f ≡ None
unfolding clash_with
none-earlier [] f files lone = refl
none-earlier (g ∷ earlier) f files lone =
    ap (λ (b : Bool). cond b (Some (clash_of g f)) (clash_with earlier f)) (apart-from (file_name g) (map file_name earlier) (file_name f) (map file_name files) lone.0) ∙ none-earlier earlier f files lone.1

none-clash : (earlier files : List File) → LoneNames (map file_name earlier ++ map file_name files) → clash_behind earlier files ≡ None
unfolding clash_behind
none-clash earlier [] lone = refl
none-clash earlier (f ∷ files) lone =
    let moved : LoneNames (map file_name (earlier ++ f ∷ []) ++ map file_name files) =
    subst LoneNames (sym (ap (λ (names : List (List ℕ)). names ++ map file_name files) (map-append file_name earlier (f ∷ [])) ∙ append_assoc (map file_name earlier) (file_name f ∷ []) (map file_name files))) lone in
    (λ i. or_else (none-earlier earlier f files lone i) (none-clash (earlier ++ f ∷ []) files moved i))

many-refused : (files : List File) → All IsShort (map file_name files) → LoneNames (map file_name files) → 4096 < length files → refusal_of files ≡ Some TooMany
unfolding refusal_of too_many
many-refused files short lone many =
    λ i. or_else (none-long files short i) (or_else (none-clash [] files lone i) (cond (above (length files) many i) (Some TooMany) None))

-- ---- the names of a source's files, where no two are the same

list-names : (lists : List Planned) → map file_name (map file_of lists) ≡ map name_of lists
list-names [] = refl
list-names (planned ∷ lists) = ap (λ (names : List (List ℕ)). name_of planned ∷ names) (list-names lists)

module _ (pick : Pick) (settings : Settings) where
  source-names : (group : Entry × List Entry) → LoneNames (names_of pick settings group) → map file_name (files_of (draft_of pick settings group)) ≡ names_of pick settings group
  unfolding files_of draft_of source_of lists_of
  source-names group lone =
      let planned = picked_of pick group.0 (offers_of settings group.0.suite group.1) in
      let firsts = lone_first is_same_name planned (lone_back bytes_eq name_of planned lone.1) in
      ap (λ (names : List (List ℕ)). list_name (file_uri group.0 (codes "Release")) ∷ names) (list-names (lists_of pick group.0 (offers_of settings group.0.suite group.1)) ∙ ap (map name_of) firsts)

  all-names : (groups : List (Entry × List Entry)) → LoneNames (flat_map (names_of pick settings) groups) → map file_name (files_in (map (draft_of pick settings) groups)) ≡ flat_map (names_of pick settings) groups
  unfolding files_in
  all-names [] lone = refl
  all-names (group ∷ groups) lone =
      let here = names_of pick settings group in
      let rest = flat_map (names_of pick settings) groups in
      map-append file_name (files_of (draft_of pick settings group)) (flat_map files_of (map (draft_of pick settings) groups))
      ∙ (λ i. source-names group (lone_left bytes_eq here rest lone) i ++ all-names groups (lone_right bytes_eq here rest lone) i)

  pub overfull : (groups : List (Entry × List Entry)) (digests : List ℕ) → AreMarked (flat_map (names_of pick settings) groups) [] digests → AllPairs (λ (a b : ℕ). a ≢ b) digests → 4096 < length digests
      → refusal_of (files_in (map (draft_of pick settings) groups)) ≡ Some TooMany
  overfull groups digests marked apart many =
      let names = flat_map (names_of pick settings) groups in
      let files = files_in (map (draft_of pick settings) groups) in
      let lone : LoneNames names = lone_from bytes_eq digest_of (λ a b e. ap digest_of ((bytes_eq-Decides a b).0 e)) names (subst (AllPairs (λ (a b : ℕ). a ≢ b)) marked.added apart) in
      let are = all-names groups lone in
      let counted : length files ≡ length digests = sym (length-map files file_name) ∙ ap length are ∙ sym (length-map names digest_of) ∙ ap length (sym marked.added) in
      many-refused files (subst (All IsShort) (sym are) marked.short) (subst LoneNames (sym are) lone) (subst (λ (n : ℕ). 4096 < n) (sym counted) many)

-- ---- entries of different sources

abbrev pub folder_digest : Entry → ℕ
folder_digest entry = digest_of (list_name (file_uri entry []))

uris : (a b : Uri) → same_uri a b ≡ true → a ≡ b
uris a b e =
    let s = scheme_index a.scheme == scheme_index b.scheme in
    let h = bytes_eq a.host b.host in
    let p = a.port == b.port in
    let q = bytes_eq a.path b.path in
    let path = and_parts (s && h && p) q e in
    let port = and_parts (s && h) p path.0 in
    let host = and_parts s h port.0 in
    λ i. record {
      scheme = scheme_is a.scheme b.scheme host.0 i;
      host = (bytes_eq-Decides a.host b.host).0 host.1 i;
      port = eqb-true a.port b.port port.1 i;
      path = (bytes_eq-Decides a.path b.path).0 path.1 i;
    }

same-folder : (a b : Entry) → is_same_source a b ≡ true → folder_digest a ≡ folder_digest b
unfolding is_same_source
same-folder a b e =
    let both = and_parts (same_uri a.uri b.uri) (bytes_eq a.suite b.suite) e in
    λ i. digest_of (list_name (below_of (uris a.uri b.uri both.0 i) (folder_of ((bytes_eq-Decides a.suite b.suite).0 both.1 i) ++ [])))

pub folders_more : (entries : List Entry) (i : ℕ) (x : Entry) (mark : Mark) (old new : List ℕ) → i < length entries → x ≡ get_or entries i x → IsFolderMark x mark
    → old ≡ map folder_digest (take i entries) → new ≡ old ++ mark.digest ∷ [] → new ≡ map folder_digest (take (i + 1) entries)
folders_more entries i x mark old new within is of so_far added =
    added ∙ (λ j. so_far j ++ (of.is j).digest ∷ []) ∙ sym (map-append folder_digest (take i entries) (x ∷ []))
    ∙ ap (map folder_digest) (ap (λ (entry : Entry). take i entries ++ entry ∷ []) is ∙ sym (take_more entries i x within))

-- where the names of their folders differ, each is of a source of its own
pub alone_by_folders : (entries : List Entry) (digests : List ℕ) → digests ≡ map folder_digest entries → AllPairs (λ (a b : ℕ). a ≢ b) digests → together is_same_source entries ≡ map alone entries
alone_by_folders entries digests are apart =
    lone_groups is_same_source (laws_of_keys is_same_source key_cmp key_total key_of same_key).refl entries (lone_from is_same_source folder_digest same-folder entries (subst (AllPairs (λ (a b : ℕ). a ≢ b)) are apart))
