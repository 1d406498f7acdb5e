-- The rows that a crash leaves: what a disk may begin with, and the files that the choice stands for.
use Rattle.std.proofs.Common.{◌≡◌, refl, sym, ap, subst, ◌∙◌, ◌+◌, ℕ, List, [], ◌∷◌, ◌++◌, Bool, true, false, cond, if◌then◌else◌, map, get_or, Option, Some, None, option_map}
use Rattle.std.proofs.Math.Path.{fun_ext}
use Rattle.std.specs.Ordering.{nat_cmp, is_eq}
use Rattle.std.specs.declared.cmp.Ordering.TheVariants.{Less}
use Rattle.std.specs.List.{AllByRecursion, list_any}
use Rattle.std.specs.List.Sorted.{IsStrictlySortedBy}
use Rattle.std.specs.Map.{keys_of, lookup}
use Rattle.std.specs.Cmp.Lexicographic.{slice_cmp}
use Rattle.std.specs.BTreeMap.{BTreeMap, IsOrdered, is_at}
use Rattle.std.proofs.lemmas.List.Elements.{All-from_recursion}
use Rattle.std.proofs.lemmas.Cmp.{nat_list_eq_equiv}
use Rattle.std.proofs.lemmas.Map.Entries.{lookup_head, lookup_tail}
use Rattle.std.proofs.lemmas.Map.Text.{is_eq-slice_cmp}
use Rattle.std.proofs.lemmas.Slice.Eq.{bytes_eq-Decides}
use Rattle.acq_outside.specs.Disk.{IsName, same_name}
use Rattle.acq_outside.specs.History.{FileRows, IsStart, names_differ, start_files}
use Rattle.acq_memory.specs.Held.{IsNamed, AreNamed}
use Rattle.acq_outside.specs.Crash.{State, Names, IsSubsequence, none, left_out, taken, with_name, moved_name, renamed, all_renamed, names_of, number_of, on_file, with_change, cut_or_made, after, start_state, trace_after, newest, file_written, file_cut, synced}
use Rattle.acq_outside.specs.Choice.{drawn_part, drawn_files, image_of}
use Rattle.acq_memory.specs.Replay.{GivesName, AllGiveNames, LeadsFromNames, HasOnlyNames, names_in, rows_in}
use Rattle.acq_outside.specs.declared.change.DiskCall.{DiskCall}
use Rattle.acq_outside.specs.declared.change.DiskCall.TheVariants.{Write, Cut, Sync, Rename, Remove, SyncNames}
use Rattle.acq_outside.specs.declared.state.FileState.{FileState}
use Rattle.acq_outside.specs.declared.state.NameChange.{NameChange}
use Rattle.acq_outside.specs.declared.state.NameChange.TheVariants.{Made, Moved, Removed}
use Rattle.acq_outside.proofs.Choices.{drawn_is_part}

-- Names: each that leads anywhere is one that a disk may have.
named-at : (names : Names) (name other : List ℕ) (file : Option ℕ) (i : ℕ) → LeadsFromNames names → ((k : ℕ) → file ≡ Some k → IsName name) → (t : Bool) → same_name name other ≡ t → (if t then file else names other) ≡ Some i → IsName other
named-at names name other file i leads named true same is = subst (λ (n : List ℕ). IsName n) ((bytes_eq-Decides name other).0 same) (named i is)
named-at names name other file i leads named false same is = leads.named other i is

named_with : (names : Names) (name : List ℕ) (file : Option ℕ) → LeadsFromNames names → ((k : ℕ) → file ≡ Some k → IsName name) → LeadsFromNames (with_name names name file)
named_with names name file leads named = record { named = λ other i is. named-at names name other file i leads named (same_name name other) refl is }

named_without : (names : Names) (name : List ℕ) → LeadsFromNames names → LeadsFromNames (with_name names name None)
named_without names name leads = named_with names name None leads (λ k is. absurd cc)

named_moved : (names : Names) (from to : List ℕ) (o : Option ℕ) → LeadsFromNames names → IsName to → LeadsFromNames (moved_name names from to o)
named_moved names from to None leads named = leads
named_moved names from to (Some i) leads named = named_with (with_name names from None) to (Some i) (named_without names from leads) (λ k is. named)

named_renamed : (names : Names) (change : NameChange) → LeadsFromNames names → GivesName change → LeadsFromNames (renamed names change)
named_renamed names (Made name i) leads gives = named_with names name (Some i) leads (λ k is. gives)
named_renamed names (Moved from to) leads gives = named_moved names from to (names from) leads gives
named_renamed names (Removed name) leads gives = named_without names name leads

all_named : (names : Names) (changes : List NameChange) → LeadsFromNames names → AllGiveNames changes → LeadsFromNames (all_renamed names changes)
all_named names [] leads gives = leads
all_named names (change ∷ changes) leads gives = all_named (renamed names change) changes (named_renamed names change leads gives.0) gives.1

part_gives : (some all : List NameChange) → IsSubsequence some all → AllGiveNames all → AllGiveNames some
part_gives some all none gives = tt
part_gives some all (left_out change part) gives = part_gives _ _ part gives.1
part_gives some all (taken change part) gives = (gives.0, part_gives _ _ part gives.1)

gives_push : (changes : List NameChange) (change : NameChange) → AllGiveNames changes → GivesName change → AllGiveNames (changes ++ change ∷ [])
gives_push [] change all gives = (gives, tt)
gives_push (first ∷ changes) change all gives = (all.0, gives_push changes change all.1 gives)

-- A disk keeps to names.
on_file_names : (s : State) (o : Option ℕ) (change : FileState → FileState) → HasOnlyNames s → HasOnlyNames (on_file s o change)
on_file_names s None change has = has
on_file_names s (Some i) change has = record { base = has.base; pending = has.pending }

change_names : (s : State) (o : Option ℕ) (change : NameChange) → HasOnlyNames s → GivesName change → HasOnlyNames (with_change s o change)
change_names s None change has gives = has
change_names s (Some i) change has gives = record { base = has.base; pending = gives_push s.pending change has.pending gives }

cut_names : (s : State) (name : List ℕ) (len : ℕ) (o : Option ℕ) → HasOnlyNames s → IsName name → HasOnlyNames (cut_or_made s name len o)
cut_names s name len None has named = record { base = has.base; pending = gives_push s.pending _ has.pending named }
cut_names s name len (Some i) has named = on_file_names s (Some i) (λ file. file_cut file len) has

after_names : (s : State) (call : DiskCall) → HasOnlyNames s → IsNamed call → HasOnlyNames (after s call)
after_names s (Write name at bytes) has named = on_file_names s (names_of s name) (λ file. file_written file at bytes) has
after_names s (Cut name len) has named = cut_names s name len (names_of s name) has named
after_names s (Sync name) has named = on_file_names s (names_of s name) (λ file. synced file.seen) has
after_names s (Rename from to) has named = change_names s (names_of s from) (Moved from to) has named.1
after_names s (Remove name) has named = change_names s (names_of s name) (Removed name) has tt
after_names s SyncNames has named = record { base = all_named s.base s.pending has.base has.pending; pending = tt }

calls_names : (s : State) (past : List State) (calls : List DiskCall) → HasOnlyNames s → AreNamed calls → HasOnlyNames (newest (trace_after s past calls))
calls_names s past [] has named = has
calls_names s past (call ∷ calls) has named = calls_names (after s call) (s ∷ past) calls (after_names s call has named.0) named.1

start_leads : (i : ℕ) (rows : FileRows) → AllByRecursion (λ row. IsName row.0) rows → LeadsFromNames (number_of i rows)
start_leads i [] named = record { named = λ name k is. absurd cc }
start_leads i (row ∷ rows) named = named_with (number_of (i + 1) rows) row.0 (Some i) (start_leads (i + 1) rows named.1) (λ k is. named.0)

pub only_names : (rows : FileRows) (calls : List DiskCall) → AllByRecursion (λ row. IsName row.0) rows → AreNamed calls → HasOnlyNames (newest (trace_after (start_state rows) [] calls))
only_names rows calls named calls_named = calls_names (start_state rows) [] calls (record { base = start_leads 0 rows named; pending = tt }) calls_named

-- Rows of a sorted map of names.
abbrev row_of : List (List ℕ) → List ℕ × ℕ → List ℕ × List ℕ
row_of contents entry = (entry.0, get_or contents entry.1 [])

same_at : (name key : List ℕ) → is_at (slice_cmp nat_cmp name) key ≡ same_name key name
same_at name key = is_eq-slice_cmp name key ∙ nat_list_eq_equiv.symm name key

found_case : (t u : Bool) (content : List (List ℕ)) (i : ℕ) (files : Option (List ℕ)) (file : Option ℕ) → u ≡ t → files ≡ option_map (λ k. get_or content k []) file
    → (if t then Some (get_or content i []) else files) ≡ option_map (λ k. get_or content k []) (cond u (Some i) file)
found_case true u content i files file same rest = rw same refl
found_case false u content i files file same rest = rw same rest

rows_files : (contents : List (List ℕ)) (entries : List (List ℕ × ℕ)) (name : List ℕ) → start_files (map (row_of contents) entries) name ≡ option_map (λ i. get_or contents i []) (lookup (is_at (slice_cmp nat_cmp name)) entries)
rows_files contents [] name = refl
rows_files contents (entry ∷ entries) name =
    found_case (same_name entry.0 name) (is_at (slice_cmp nat_cmp name) entry.0) contents entry.1 (start_files (map (row_of contents) entries) name) (lookup (is_at (slice_cmp nat_cmp name)) entries)
    (same_at name entry.0) (rows_files contents entries name)

pub rows_image : (s : State) (choice : List ℕ) (names : BTreeMap (List ℕ) ℕ) (contents : List (List ℕ)) (rows : FileRows) → rows ≡ rows_in names contents
    → names_in names ≡ all_renamed s.base (drawn_part choice s.pending choice).value → contents ≡ (drawn_files choice s.files (drawn_part choice s.pending choice).rest).value → start_files rows ≡ image_of s choice
rows_image s choice names contents rows are leads hold = fun_ext (λ name.
    ap (λ (list : FileRows). start_files list name) are
    ∙ rows_files contents names.entries name
    ∙ ap (λ (m : Names). option_map (λ i. get_or contents i []) (m name)) leads
    ∙ ap (λ (list : List (List ℕ)). option_map (λ i. get_or list i []) (all_renamed s.base (drawn_part choice s.pending choice).value name)) hold)

-- a name that another comes before isn't that one
less_apart : (key name : List ℕ) → slice_cmp nat_cmp key name ≡ Less → same_name name key ≡ false
less_apart key name less = sym (same_at key name) ∙ ap is_eq less

none_same : (contents : List (List ℕ)) (key : List ℕ) (entries : List (List ℕ × ℕ)) → AllByRecursion (λ y. slice_cmp nat_cmp key y ≡ Less) (keys_of entries) → list_any (λ other. same_name other.0 key) (map (row_of contents) entries) ≡ false
none_same contents key [] less = refl
none_same contents key (entry ∷ entries) less = rw (less_apart key entry.0 less.0, none_same contents key entries less.1) refl

rows_differ : (contents : List (List ℕ)) (entries : List (List ℕ × ℕ)) → IsStrictlySortedBy (slice_cmp nat_cmp) (keys_of entries) → names_differ (map (row_of contents) entries) ≡ true
unfolding IsStrictlySortedBy
rows_differ contents [] sorted = refl
rows_differ contents (entry ∷ entries) sorted = rw (none_same contents entry.0 entries sorted.0, rows_differ contents entries sorted.1) refl

abbrev Found : List (List ℕ × ℕ) → List ℕ → Type 0
Found entries name = (i : ℕ) × (lookup (is_at (slice_cmp nat_cmp name)) entries ≡ Some i)

further : (entry : List ℕ × ℕ) (entries : List (List ℕ × ℕ)) (name : List ℕ) (i : ℕ) (t : Bool) → is_at (slice_cmp nat_cmp name) entry.0 ≡ t → lookup (is_at (slice_cmp nat_cmp name)) entries ≡ Some i → Found (entry ∷ entries) name
further entry entries name i true same is = (entry.1, lookup_head (is_at (slice_cmp nat_cmp name)) entry entries same)
further entry entries name i false same is = (i, lookup_tail (is_at (slice_cmp nat_cmp name)) entry entries same ∙ is)

rows_named : (contents : List (List ℕ)) (entries : List (List ℕ × ℕ)) → ((name : List ℕ) → Found entries name → IsName name) → AllByRecursion (λ row. IsName row.0) (map (row_of contents) entries)
rows_named contents [] named = tt
rows_named contents (entry ∷ entries) named = (
  named entry.0 (entry.1, lookup_head (is_at (slice_cmp nat_cmp entry.0)) entry entries (same_at entry.0 entry.0 ∙ nat_list_eq_equiv.refl entry.0)),
  rows_named contents entries (λ name found. named name (further entry entries name found.0 (is_at (slice_cmp nat_cmp name) entry.0) refl found.1)),
)

pub rows_start : (s : State) (choice : List ℕ) (names : BTreeMap (List ℕ) ℕ) (contents : List (List ℕ)) (rows : FileRows) → HasOnlyNames s → IsOrdered (slice_cmp nat_cmp) names → rows ≡ rows_in names contents
    → names_in names ≡ all_renamed s.base (drawn_part choice s.pending choice).value → IsStart rows
rows_start s choice names contents rows has ordered are leads =
    let part : LeadsFromNames (all_renamed s.base (drawn_part choice s.pending choice).value) =
    all_named s.base (drawn_part choice s.pending choice).value has.base (part_gives (drawn_part choice s.pending choice).value s.pending (drawn_is_part choice s.pending choice) has.pending) in
    let of_map : LeadsFromNames (names_in names) = subst (λ (m : Names). LeadsFromNames m) (sym leads) part in
    subst (λ (list : FileRows). IsStart list) (sym are) (record {
      names = All-from_recursion (λ row. IsName row.0) (rows_in names contents) (rows_named contents names.entries (λ name found. of_map.named name found.0 found.1));
      distinct = rows_differ contents names.entries ordered;
    })
