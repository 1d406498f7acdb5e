-- A sorted map of files, and the list of changes that leads to it.
use Rattle.std.proofs.Common.{◌≡◌, ◌≢◌, refl, sym, ap, subst, ◌∙◌, ℕ, List, [], ◌∷◌, ◌++◌, Bool, if◌then◌else◌, Option, Some, None}
use Rattle.std.proofs.Math.Path.{fun_ext}
use Rattle.std.specs.Ordering.{nat_cmp}
use Rattle.std.specs.Cmp.Lexicographic.{slice_cmp}
use Rattle.std.specs.BTreeMap.{BTreeMap, UpdatesBy, IsOrdered, keys}
use Rattle.std.proofs.lemmas.Cmp.{nat_list_cmp_total}
use Rattle.std.proofs.lemmas.Map.Keys.{Less-from_sorted}
use Rattle.std.proofs.lemmas.Map.Lookups.{exact_bytes}
use Rattle.std.proofs.lemmas.Map.Text.{is_eq-slice_cmp}
use Rattle.std.proofs.lemmas.Map.Views.{btree_map_contains_key_iff}
use Rattle.acq_outside.specs.Disk.{Files, IsNames, with_file, moved_file, after_rename}
use Rattle.acq_outside.specs.History.{Past, files_of, files_after, start_files, after_change, changed}
use Rattle.acq_memory.specs.Held.{files_in}
use Rattle.acq_outside.specs.declared.change.DiskCall.{DiskCall}
use Rattle.acq_outside.proofs.FileMaps.{with_file-twice, with_file-swap, same_name-apart}

abbrev pub Held : Type 0
Held = BTreeMap (List ℕ) (List ℕ)

-- one name of the map changed
pub updated : (before after : Held) (name : List ℕ) (content : Option (List ℕ)) → UpdatesBy (slice_cmp nat_cmp) (slice_cmp nat_cmp name) before after content → files_in after ≡ with_file (files_in before) name content
updated before after name content updates = fun_ext (λ other. updates.0 other ∙ ap (λ (b : Bool). if b then content else files_in before other) (is_eq-slice_cmp name other))

-- the keys are the names
pub listed : (held : Held) (names : List (List ℕ)) → IsOrdered (slice_cmp nat_cmp) held → names ≡ keys held → IsNames (files_in held) names
listed held names ordered all =
    let P : List (List ℕ) → Type 0 = λ list. IsNames (files_in held) list in
    subst P (sym all) (record {
      sorted = λ i j d before within. Less-from_sorted (slice_cmp nat_cmp) (keys held) i j d ordered before within;
      sound = λ name. (btree_map_contains_key_iff nat_list_cmp_total exact_bytes held name).1;
      complete = λ name. (btree_map_contains_key_iff nat_list_cmp_total exact_bytes held name).0;
    })

-- a change noted is carried out last
pub files_after-push : (files : Files) (changes : List DiskCall) (change : DiskCall) → files_after files (changes ++ change ∷ []) ≡ after_change (files_after files changes) change
files_after-push files [] change = refl
files_after-push files (first ∷ changes) change = files_after-push (after_change files first) changes change

pub files_of_changed : (before after : Past) (change : DiskCall) → after ≡ changed before change → files_of after ≡ after_change (files_of before) change
files_of_changed before after change done = ap files_of done ∙ files_after-push (start_files before.start) before.changes change

pub noted : (before after files : Files) (changes : List DiskCall) (change : DiskCall) → before ≡ files_after files changes → after ≡ after_change before change → after ≡ files_after files (changes ++ change ∷ [])
noted before after files changes change was done = done ∙ ap (λ (state : Files). after_change state change) was ∙ sym (files_after-push files changes change)

-- a content put under another name first, and then taken from its own
pub moved : (before between after : Files) (from to content : List ℕ) → before from ≡ Some content → between ≡ with_file before to (Some content) → from ≢ to → after ≡ with_file between from None → after ≡ after_rename before from to
moved before between after from to content there put apart taken =
    taken
    ∙ ap (λ (files : Files). with_file files from None) put
    ∙ sym (with_file-swap before from to None (Some content) (same_name-apart from to (λ same. apart (sym same))))
    ∙ ap (moved_file before from to) (sym there)

-- a content put under its own name
pub moved_here : (before after : Files) (from to content : List ℕ) → before from ≡ Some content → after ≡ with_file before to (Some content) → from ≡ to → after ≡ after_rename before from to
moved_here before after from to content there put same =
    put
    ∙ sym (with_file-twice before to None (Some content))
    ∙ ap (λ (name : List ℕ). with_file (with_file before name None) to (Some content)) (sym same)
    ∙ ap (moved_file before from to) (sym there)

pub not_moved : (before : Files) (from to : List ℕ) → before from ≡ None → before ≡ after_rename before from to
not_moved before from to absent = ap (moved_file before from to) (sym absent)
