-- Each file of a disk in memory has a name that a disk may have.
use Rattle.std.proofs.Common.{◌≡◌, refl, sym, subst, ℕ, List, [], ◌∷◌, ◌++◌, get_or, Bool, true, false, if◌then◌else◌, Option, Some, None, IsSome, All}
use Rattle.std.specs.List.{AllByRecursion}
use Rattle.std.proofs.lemmas.List.{get_or_default}
use Rattle.std.proofs.lemmas.List.Elements.{recursion_from_All}
use Rattle.std.proofs.lemmas.Slice.Eq.{bytes_eq-Decides}
use Rattle.acq_outside.specs.Disk.{Files, IsName, IsNames, same_name, with_file, moved_file}
use Rattle.acq_outside.specs.History.{FileRows, start_files, after_change}
use Rattle.acq_memory.specs.Held.{AreNamed, HasNames, IsNamed}
use Rattle.acq_outside.specs.declared.change.DiskCall.{DiskCall}
use Rattle.acq_outside.specs.declared.change.DiskCall.TheVariants.{Write, Cut, Sync, Rename, Remove, SyncNames}

named-at : (files : Files) (name other : List ℕ) (content : Option (List ℕ)) → HasNames files → IsName name → (b : Bool) → same_name name other ≡ b → IsSome (if b then content else files other) → IsName other
named-at files name other content has named true same there =
    let P : List ℕ → Type 0 = λ given. IsName given in
    subst P ((bytes_eq-Decides name other).0 same) named
named-at files name other content has named false same there = has.named other there

named_with : (files : Files) (name : List ℕ) (content : Option (List ℕ)) → HasNames files → IsName name → HasNames (with_file files name content)
named_with files name content has named = record { named = λ other there. named-at files name other content has named (same_name name other) refl there }

pub kept_names : (before after : Files) → HasNames before → after ≡ before → HasNames after
kept_names before after has same =
    let P : Files → Type 0 = λ files. HasNames files in
    subst P (sym same) has

moved_names : (files : Files) (from to : List ℕ) (content : Option (List ℕ)) → HasNames files → IsName from → IsName to → HasNames (moved_file files from to content)
moved_names files from to None has named_from named_to = has
moved_names files from to (Some content) has named_from named_to = named_with (with_file files from None) to (Some content) (named_with files from None has named_from) named_to

changed_names : (files : Files) (change : DiskCall) → HasNames files → IsNamed change → HasNames (after_change files change)
changed_names files (Write name at bytes) has named = named_with files name _ has named
changed_names files (Cut name len) has named = named_with files name _ has named
changed_names files (Sync name) has named = has
changed_names files (Rename from to) has named = moved_names files from to (files from) has named.0 named.1
changed_names files (Remove name) has named = named_with files name None has named
changed_names files SyncNames has named = has

pub names_after : (before after : Files) (change : DiskCall) → HasNames before → IsNamed change → after ≡ after_change before change → HasNames after
names_after before after change has named done = kept_names (after_change before change) after (changed_names before change has named) done

rows_named : (rows : FileRows) → AllByRecursion (λ row. IsName row.0) rows → HasNames (start_files rows)
rows_named [] named = record { named = λ name there. absurd cc }
rows_named (row ∷ rows) named = named_with (start_files rows) row.0 (Some row.1) (rows_named rows named.1) named.0

pub start_named : (rows : FileRows) (files : Files) → All (λ row. IsName row.0) rows → files ≡ start_files rows → HasNames files
start_named rows files named is = kept_names (start_files rows) files (rows_named rows (recursion_from_All (λ row. IsName row.0) rows named)) is

pub all_named : (files : Files) (names : List (List ℕ)) → HasNames files → IsNames files names → All IsName names
all_named files names has listed = λ k d within. has.named (get_or names k d) (listed.sound (get_or names k d) (k, within, get_or_default names k (get_or names k d) d within))

pub kept_changes : (before after : List DiskCall) → AreNamed before → after ≡ before → AreNamed after
kept_changes before after are same = subst (λ (changes : List DiskCall). AreNamed changes) (sym same) are

push_named : (changes : List DiskCall) (change : DiskCall) → AreNamed changes → IsNamed change → AreNamed (changes ++ change ∷ [])
push_named [] change are named = (named, tt)
push_named (first ∷ changes) change are named = (are.0, push_named changes change are.1 named)

pub more_changes : (before after : List DiskCall) (change : DiskCall) → AreNamed before → IsNamed change → after ≡ before ++ change ∷ [] → AreNamed after
more_changes before after change are named pushed = kept_changes (before ++ change ∷ []) after (push_named before change are named) pushed
