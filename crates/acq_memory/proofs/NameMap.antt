-- A sorted map of names.
use Rattle.std.proofs.Common.{◌≡◌, sym, ap, ◌∙◌, ℕ, List, Bool, if◌then◌else◌, Option, Some, None}
use Rattle.std.proofs.Math.Path.{fun_ext}
use Rattle.std.specs.Ordering.{nat_cmp}
use Rattle.std.specs.Cmp.Lexicographic.{slice_cmp}
use Rattle.std.specs.BTreeMap.{BTreeMap, UpdatesBy}
use Rattle.std.proofs.lemmas.Map.Text.{is_eq-slice_cmp}
use Rattle.acq_outside.specs.Crash.{Names, with_name, moved_name}
use Rattle.acq_memory.specs.Replay.{names_in}

pub updated : (before after : BTreeMap (List ℕ) ℕ) (name : List ℕ) (file : Option ℕ) → UpdatesBy (slice_cmp nat_cmp) (slice_cmp nat_cmp name) before after file → names_in after ≡ with_name (names_in before) name file
updated before after name file updates = fun_ext (λ other. updates.0 other ∙ ap (λ (b : Bool). if b then file else names_in before other) (is_eq-slice_cmp name other))

pub not_moved : (names : Names) (from to : List ℕ) → names from ≡ None → names ≡ moved_name names from to (names from)
not_moved names from to absent = ap (moved_name names from to) (sym absent)

pub moved : (before between after : Names) (from to : List ℕ) (file : ℕ) → before from ≡ Some file → between ≡ with_name before from None → after ≡ with_name between to (Some file) → after ≡ moved_name before from to (before from)
moved before between after from to file there taken put = put ∙ ap (λ (names : Names). with_name names to (Some file)) taken ∙ sym (ap (moved_name before from to) there)
