-- The names of lists on their way are names that a disk may have.
use Rattle.std.proofs.Common.{◌≡◌, refl, sym, ap, ◌∙◌, subst, arith, true, List, [], ℕ, ◌≤◌, length, drop, length-append, codes}
use Rattle.std.specs.Str.{is_utf8}
use Rattle.std.proofs.lemmas.Str.{IsUtf8-from_is_utf8, is_utf8-from_IsUtf8}
use Rattle.acq_outside.specs.Disk.{IsName}
use Rattle.journal_model.specs.Names.{IsPutName, partial}
use Rattle.journal_model.proofs.Literals.{partial_named}
use Rattle.partial_store.specs.Refinement.{PartOf, part_of}

pub partial_name : (name : List ℕ) → IsPutName name → IsName (partial name)
partial_name name put = partial_named name put.named put.short

-- what a part keeps of its path
abbrev pub IsKept : List ℕ → Type 0
IsKept path = (path ≡ partial (drop 8 path)) × (length path ≤ 255) × (is_utf8 path ≡ true)

pub kept : (name path : List ℕ) → IsPutName name → path ≡ partial name → IsKept path
kept name path put is =
    let named = partial_name name put in
    subst (λ (p : List ℕ). IsKept p) (sym is) (refl, named.short, is_utf8-from_IsUtf8 (partial name) named.text)

-- and so it is a name
pub kept_name : (path : List ℕ) → IsKept path → IsName path
kept_name path h = record {
  text = IsUtf8-from_is_utf8 path h.2;
  nonempty = omega (arith, ap length h.0, length-append (codes "partial/") (drop 8 path));
  short = h.1;
}

-- the path of a part, and its length
pub part_path : (path : List ℕ) (len : ℕ) (part : PartOf) → part_of (drop 8 path) len ≡ part → IsKept path → path ≡ partial part.name
part_path path len part view h = h.0 ∙ ap (λ (p : PartOf). partial p.name) view

pub part_len : (path : List ℕ) (len : ℕ) (part : PartOf) → part_of (drop 8 path) len ≡ part → len ≡ part.len
part_len path len part view = ap (λ (p : PartOf). p.len) view
