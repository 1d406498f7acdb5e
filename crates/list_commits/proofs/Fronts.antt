-- The front of a name.
use Rattle.std.proofs.Common.{◌≡◌, sym, ℕ, List, take, codes, nat_eq, bytes_eq}
use Rattle.std.specs.Cmp.{both_ways}
use Rattle.std.specs.Cmp.Lexicographic.{pointwise}
use Rattle.std.proofs.lemmas.Slice.Eq.{bytes_eq-Decides}
use Rattle.journal_model.specs.Names.{is_partial}

pub front_is : (name : List ℕ) → pointwise nat_eq (codes "partial/") (take 8 name) ≡ is_partial name
front_is name = both_ways (bytes_eq (codes "partial/") (take 8 name)) (bytes_eq (take 8 name) (codes "partial/"))
    (λ same. (bytes_eq-Decides (take 8 name) (codes "partial/")).1 (sym ((bytes_eq-Decides (codes "partial/") (take 8 name)).0 same)))
    (λ same. (bytes_eq-Decides (codes "partial/") (take 8 name)).1 (sym ((bytes_eq-Decides (take 8 name) (codes "partial/")).0 same)))
