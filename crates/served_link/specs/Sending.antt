-- What one call sends of a response.
use Rattle.std.specs.Prelude.{◌≡◌, List, [], ◌++◌, Option, Some, None, ℕ}
use Rattle.acq_outside.specs.Tree.{TreeFiles}
use Rattle.tree_serve.specs.Planned.{IsWithin}
use Rattle.served_link.specs.Link.{to_come}
use Rattle.served_link.specs.declared.pending.Pending.{Pending}

-- these bytes were sent, and none only where none was left
pub record SendsOn (files : TreeFiles) (piece : List ℕ) (old new : Pending) : Type 0 where
  pub bytes : to_come files old ≡ piece ++ to_come files new
  pub keep : new.planned.keep ≡ old.planned.keep
  pub within : IsWithin files new.planned
  pub ends : piece ≡ [] → to_come files new ≡ []

-- the same where there may be nothing to send
abbrev pub Sends : TreeFiles → List ℕ → Option Pending → Option Pending → Type 0
Sends files piece None new = new ≡ None
Sends files piece (Some old) None = ⊥
Sends files piece (Some old) (Some new) = SendsOn files piece old new
