-- A whole fetch: its pieces, one behind another, and its last word.
use Rattle.std.specs.Prelude.{◌≡◌, ℕ, List, [], ◌∷◌, ◌++◌, length, Some, None}
use Rattle.acq_base.specs.declared.fetch.Job.{Job}
use Rattle.acq_base.specs.Mirror.{MirrorMap}
use Rattle.acq_outside.specs.declared.word.Fetch.{Fetch}
use Rattle.acq_outside.specs.declared.word.Word.{Word}
use Rattle.acq_outside.specs.declared.word.Word.TheVariants.{Piece, Done}
use Rattle.acq_outside.specs.Word.{IsWord, begun, further}

-- the words of a method to a fetch that goes on, whatever its counts of faults were
abbrev pub AreWords : MirrorMap → Fetch → List (List ℕ) → Word → Type 0
AreWords world fetch [] last = (before : ℕ) × (after : ℕ) × IsWord before after (Some world) fetch None last
AreWords world fetch (piece ∷ pieces) last =
    (before : ℕ) × (after : ℕ) × IsWord before after (Some world) fetch (Some (further fetch (length piece))) (Piece fetch.at piece) × AreWords world (further fetch (length piece)) pieces last

-- pieces, one behind another
abbrev pub joined : List (List ℕ) → List ℕ
joined [] = []
joined (piece ∷ pieces) = piece ++ joined pieces

-- whatever pieces come of a job before a size ends its fetch, they are these bytes
abbrev pub JoinTo : MirrorMap → Job → List ℕ → Type 0
JoinTo world job bytes = (pieces : List (List ℕ)) (size : ℕ) → AreWords world (begun job) pieces (Done size) → joined pieces ≡ bytes
