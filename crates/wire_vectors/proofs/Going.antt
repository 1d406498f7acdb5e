-- A fetch is under way behind a piece.
use Rattle.std.proofs.Common.{ℕ, List, Option, Some, None, IfSome, IsSome, refl}
use Rattle.acq_base.specs.Mirror.{MirrorMap}
use Rattle.acq_outside.specs.declared.word.Fetch.{Fetch}
use Rattle.acq_outside.specs.declared.word.Word.TheVariants.{Piece}
use Rattle.acq_outside.specs.Word.{IsWord}

pub goes_on : (before after : ℕ) (world : Option MirrorMap) (was under : Option Fetch) (place : ℕ) (bytes : List ℕ) → IsSome was → IfSome was (λ fetch. IsWord before after world fetch under (Piece place bytes)) → IsSome under
goes_on before after world None under place bytes some is = absurd cc
goes_on before after world (Some fetch) under place bytes some is = rw is.under_way refl

pub goes_on_first : (before after : ℕ) (world : Option MirrorMap) (fetch : Fetch) (under : Option Fetch) (place : ℕ) (bytes : List ℕ) → IsWord before after world fetch under (Piece place bytes) → IsSome under
goes_on_first before after world fetch under place bytes is = rw is.under_way refl
