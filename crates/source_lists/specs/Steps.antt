-- One step of reading after another: the first refusal ends it.
use Rattle.std.specs.Prelude.{List, [], ◌∷◌, Result, Ok, Err}
use Rattle.source_lists.specs.declared.error.ListError.{ListError}

infixl 10 ◌>>=◌
abbrev pub ◌>>=◌ : {A B : Type 0} → Result A ListError → (A → Result B ListError) → Result B ListError
(Ok x) >>= f = f x
(Err e) >>= f = Err e

-- what each of some items reads as, if all are read; else the refusal of the first that isn't
unfoldable pub each : {X Y : Type 0} → (X → Result Y ListError) → List X → Result (List Y) ListError
each read [] = Ok []
each read (item ∷ items) = do
  found ← read item
  others ← each read items
  Ok (found ∷ others)
