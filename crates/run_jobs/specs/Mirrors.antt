-- Of which mirror methods tell.
use Rattle.std.specs.Prelude.{◌≡◌, IfSome, List, [], ◌∷◌, Option, Some}
use Rattle.std.specs.List.{AllByRecursion as Each}
use Rattle.acq_base.specs.Mirror.{MirrorMap}

-- P of the mirror that all of them tell, where they tell one
abbrev pub ForMirror : List (Option MirrorMap) → (MirrorMap → Type 0) → Type 0
ForMirror [] P = Unit {0}
ForMirror (told ∷ others) P = IfSome told (λ mirror. Each (λ other. other ≡ Some mirror) others → P mirror)
