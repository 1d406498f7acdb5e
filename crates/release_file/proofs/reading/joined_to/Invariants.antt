use Rattle.std.proofs.Common.{◌≡◌, ◌∷◌, take}
use Rattle.std.specs.List.{join_with_byte}
use Rattle.release_file.proofs.reading.joined_to.Given as goal

abbrev pub invariant-loop-line : goal.invariant-loop-line
invariant-loop-line l = l.text ≡ join_with_byte 10 (l.first ∷ take l.line-index l.rest)
