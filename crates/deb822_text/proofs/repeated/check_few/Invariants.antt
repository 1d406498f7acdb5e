use Rattle.std.proofs.Common.{◌≡◌, take, drop}
use Rattle.deb822_text.specs.Names.{names_of, repeated_behind, repeated}
use Rattle.deb822_text.proofs.repeated.check_few.Given as goal

abbrev pub invariant-loop-place : goal.invariant-loop-place
invariant-loop-place l = repeated_behind (names_of (take l.place l.fields)) (drop l.place l.fields) ≡ repeated l.fields
