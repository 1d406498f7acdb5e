use Rattle.std.proofs.Common.{◌≡◌, ◌++◌, drop}
use Rattle.deb822_text.specs.Names.{keys_of, keys_from}
use Rattle.deb822_text.proofs.repeated.keys.Given as goal

abbrev pub invariant-loop-place : goal.invariant-loop-place
invariant-loop-place l = l.keys.items ++ keys_from l.place (drop l.place l.fields) ≡ keys_of l.fields
