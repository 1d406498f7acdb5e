-- Of the names so far, those that count.
use Rattle.std.proofs.Common.{◌≡◌, take}
use Rattle.std.specs.Prelude.{filter}
use Rattle.configuration.specs.Names.{counts}
use Rattle.configuration.proofs.names.counted.Given as goal

abbrev pub invariant-loop-name : goal.invariant-loop-name
invariant-loop-name l = l.counted.items ≡ filter (counts l.place) (take l.name-index l.names)
