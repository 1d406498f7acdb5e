use Rattle.std.proofs.Common.{◌≡◌, ◌+◌, ◌++◌, drop}
use Rattle.board_model.specs.Keys as keys
use Rattle.update_core.proofs.beginning.add_keys.Given as goal

abbrev pub invariant-loop-list : goal.invariant-loop-list
invariant-loop-list l =
    l.all.items ++ keys.places_from l.place (l.list + 1) (drop l.list l.source.targets) ≡ l.fn.all.items ++ keys.keys_in l.place l.source
