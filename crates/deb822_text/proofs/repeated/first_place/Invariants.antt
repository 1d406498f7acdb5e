use Rattle.std.proofs.Common.{◌≡◌, drop}
use Rattle.deb822_text.specs.Names.{lesser, least_place}
use Rattle.deb822_text.proofs.repeated.first_place.Given as goal

abbrev pub invariant-loop-at : goal.invariant-loop-at
invariant-loop-at l = lesser l.least (least_place (drop l.at l.keys)) ≡ least_place l.keys
