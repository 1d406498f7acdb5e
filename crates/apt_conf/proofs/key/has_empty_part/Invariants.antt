use Rattle.std.proofs.Common.{◌≡◌, length}
use Rattle.apt_conf.specs.Keys.{empty_part, has_empty_part}
use Rattle.apt_conf.proofs.key.has_empty_part.Given as goal

abbrev pub invariant-loop-rest : goal.invariant-loop-rest
invariant-loop-rest l = empty_part l.begins l.rest ≡ has_empty_part l.key

abbrev pub decreases-loop-rest : goal.decreases-loop-rest
decreases-loop-rest l = length l.rest
