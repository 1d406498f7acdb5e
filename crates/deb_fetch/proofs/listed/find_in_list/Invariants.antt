use Rattle.std.proofs.Common.{length}
use Rattle.acq_base.specs.Uri.{IsSound}
use Rattle.deb_fetch.specs.Founds.{IsSoundFound}
use Rattle.deb_fetch.proofs.Fronts.{HasRead}
use Rattle.deb_fetch.proofs.listed.find_in_list.Given as goal

abbrev pub invariant-loop-rest : goal.invariant-loop-rest
invariant-loop-rest l = record {
  read : HasRead l.base l.name l.version l.list l.rest l.found;
  sound : IsSound l.base → IsSoundFound l.found;
}

abbrev pub decreases-loop-rest : goal.decreases-loop-rest
decreases-loop-rest l = length l.rest
