use Rattle.std.proofs.Common.{All, List, sym, subst}
use Rattle.acq_base.specs.declared.plan.Target.{Target}
use Rattle.acq_outside.specs.Disk.{IsName}
use Rattle.lists_dir.proofs.DiskNames.{targets_fit}
use Rattle.deb_fetch.proofs.finding.find_in_source.Goals as goal

pub find_in_targets-requires-clause-names : goal.find_in_targets-requires-clause-names
find_in_targets-requires-clause-names g c = subst (λ (l : List Target). All (λ target. IsName target.name.0) l) (sym c.as_slice.ensures) (targets_fit c.args.source.now c.requires)
