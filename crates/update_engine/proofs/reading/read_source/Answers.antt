use Rattle.std.proofs.Common.{All, List, sym, subst}
use Rattle.acq_base.specs.declared.plan.Target.{Target}
use Rattle.board_bounds.proofs.Theorems.{planned_names_are_put_names}
use Rattle.journal_model.specs.Names.{IsPutName}
use Rattle.update_engine.proofs.PutNames.{targets_put}
use Rattle.update_engine.proofs.reading.read_source.Goals as goal

pub read_targets-requires : goal.read_targets-requires
read_targets-requires g c = subst (λ (ts : List Target). All (λ (t : Target). IsPutName t.name.0) ts) (sym c.as_slice.ensures) (targets_put planned_names_are_put_names c.args.source.now c.requires)
