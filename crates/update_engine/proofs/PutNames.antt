-- Names of targets under which lists may be put.
use Rattle.std.proofs.Common.{All, List, [], ◌∷◌, map}
use Rattle.std.proofs.lemmas.List.Elements.{All-cons, All-head, All-nil, All-tail}
use Rattle.acq_base.specs.Plan.{IsPlanned}
use Rattle.acq_base.specs.declared.plan.Source.{Source}
use Rattle.acq_base.specs.declared.plan.Target.{Target}
use Rattle.board_bounds.specs.Names.{PlannedNamesArePutNames}
use Rattle.journal_model.specs.Names.{IsPutName}

all_targets : (targets : List Target) → All IsPutName (map (λ (t : Target). t.name.0) targets) → All (λ (t : Target). IsPutName t.name.0) targets
all_targets [] all = All-nil (λ (t : Target). IsPutName t.name.0)
all_targets (t ∷ targets) all = All-cons (λ (t : Target). IsPutName t.name.0) t targets (All-head IsPutName t.name.0 (map (λ (t : Target). t.name.0) targets) all)
    (all_targets targets (All-tail IsPutName t.name.0 (map (λ (t : Target). t.name.0) targets) all))

pub targets_put : PlannedNamesArePutNames → (source : Source) → IsPlanned source → All (λ (t : Target). IsPutName t.name.0) source.targets
targets_put law source planned = all_targets source.targets (All-tail IsPutName source.release_name.0 (map (λ (t : Target). t.name.0) source.targets) (law source planned))
