use Rattle.std.proofs.Common.{sym, subst, refl}
use Rattle.std.specs.Prelude.{option_map}
use Rattle.update_model.specs.Walks.{target_walk}
use Rattle.item_graph.proofs.Theorems.{lists_ask_soundly}
use Rattle.item_graph.specs.OldFiles.{bytes_of}
use Rattle.item_graph.specs.Refinement.{point_of, retries_of}
use Rattle.item_graph.specs.Sound.{IsSoundAt}
use Rattle.item_graph.proofs.Soundness.{start-sound}
use Rattle.item_graph.proofs.item.Item.for_list.Goals as goal

pub returns-clause-walk : goal.returns-clause-walk
unfolding point_of
returns-clause-walk c = c.in_ok-list.ensures

pub returns-clause-retries : goal.returns-clause-retries
unfolding retries_of
returns-clause-retries c = refl

pub returns-clause-sound : goal.returns-clause-sound
unfolding point_of
returns-clause-sound c = λ uri hashed short.
    let old = option_map bytes_of c.args.old in
    subst IsSoundAt (sym c.in_ok-list.ensures) (start-sound c.args.settings.now.retries (target_walk old c.args.part c.args.wanted)
    (lists_ask_soundly old c.args.part c.args.wanted uri hashed short))
