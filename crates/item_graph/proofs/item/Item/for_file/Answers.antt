use Rattle.std.proofs.Common.{◌∙◌, sym, ap, subst, refl}
use Rattle.acq_base.specs.Uri.{IsSound}
use Rattle.update_model.specs.Points.{start}
use Rattle.update_model.specs.Walks.{plain_walk}
use Rattle.update_model.specs.declared.wanted.Wanted.{Wanted}
use Rattle.item_graph.specs.Refinement.{point_of, retries_of}
use Rattle.item_graph.specs.Sound.{IsSoundAt}
use Rattle.item_graph.proofs.Soundness.{plain-sound, start-sound}
use Rattle.item_graph.proofs.item.Item.for_file.Goals as goal

pub returns-clause-walk : goal.returns-clause-walk
unfolding point_of
returns-clause-walk c = c.in_ok-plain.ensures ∙ ap (λ (w : Wanted). start c.args.settings.now.retries (plain_walk w)) c.in_ok-wanted.ensures

pub returns-clause-retries : goal.returns-clause-retries
unfolding retries_of
returns-clause-retries c = refl

pub returns-clause-sound : goal.returns-clause-sound
unfolding point_of
returns-clause-sound c = λ sound.
    let w = c.in_ok-wanted.wanted in
    let at : IsSound w.uri = subst (λ (w : Wanted). IsSound w.uri) (sym c.in_ok-wanted.ensures) sound in
    subst IsSoundAt (sym c.in_ok-plain.ensures) (start-sound c.args.settings.now.retries (plain_walk w) (plain-sound w at))
