use Rattle.std.proofs.Common.{◌≡◌, ◌∙◌, subst, sym, ap, refl}
use Rattle.update_model.specs.Points.{point_after}
use Rattle.update_model.specs.Trails.{LaneAnswer}
use Rattle.item_graph.specs.Refinement.{point_of, retries_of}
use Rattle.item_graph.specs.Nexts.{point_in}
use Rattle.item_graph.specs.Sound.{IsSoundAt}
use Rattle.item_graph.specs.declared.state.State.{State}
use Rattle.item_graph.proofs.Soundness.{step-sound}
use Rattle.item_graph.proofs.item.Item.answer.Goals as goal

pub returns-in_err-self-clause-retries : goal.returns-in_err-self-clause-retries
unfolding retries_of
returns-in_err-self-clause-retries c = refl

pub returns-clause-step : goal.returns-clause-step
unfolding point_of retries_of
returns-clause-step c =
    let told : LaneAnswer = record { lane = c.args.lane; closed = c.args.closed } in
    c.in_ok-self.ensures ∙ ap (λ (s : State). point_after c.args.self.now.retries (point_in s) told) c.replace-state.ensures.value

pub returns-clause-retries : goal.returns-clause-retries
unfolding retries_of
returns-clause-retries c = refl

pub returns-clause-sound : goal.returns-clause-sound
unfolding point_of
returns-clause-sound c = λ sound answer.
    let told : LaneAnswer = record { lane = c.args.lane; closed = c.args.closed } in
    let leads : point_in c.in_ok-self.field-0 ≡ point_after c.args.self.now.retries (point_in c.args.self.now.state) told =
    c.in_ok-self.ensures ∙ ap (λ (s : State). point_after c.args.self.now.retries (point_in s) told) c.replace-state.ensures.value in
    subst IsSoundAt (sym leads) (step-sound c.args.self.now.retries (point_in c.args.self.now.state) told sound answer)
