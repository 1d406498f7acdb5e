use Rattle.std.proofs.Common.{◌≡◌, ◌∙◌, subst, sym, ap, refl}
use Rattle.std.specs.Prelude.{IfOk}
use Rattle.update_model.specs.Points.{Point, point_after}
use Rattle.update_model.specs.Reach.{On, Stop, way}
use Rattle.update_model.specs.Trails.{LaneAnswer}
use Rattle.update_model.specs.declared.ask.Closed.{Closed}
use Rattle.update_model.specs.declared.ask.Closed.TheVariants.{Not}
use Rattle.item_graph.specs.Nexts.{after, point_in}
use Rattle.item_graph.specs.Ways.{way_of}
use Rattle.item_graph.specs.declared.state.State.{State}
use Rattle.item_graph.proofs.Steps.{heard-on, heard-stop}
use Rattle.item_graph.proofs.state.State.heard.Goals as goal

pub returns-in-Ok : goal.returns-in-Ok
returns-in-Ok c =
    let told : LaneAnswer = record { lane = c.args.lane; closed = Not c.in-Not.end } in
    let ask = c.in-Asks.ask in
    let leads : On c.in-Ok.uri ≡ way c.in-Asks.moves ask.uri (Not c.in-Not.end) =
    sym (ap way_of c.in-Ok.is) ∙ c.way.ensures ask.uri refl in
    heard-on c.args.retries ask c.in-Asks.moves c.saturating_sub.result c.in-Asks.left c.args.lane (after c.in-Asks.next) c.in-Not.end c.in-Ok.uri c.in_default-end.not-Fault c.saturating_sub.ensures leads
    ∙ sym (ap (λ (s : State). point_after c.args.retries (point_in s) told) c.in-Asks.is)
    ∙ sym (ap (λ (closed : Closed). point_after c.args.retries (point_in c.args.self) (record { lane = c.args.lane; closed = closed })) c.in-Not.is)

pub returns : goal.returns
returns c =
    let told : LaneAnswer = record { lane = c.args.lane; closed = Not c.in-Not.end } in
    let ask = c.in-Asks.ask in
    let leads : Stop c.in-Err.ending ≡ way c.in-Asks.moves ask.uri (Not c.in-Not.end) =
    sym (ap way_of c.in-Err.is) ∙ c.way.ensures ask.uri refl in
    subst (λ (p : Point). IfOk c.follow-in-Err.result (λ state. point_in state ≡ p))
    (heard-stop c.args.retries ask c.in-Asks.moves c.in-Asks.left c.args.lane (after c.in-Asks.next) c.in-Not.end c.in-Err.ending c.in_default-end.not-Fault leads
    ∙ sym (ap (λ (s : State). point_after c.args.retries (point_in s) told) c.in-Asks.is)
    ∙ sym (ap (λ (closed : Closed). point_after c.args.retries (point_in c.args.self) (record { lane = c.args.lane; closed = closed })) c.in-Not.is))
    c.follow-in-Err.ensures
