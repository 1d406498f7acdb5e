use Rattle.std.proofs.Common.{◌≡◌, ◌∙◌, Some, None, ap, sym}
use Rattle.update_model.specs.Points.{Over}
use Rattle.update_model.specs.declared.end.End.{End}
use Rattle.item_graph.specs.Refinement.{point_of, asked}
use Rattle.item_graph.specs.Nexts.{point_in}
use Rattle.item_graph.specs.declared.state.State.{State}
use Rattle.item_graph.proofs.item.Item.end.Goals as goal

pub unreachable-requires : goal.unreachable-requires
unfolding point_of
unreachable-requires c =
    let some : Some c.in-Asks.ask ≡ None = sym (ap (λ (s : State). asked (point_in s)) c.in-Asks.is) ∙ c.requires.ended in
    cc

pub returns : goal.returns
unfolding point_of
returns c = ap point_in c.in-Ended.is ∙ ap (λ (e : End). Over e) (sym c.in-Ended.end-is)
