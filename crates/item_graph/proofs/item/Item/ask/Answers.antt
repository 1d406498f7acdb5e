use Rattle.std.proofs.Common.{ap, sym, subst}
use Rattle.item_graph.specs.Refinement.{point_of, asked}
use Rattle.item_graph.specs.Nexts.{point_in}
use Rattle.item_graph.specs.Sound.{IsSoundAt}
use Rattle.item_graph.specs.declared.state.State.{State}
use Rattle.item_graph.proofs.item.Item.ask.Goals as goal

pub returns-in-Ended-clause-value : goal.returns-in-Ended-clause-value
unfolding point_of
returns-in-Ended-clause-value c = sym (ap (λ (s : State). asked (point_in s)) c.in-Ended.is)

pub returns-in-Asks-clause-value : goal.returns-in-Asks-clause-value
unfolding point_of
returns-in-Asks-clause-value c = sym (ap (λ (s : State). asked (point_in s)) c.in-Asks.is)

pub returns-in-Asks-clause-sound : goal.returns-in-Asks-clause-sound
unfolding point_of
returns-in-Asks-clause-sound c = λ sound. (subst (λ (s : State). IsSoundAt (point_in s)) c.in-Asks.is sound).0
