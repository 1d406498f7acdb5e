use Rattle.std.specs.Prelude.{◌≡◌, Some}
use Rattle.tree_serve.specs.Connections.{HasServedAll}
use Rattle.tree_serve.specs.Frame.{HasNotStopped}
use Rattle.tree_serve.proofs.server.serve.Given as goal

abbrev pub invariant-loop : goal.invariant-loop
invariant-loop g l = record {
  frame : HasNotStopped g.P.Port g.T.Tree l.fn.port l.port l.fn.tree l.tree;
  at : g.P.Port.at l.port ≡ Some l.fn.number;
  served : HasServedAll g.P.Port g.T.Tree l.root l.counter l.fn.port l.port l.fn.tree l.tree;
}
