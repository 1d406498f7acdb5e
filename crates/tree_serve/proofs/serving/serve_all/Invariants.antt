use Rattle.std.proofs.Common.{◌≡◌, ◌<◌}
use Rattle.tree_serve.specs.Frame.{HasServed}
use Rattle.tree_serve.specs.Talks.{Goes, WhereTold, others_of}
use Rattle.tree_serve.proofs.serving.serve_all.Given as goal

abbrev pub invariant-loop-done : goal.invariant-loop-done
invariant-loop-done g l = record {
  few : l.done < 10000;
  frame : HasServed g.P.Port g.T.Tree l.fn.port l.port l.fn.tree l.tree;
  others : others_of (g.P.Port.talks l.port) ≡ others_of (g.P.Port.talks l.fn.port);
  goes : WhereTold (g.T.Tree.files l.fn.tree) (g.P.Port.talks l.port) (Goes l.root l.done l.unread);
}
