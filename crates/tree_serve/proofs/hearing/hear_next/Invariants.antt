use Rattle.std.proofs.Common.{◌≤◌, true, length}
use Rattle.tree_serve.specs.Frame.{HasConversed}
use Rattle.tree_serve.specs.Hearing.{Hears}
use Rattle.tree_serve.proofs.hearing.hear_next.Given as goal

-- each look but the last brought a byte
abbrev pub invariant-loop : goal.invariant-loop
invariant-loop g l = record {
  few : l.counter ≤ 65537;
  many : l.counter ≤ length l.unread;
  frame : HasConversed g.P.Port l.fn.port l.port;
  heard : Hears true l.fn.unread l.unread (g.P.Port.talks l.fn.port) (g.P.Port.talks l.port);
}
