use Rattle.std.proofs.Common.{◌+◌, ◌∙◌, arith, refl, subst, sym}
use Rattle.tree_serve.specs.Talks.{Goes, IsServed, WhereTold}
use Rattle.tree_serve.proofs.Frames.{served, served_then, unserved}
use Rattle.tree_serve.proofs.Turns.{goes_at_first}
use Rattle.tree_serve.proofs.serving.serve_all.Goals as goal

pub loop-done-init : goal.loop-done-init
loop-done-init g c = record {
  few = omega arith;
  frame = unserved g.P.Port g.T.Tree c.args.port.now c.args.tree.now;
  others = refl;
  goes = subst (λ u. WhereTold (g.T.Tree.files c.args.tree.now) (g.P.Port.talks c.args.port.now) (Goes c.args.root.now 0 u)) (sym c.new-unread.ensures)
      (goes_at_first c.args.root.now (g.T.Tree.files c.args.tree.now) (g.P.Port.talks c.args.port.now) c.requires);
}

pub returns-in-Over-clause-served : goal.returns-in-Over-clause-served
returns-in-Over-clause-served g c =
    subst (λ t. WhereTold t (g.P.Port.talks c.take_turn.new.port) (IsServed c.args.root.now c.in-Over.count)) c.loop-done.invariant.frame.tree_is.same (rw c.in-Over.is at c.in_ok-take_turn.ensures.turned)

pub loop-done-preserved : goal.loop-done-preserved
loop-done-preserved g c = record {
  few = c.in_ok-take_turn.ensures.few c.in-Kept.is;
  frame = served_then c.loop-done.invariant.frame (served c.in_ok-take_turn.ensures.frame);
  others = c.in_ok-take_turn.ensures.others ∙ c.loop-done.invariant.others;
  goes = subst (λ t. WhereTold t (g.P.Port.talks c.take_turn.new.port) (Goes c.args.root.now (c.loop-done.done + 1) c.take_turn.new.unread)) c.loop-done.invariant.frame.tree_is.same (rw c.in-Kept.is at c.in_ok-take_turn.ensures.turned);
}
