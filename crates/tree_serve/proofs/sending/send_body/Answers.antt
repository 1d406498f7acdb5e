use Rattle.std.proofs.Common.{◌+◌, ◌-◌, ◌∙◌, arith}
use Rattle.tree_serve.proofs.Frames.{served, served_then}
use Rattle.tree_serve.proofs.Sent.{piece_on_in, piece_part_in}
use Rattle.tree_serve.proofs.sending.send_body.Goals as goal

pub returns-in_err-at-clause-part : goal.returns-in_err-at-clause-part
returns-in_err-at-clause-part g c =
    let begun = c.loop-at.invariant.begun in
    let inside = c.loop-at.invariant.inside in
    piece_part_in c.from_residual-in_err-at.result (g.T.Tree.files c.loop-at.tree) (g.T.Tree.files c.args.tree.now) c.args.planned.now.path c.args.planned.now.at c.loop-at.at ((c.args.planned.now.at + c.args.planned.now.left) - c.loop-at.at) c.args.planned.now.left
    (g.P.Port.talks c.args.port.now) (g.P.Port.talks c.loop-at.port) (g.P.Port.talks c.send_piece.new.port) c.loop-at.invariant.frame.tree_is.same begun (omega (arith, begun, inside)) c.loop-at.invariant.sent c.in_err-at.ensures.part

pub loop-at-preserved : goal.loop-at-preserved
loop-at-preserved g c =
    let begun = c.loop-at.invariant.begun in
    let inside = c.loop-at.invariant.inside in
    let few = c.in_ok-at.ensures.few in
    record {
      room = omega (arith, c.loop-at.invariant.room);
      begun = omega (arith, begun);
      inside = omega (arith, inside, few);
      frame = served_then c.loop-at.invariant.frame (served c.in_ok-at.ensures.frame);
      others = c.in_ok-at.ensures.others ∙ c.loop-at.invariant.others;
      sent = piece_on_in (g.T.Tree.files c.loop-at.tree) (g.T.Tree.files c.args.tree.now) c.args.planned.now.path c.args.planned.now.at c.loop-at.at c.in_ok-at.field-0
          (g.P.Port.talks c.args.port.now) (g.P.Port.talks c.loop-at.port) (g.P.Port.talks c.send_piece.new.port) c.loop-at.invariant.frame.tree_is.same begun c.loop-at.invariant.sent c.in_ok-at.ensures.sent;
    }
