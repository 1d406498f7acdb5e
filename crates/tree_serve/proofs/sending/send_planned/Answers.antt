use Rattle.std.proofs.Common.{ap, subst, ◌∙◌}
use Rattle.std.specs.Prelude.{option_map}
use Rattle.acq_net.specs.Talk.{sends}
use Rattle.acq_net.specs.Talks.{SendsPartOfLatest, on_first}
use Rattle.tree_serve.proofs.Sent.{body_part_in, head_part_in}
use Rattle.tree_serve.proofs.sending.send_planned.Goals as goal

pub returns-in_err-send-clause-part : goal.returns-in_err-send-clause-part
returns-in_err-send-clause-part g c =
    head_part_in c.from_residual.result (g.T.Tree.files c.args.tree.now) c.args.planned.now (g.P.Port.talks c.args.port.now) (g.P.Port.talks c.send.new.port)
    (subst (λ b. SendsPartOfLatest b (g.P.Port.talks c.args.port.now) (g.P.Port.talks c.send.new.port)) c.as_slice.ensures c.in_err-send.ensures.part)

pub returns-clause-part : goal.returns-clause-part
returns-clause-part g c =
    body_part_in c.send_body.result (g.T.Tree.files c.args.tree.now) c.args.planned.now (g.P.Port.talks c.args.port.now) (g.P.Port.talks c.send.new.port) (g.P.Port.talks c.send_body.new.port)
    (c.in_ok-send.ensures.sent ∙ ap (λ b. option_map (on_first (sends b)) (g.P.Port.talks c.args.port.now)) c.as_slice.ensures) c.send_body.ensures.part
