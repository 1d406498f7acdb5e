use Rattle.std.proofs.Common.{◌≡◌, false, sym, ◌∙◌}
use Rattle.std.specs.Prelude.{is_err, option_map}
use Rattle.acq_net.specs.Talks.{accepts}
use Rattle.tree_serve.proofs.Frames.{stops_behind}
use Rattle.tree_serve.proofs.Saying.{on_ok}
use Rattle.tree_serve.proofs.Served.{next_failed, next_served}
use Rattle.tree_serve.proofs.server.serve_next.Goals as goal

pub returns-in-Ok-clause-served : goal.returns-in-Ok-clause-served
returns-in-Ok-clause-served g c =
    let fine : is_err c.accept.result ≡ false = sym c.is_err.ensures.value ∙ c.if-is_err.false in
    let accepted = on_ok c.accept.result (g.P.Port.talks c.accept.new.self ≡ option_map accepts (g.P.Port.talks c.args.port.now)) fine c.accept.ensures.accepted in
    next_served c.in-Ok.field-0 (g.T.Tree.files c.args.tree.now) (g.P.Port.talks c.args.port.now) (g.P.Port.talks c.accept.new.self) (g.P.Port.talks c.serve_one.new.port) c.args.root.now
    (g.P.Port.faults c.args.port.now) (g.T.Tree.faults c.args.tree.now) (g.P.Port.faults c.serve_one.new.port) (g.T.Tree.faults c.serve_one.new.tree) accepted c.in-Ok.ensures.others c.in-Ok.ensures.served

pub returns-in-Err-clause-served : goal.returns-in-Err-clause-served
returns-in-Err-clause-served g c =
    let fine : is_err c.accept.result ≡ false = sym c.is_err.ensures.value ∙ c.if-is_err.false in
    let accepted = on_ok c.accept.result (g.P.Port.talks c.accept.new.self ≡ option_map accepts (g.P.Port.talks c.args.port.now)) fine c.accept.ensures.accepted in
    let quiet = on_ok c.accept.result (g.P.Port.faults c.accept.new.self ≡ g.P.Port.faults c.args.port.now) fine c.accept.ensures.frame.quiet in
    next_failed g.P.Port g.T.Tree c.args.root.now c.args.port.now c.accept.new.self c.serve_one.new.port c.args.tree.now c.serve_one.new.tree c.in-Err.error c.go_on.result c.go_on.ensures accepted quiet c.in-Err.ensures.others c.in-Err.ensures.frame c.in-Err.ensures.cut

pub returns-in-Err-clause-frame : goal.returns-in-Err-clause-frame
returns-in-Err-clause-frame g c =
    let fine : is_err c.accept.result ≡ false = sym c.is_err.ensures.value ∙ c.if-is_err.false in
    let lost = on_ok c.accept.result (g.P.Port.lost c.accept.new.self ≡ g.P.Port.lost c.args.port.now) fine c.accept.ensures.frame.lost.quiet in
    stops_behind c.accept.ensures.frame.count lost c.in-Err.ensures.frame c.go_on.ensures
