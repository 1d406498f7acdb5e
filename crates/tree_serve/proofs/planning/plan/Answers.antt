use Rattle.std.proofs.Common.{◌≡◌, ◌++◌, ◌∙◌, ap}
use Rattle.tree_serve.proofs.Plans.{planned_in}
use Rattle.tree_serve.proofs.planning.plan.Goals as goal

pub returns-clause-plan : goal.returns-clause-plan
returns-clause-plan g c =
    let path_is : c.append.new.self ≡ c.args.root.now ++ c.args.request.now.path =
    c.in_ok-append.ensures ∙ ap (λ p. p ++ c.as_bytes.result.now) c.in_ok-path.ensures ∙ ap (λ b. c.args.root.now ++ b) c.as_bytes.ensures in
    planned_in (g.T.Tree.files c.args.tree.now) c.args.root.now c.args.number c.args.request.now c.in_ok-answer.answer c.closes_by-closes.result c.in_ok-head.head c.append.new.self c.is_bare.result c.planned_by.result
    path_is c.in_ok-answer.ensures.of c.in_ok-answer.ensures.small c.in_ok-answer.ensures.told c.closes_by-closes.ensures c.in_ok-head.ensures c.is_bare.ensures c.planned_by.ensures.value
