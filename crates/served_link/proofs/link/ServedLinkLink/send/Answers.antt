use Rattle.served_link.proofs.Links.{owes_planned}
use Rattle.served_link.proofs.link.ServedLinkLink.send.Goals as goal

pub returns-in-Ok-clause-owes : goal.returns-in-Ok-clause-owes
returns-in-Ok-clause-owes g c =
    let s = c.self.inside in
    rw (← c.self.view_is, c.in-Ok.ensures.frame.same, c.in-Some.is) (owes_planned (g.T.Tree.files s.tree) s.root s.host s.port c.in-Some.place c.is_home-home.result _ c.args.bytes.now s.pending c.in-Ok.pending c.is_home-home.ensures c.in-Ok.ensures.response)
