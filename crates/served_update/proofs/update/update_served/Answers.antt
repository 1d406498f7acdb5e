use Rattle.std.proofs.Common.{◌≤◌, refl, subst}
use Rattle.served_update.proofs.Served.{from_server}
use Rattle.served_update.proofs.update.update_served.Goals as goal

pub returns-clause-served : goal.returns-clause-served
returns-clause-served g c =
    from_server g.T.Tree c.args.methods.now.items _ _ _ _ _ (subst (λ n. 1 ≤ n) c.args.methods.now.ok.0 c.requires.0) refl c.update_call.ensures.headline
