use Rattle.std.proofs.Common.{◌≤◌, IfSome, subst, sym}
use Rattle.served_link.specs.Link.{PendingWithin}
use Rattle.served_link.proofs.Pieces.{head_sent_in}
use Rattle.served_link.proofs.sending.send_on.Goals as goal

pub returns-then-p-len-clause-told : goal.returns-then-p-len-clause-told
returns-then-p-len-clause-told g c =
    let e = c.send_head.ensures in
    let within = subst (λ old. IfSome (g.T.Tree.files c.args.tree.now) (λ files. PendingWithin files old)) c.in-Some.is c.requires.within in
    rw c.in-Some.is (head_sent_in (g.T.Tree.files c.args.tree.now) c.in-Some.p c.send_head.new.p c.send_head.result c.send_head.new.out e.some (subst (λ n. c.send_head.result ≤ n) (sym e.room) e.within) e.sent e.planned within)
