use Rattle.served_link.proofs.Pieces.{file_sent_in}
use Rattle.served_link.proofs.sending.send_file.Goals as goal

pub returns-clause-told : goal.returns-clause-told
returns-clause-told g c =
    file_sent_in (g.T.Tree.files c.args.tree.now) c.args.p.now c.in_ok-n.n c.read_some.new.out c.requires.sent c.in_ok-n.ensures.few c.in_ok-n.ensures.told c.requires.within
