use Rattle.board_source.proofs.Changes.{ended-test}
use Rattle.board_source.proofs.lists.Lists.have_ended.Goals as goal

pub returns : goal.returns
returns c = ended-test c.args.self.now.items.items c.args.self.now.asking c.args.self.now.counted
