use Rattle.pdiff_index.proofs.Named.{listed}
use Rattle.pdiff_index.proofs.links.chain.Goals as goal

pub returns-clause-listed : goal.returns-clause-listed
returns-clause-listed c = listed c.args.index.now c.args.have.now c.args.want.now c.args.file_limit c.args.size_limit c.chain_to.result c.chain_to.ensures
