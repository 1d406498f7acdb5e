use Rattle.pdiff_index.proofs.Named.{read-named, read-distinct}
use Rattle.pdiff_index.proofs.reading.read_index.Goals as goal

pub returns-clause-named : goal.returns-clause-named
returns-clause-named c = read-named c.args.bytes.now c.index_from.result c.index_from.ensures

pub returns-clause-distinct : goal.returns-clause-distinct
returns-clause-distinct c = read-distinct c.args.bytes.now c.index_from.result c.index_from.ensures
