use Rattle.source_lists.proofs.Laws.{sources_read, sources_refused}
use Rattle.source_lists.proofs.sources.read_sources.Goals as goal

pub returns-clause-read : goal.returns-clause-read
returns-clause-read c = sources_read c.args.file.now c.args.arch.now c.args.bytes.now c.entries_of_sources.result c.entries_of_sources.ensures.value

pub returns-clause-refused : goal.returns-clause-refused
returns-clause-refused c = sources_refused c.args.file.now c.args.arch.now c.args.bytes.now c.entries_of_sources.result c.entries_of_sources.ensures.value
