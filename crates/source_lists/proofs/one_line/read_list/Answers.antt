use Rattle.source_lists.proofs.Laws.{list_read, list_refused}
use Rattle.source_lists.proofs.one_line.read_list.Goals as goal

pub returns-clause-read : goal.returns-clause-read
returns-clause-read c = list_read c.args.file.now c.args.arch.now c.args.bytes.now c.entries_of_list.result c.entries_of_list.ensures.value

pub returns-clause-refused : goal.returns-clause-refused
returns-clause-refused c = list_refused c.args.file.now c.args.arch.now c.args.bytes.now c.entries_of_list.result c.entries_of_list.ensures.value
