use Rattle.std.proofs.Common.{rules}
use Rattle.acq_memory.specs.Held.{files_in}
use Rattle.acq_memory.proofs.HeldFiles.{moved, moved_here}
use Rattle.acq_memory.proofs.held.rename_in.Goals as goal

pub returns-then-ne-clause-ok : goal.returns-then-ne-clause-ok
returns-then-ne-clause-ok c =
    moved (files_in c.args.held.now) (files_in c.put.new.held) (files_in c.remove_in.new.held) c.args.from.now c.args.to.now c.in-Some.content.now (search rules) (search rules) (search rules) (search rules)

pub returns-else-ne-clause-ok : goal.returns-else-ne-clause-ok
returns-else-ne-clause-ok c =
    moved_here (files_in c.args.held.now) (files_in c.put.new.held) c.args.from.now c.args.to.now c.in-Some.content.now (search rules) (search rules) (search rules)
