use Rattle.std.proofs.Common.{◌≡◌, ◌++◌, drop}
use Rattle.acq_outside.specs.Choice.{drawn_files}
use Rattle.acq_memory.proofs.choice.draw_files.Given as goal

abbrev pub invariant-loop-file : goal.invariant-loop-file
invariant-loop-file l = (drawn_files l.whole l.files l.fn.rest).value ≡ l.all ++ (drawn_files l.whole (drop l.file-index l.files) l.rest).value
