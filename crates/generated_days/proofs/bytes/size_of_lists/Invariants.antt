use Rattle.std.proofs.Common.{◌≡◌, take}
use Rattle.std.specs.List.{sum_by}
use Rattle.acq_outside.specs.History.{files_of}
use Rattle.acq_memory.specs.MemDisk.{past_of}
use Rattle.generated_days.specs.Sizes.{size_in}
use Rattle.generated_days.proofs.bytes.size_of_lists.Given as goal

abbrev pub invariant-loop-file : goal.invariant-loop-file
invariant-loop-file l = record {
  sum : l.bytes ≡ sum_by (size_in (files_of (past_of l.fn.disk))) (take l.file-index l.files);
  same : past_of l.disk ≡ past_of l.fn.disk;
}
