use Rattle.std.proofs.Common.{◌≡◌, ◌++◌, map}
use Rattle.lists_dir.specs.Summing.{file_of}
use Rattle.lists_dir.proofs.batch.end_all.Given as goal

abbrev pub invariant-loop-reading : goal.invariant-loop-reading
invariant-loop-reading l = record {
  rest : l.fn.readings.items ≡ l.yielded ++ l.reading-iterator.rest.items;
  told : l.sums.items ≡ l.fn.sums.items ++ map file_of l.yielded;
}
