use Rattle.std.proofs.Common.{◌≡◌, ◌++◌, take}
use Rattle.acq_memory.proofs.mem_sink.append.Given as goal

abbrev pub invariant-loop-byte : goal.invariant-loop-byte
invariant-loop-byte l = l.row ≡ l.fn.row ++ take l.byte-index l.bytes
