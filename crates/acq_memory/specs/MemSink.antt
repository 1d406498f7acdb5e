-- What a sink in memory shows.
use Rattle.std.specs.Prelude.{ℕ, List}
use Rattle.acq_memory.specs.declared.failing.Failing.{Failing}
use Rattle.acq_memory.specs.declared.mem_sink.MemSink.{MemSink}

abbrev pub written_to : MemSink → List ℕ
written_to sink = sink.written

abbrev pub failing_of : MemSink → Failing
failing_of sink = sink.failing

-- how often it failed
abbrev pub faults_of : MemSink → ℕ
faults_of sink = sink.failing.faults
