-- What the standard output shows.
use Rattle.std.specs.Prelude.{ℕ}
use Rattle.acq_real.specs.declared.sink.RealSink.{RealSink}

abbrev pub faults_of : {R : Type 0} → RealSink R → ℕ
faults_of sink = sink.faults
