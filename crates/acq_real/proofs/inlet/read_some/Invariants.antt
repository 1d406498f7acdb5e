use Rattle.std.specs.Io.KnownBytes.{Keeps}
use Rattle.acq_real.proofs.inlet.read_some.Given as goal

-- the reads so far gave nothing
abbrev pub invariant-loop : goal.invariant-loop
invariant-loop g l = Keeps (g.R.Read.remaining l.fn.reader) (g.R.Read.remaining l.reader)
