use Rattle.std.proofs.Common.{◌≡◌, ◌-◌, ◌≤◌}
use Rattle.acq_outside.specs.Fetches.{Fetches}
use Rattle.method_server.specs.Serving.{most_input, scene}
use Rattle.method_server.specs.Taking.{SoFar}
use Rattle.method_server.proofs.serve.serve_method.Given as goal

abbrev pub invariant-turns : goal.invariant-turns
invariant-turns g l = record {
  method : Fetches g.M.Method l.fn.method l.method;
  input : g.I.Inlet.faults l.input ≡ g.I.Inlet.faults l.fn.input;
  files : g.F.Files.faults l.files ≡ g.F.Files.faults l.fn.files;
  output : g.S.Sink.faults l.out ≡ g.S.Sink.faults l.fn.out;
  few : l.size ≤ most_input;
  so_far : SoFar (g.M.Method.world l.fn.method) l.http (scene g.I.Inlet g.M.Method g.F.Files g.S.Sink l.fn.input l.fn.method l.fn.files l.fn.out)
      (scene g.I.Inlet g.M.Method g.F.Files g.S.Sink l.input l.method l.files l.out) l.reader l.size;
}

abbrev pub decreases-turns : goal.decreases-turns
decreases-turns g l = most_input - l.size
