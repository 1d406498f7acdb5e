use Rattle.std.proofs.Common.{◌≡◌, length}
use Rattle.acq_outside.specs.Fetches.{Fetches}
use Rattle.method_server.specs.Taking.{AnswersFront}
use Rattle.method_server.specs.Turns.{moment}
use Rattle.method_server.proofs.answer.answer_all.Given as goal

abbrev pub invariant-loop-message : goal.invariant-loop-message
invariant-loop-message g l = record {
  method : Fetches g.M.Method l.fn.method l.method;
  files : g.F.Files.faults l.files ≡ g.F.Files.faults l.fn.files;
  output : g.S.Sink.faults l.out ≡ g.S.Sink.faults l.fn.out;
  answered : AnswersFront (g.M.Method.world l.fn.method) l.http l.messages l.rest (moment g.M.Method g.F.Files l.fn.method l.fn.files) (moment g.M.Method g.F.Files l.method l.files)
      (g.S.Sink.written l.fn.out) (g.S.Sink.written l.out);
}

abbrev pub decreases-loop-message : goal.decreases-loop-message
decreases-loop-message g l = length l.rest
