use Rattle.std.proofs.Common.{◌≡◌, ℕ, List, length}
use Rattle.acq_outside.specs.Fetches.{Fetches}
use Rattle.method_messages.specs.declared.message.Message.{Message}
use Rattle.method_messages.specs.Streams.{Reads}
use Rattle.method_server.specs.Taking.{TakesFront}
use Rattle.method_server.specs.Turns.{moment}
use Rattle.method_server.proofs.stream.take_piece.Given as goal

abbrev pub invariant-lines : goal.invariant-lines
invariant-lines g l = record {
  method : Fetches g.M.Method l.fn.method l.method;
  files : g.F.Files.faults l.files ≡ g.F.Files.faults l.fn.files;
  output : g.S.Sink.faults l.out ≡ g.S.Sink.faults l.fn.out;
  takes : (stream : List ℕ) (messages : List Message) → Reads stream messages l.fn.reader
      → TakesFront (g.M.Method.world l.fn.method) l.http stream messages l.piece l.rest l.reader (moment g.M.Method g.F.Files l.fn.method l.fn.files) (moment g.M.Method g.F.Files l.method l.files)
      (g.S.Sink.written l.fn.out) (g.S.Sink.written l.out);
}

abbrev pub decreases-lines : goal.decreases-lines
decreases-lines g l = length l.rest
