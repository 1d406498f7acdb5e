use Rattle.std.proofs.Common.{[], ap, sym, take}
use Rattle.http_method.specs.Line.{line_of}
use Rattle.http_method.proofs.Received.{goes_taken}
use Rattle.http_method.proofs.hearing.receive_once.Goals as goal

pub returns-then-n-eq0-clause-goes : goal.returns-then-n-eq0-clause-goes
returns-then-n-eq0-clause-goes g c =
    goes_taken c.args.reading.now c.end.new.reading (line_of g.L.Link c.args.link.now) (line_of g.L.Link c.receive.new.self) [] c.receive.new.out c.in_ok-n.n c.end.ensures.received
    (ap (λ m. take m c.receive.new.out) (sym c.if-n-eq0.true)) c.in_ok-n.ensures.received c.in_ok-n.ensures.frame.same c.in_ok-n.ensures.came

pub returns-clause-goes : goal.returns-clause-goes
returns-clause-goes g c =
    goes_taken c.args.reading.now c.feed.new.reading (line_of g.L.Link c.args.link.now) (line_of g.L.Link c.receive.new.self) c.split_at.result.0.now c.receive.new.out c.in_ok-n.n c.in_ok-feed.ensures.received
    c.split_at.ensures.front c.in_ok-n.ensures.received c.in_ok-n.ensures.frame.same c.in_ok-n.ensures.came
