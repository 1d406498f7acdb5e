use Rattle.std.proofs.Common.{◌≡◌, ◌≤◌, [], not, vec_len}
use Rattle.acq_net.specs.OverLink.{HasListened}
use Rattle.http_method.specs.Line.{line_of}
use Rattle.http_method.specs.Reading.{Goes, IsReading, is_end}
use Rattle.http_method.proofs.hearing.listen.Given as goal

-- no byte was given out yet
abbrev pub invariant-loop : goal.invariant-loop
invariant-loop g l = record {
  room : vec_len l.room ≤ 65536;
  frame : HasListened g.L.Link l.fn.link l.link;
  fetch : l.reading.fetch ≡ l.fn.reading.fetch;
  is : IsReading (line_of g.L.Link l.link) l.reading [];
  opened : g.L.Link.opened l.link ≡ not (is_end l.reading.behind);
  goes : Goes (line_of g.L.Link l.fn.link) l.fn.reading (line_of g.L.Link l.link) l.reading [];
}
