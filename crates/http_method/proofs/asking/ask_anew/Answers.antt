use Rattle.std.proofs.lemmas.Result.{IfOk-weaker}
use Rattle.acq_net.specs.Talk.{silent}
use Rattle.http_method.specs.Line.{line_of}
use Rattle.http_method.proofs.Begins.{asked_anew, begins_anew, first_is, first_reads}
use Rattle.http_method.proofs.asking.ask_anew.Goals as goal

pub next_word-requires-clause-is : goal.next_word-requires-clause-is
next_word-requires-clause-is g c =
    let line = line_of g.L.Link in
    let sent = asked_anew (line c.args.link.now) (line c.connect.new.link) (line c.send.new.link) c.args.job.now c.args.text.now c.requires.http c.requires.sound c.requires.small c.requires.text c.in_ok-connect.ensures.fresh c.in_ok-send.ensures.sent in
    first_is (line c.send.new.link) silent c.in-Ok.reading c.args.job.now c.in-Ok.ensures.fetch c.in-Ok.ensures.behind c.requires.from c.requires.sound c.in-Ok.ensures.state c.in-Ok.ensures.none
    (first_reads (line c.send.new.link) silent c.in-Ok.reading c.args.job.now c.in-Ok.ensures.fetch c.in-Ok.ensures.behind c.in-Ok.ensures.follows sent)

pub returns-clause-says : goal.returns-clause-says
returns-clause-says g c =
    let line = line_of g.L.Link in
    let sent = asked_anew (line c.args.link.now) (line c.connect.new.link) (line c.send.new.link) c.args.job.now c.args.text.now c.requires.http c.requires.sound c.requires.small c.requires.text c.in_ok-connect.ensures.fresh c.in_ok-send.ensures.sent in
    let reads = first_reads (line c.send.new.link) silent c.in-Ok.reading c.args.job.now c.in-Ok.ensures.fetch c.in-Ok.ensures.behind c.in-Ok.ensures.follows sent in
    IfOk-weaker c.next_word.result _ _ (λ said says. begins_anew (line c.send.new.link) (line c.next_word.new.link) c.in-Ok.reading c.args.job.now said c.in-Ok.ensures.fetch reads says) c.next_word.ensures.says
