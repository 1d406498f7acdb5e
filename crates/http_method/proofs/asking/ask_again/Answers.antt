use Rattle.std.proofs.Common.{◌∙◌, [], unwrap_or}
use Rattle.std.proofs.lemmas.Result.{IfOk-weaker}
use Rattle.acq_net.specs.Talk.{silent}
use Rattle.http_method.specs.Line.{line_of}
use Rattle.http_method.proofs.Begins.{asked_again, begins_again, first_is, first_reads, reads_on}
use Rattle.http_method.proofs.Received.{reading_on, small_on}
use Rattle.http_method.proofs.asking.ask_again.Goals as goal

pub next_word-requires-clause-is : goal.next_word-requires-clause-is
next_word-requires-clause-is g c =
    let line = line_of g.L.Link in
    let before = unwrap_or (line c.args.link.now).talk silent in
    let sent = asked_again (line c.args.link.now) (line c.send.new.link) c.args.job.now c.args.text.now c.requires.http c.requires.sound c.requires.small c.requires.text c.requires.ready c.in_ok-send.ensures.sent in
    let reads = first_reads (line c.send.new.link) before c.in-Ok.reading c.args.job.now c.in-Ok.ensures.fetch c.in-Ok.ensures.behind c.in-Ok.ensures.follows sent in
    let first = first_is (line c.send.new.link) before c.in-Ok.reading c.args.job.now c.in-Ok.ensures.fetch c.in-Ok.ensures.behind c.requires.from c.requires.sound c.in-Ok.ensures.state c.in-Ok.ensures.none reads in
    reading_on (line c.send.new.link) (line c.receive_once.new.link) c.in-Ok.reading c.receive_once.new.reading [] first c.in-Ok-receive_once.ensures.goes c.in-Ok-receive_once.ensures.fetch c.in-Ok-receive_once.ensures.going
    (small_on (line c.send.new.link) c.in-Ok.reading c.receive_once.new.reading [] first c.in-Ok-receive_once.ensures.small c.in-Ok.ensures.state c.in-Ok.ensures.none)

pub returns-in-Ok-receive_once-clause-says : goal.returns-in-Ok-receive_once-clause-says
returns-in-Ok-receive_once-clause-says g c =
    let line = line_of g.L.Link in
    let before = unwrap_or (line c.args.link.now).talk silent in
    let sent = asked_again (line c.args.link.now) (line c.send.new.link) c.args.job.now c.args.text.now c.requires.http c.requires.sound c.requires.small c.requires.text c.requires.ready c.in_ok-send.ensures.sent in
    let reads = first_reads (line c.send.new.link) before c.in-Ok.reading c.args.job.now c.in-Ok.ensures.fetch c.in-Ok.ensures.behind c.in-Ok.ensures.follows sent in
    let later = reads_on (line c.send.new.link) (line c.receive_once.new.link) c.in-Ok.reading c.receive_once.new.reading before reads c.in-Ok-receive_once.ensures.goes in
    IfOk-weaker c.next_word.result _ _ (λ said says.
    begins_again (line c.args.link.now) (line c.receive_once.new.link) (line c.next_word.new.link) c.receive_once.new.reading c.args.job.now said (c.in-Ok-receive_once.ensures.fetch ∙ c.in-Ok.ensures.fetch) later says) c.next_word.ensures.says
