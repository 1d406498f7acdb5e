use Rattle.std.proofs.Common.{◌∙◌, [], ap, sym, refl, subst, arith, length, not, ◌≤◌}
use Rattle.acq_net.proofs.LinkFramed.{listened_on}
use Rattle.http_method.specs.declared.reading.Reading.{Reading}
use Rattle.http_method.specs.Line.{line_of}
use Rattle.http_method.specs.Reading.{is_end}
use Rattle.http_method.proofs.Received.{empty_is, goes_given, goes_on, reading_on, small_none, small_on}
use Rattle.http_method.proofs.hearing.listen.Goals as goal

pub returns-then-not-is_empty-clause-is : goal.returns-then-not-is_empty-clause-is
returns-then-not-is_empty-clause-is g c =
    let line = line_of g.L.Link c.loop.link in
    let next : Reading = record { fetch = c.loop.reading.fetch; wire = c.take.new.self; behind = c.loop.reading.behind } in
    reading_on line line c.loop.reading next c.in_ok-bytes.bytes c.loop.invariant.is
    (goes_given line c.loop.reading c.take.new.self c.in_ok-bytes.bytes c.in_ok-bytes.ensures.follows c.in_ok-bytes.ensures.body) refl (λ more. c.loop.invariant.is.going (sym c.in_ok-bytes.ensures.state ∙ more))
    (λ fits. small_none c.take.new.self c.in_ok-bytes.ensures.none)

pub returns-then-not-is_empty-clause-small : goal.returns-then-not-is_empty-clause-small
returns-then-not-is_empty-clause-small g c =
    let other = c.is_refused.ensures.other c.if-is_refused.false in
    let few = c.loop.invariant.is.small other in
    subst (λ b. length b ≤ 65536) (sym c.in_ok-bytes.ensures.body) few

pub returns-then-not-is_empty-clause-fits : goal.returns-then-not-is_empty-clause-fits
returns-then-not-is_empty-clause-fits g c some big = c.is_refused.ensures.other c.if-is_refused.false (sym c.in_ok-bytes.ensures.state ∙ big)

pub returns-then-not-is_empty-clause-goes : goal.returns-then-not-is_empty-clause-goes
returns-then-not-is_empty-clause-goes g c =
    let line = line_of g.L.Link c.loop.link in
    let next : Reading = record { fetch = c.loop.reading.fetch; wire = c.take.new.self; behind = c.loop.reading.behind } in
    goes_on (line_of g.L.Link c.args.link.now) line line c.args.reading.now c.loop.reading next c.in_ok-bytes.bytes c.loop.invariant.goes
    (goes_given line c.loop.reading c.take.new.self c.in_ok-bytes.bytes c.in_ok-bytes.ensures.follows c.in_ok-bytes.ensures.body)

pub loop-preserved : goal.loop-preserved
loop-preserved g c =
    let first = line_of g.L.Link c.args.link.now in
    let line = line_of g.L.Link c.loop.link in
    let later = line_of g.L.Link c.receive_once.new.link in
    let middle : Reading = record { fetch = c.loop.reading.fetch; wire = c.take.new.self; behind = c.loop.reading.behind } in
    let none = empty_is c.in_ok-bytes.bytes c.is_empty.result c.is_empty.ensures c.if-not-is_empty.false in
    let given = goes_given line c.loop.reading c.take.new.self [] c.in_ok-bytes.ensures.follows (sym none ∙ c.in_ok-bytes.ensures.body) in
    let on = goes_on line line later c.loop.reading middle c.receive_once.new.reading [] given c.in_ok-receive_once.ensures.goes in
    let between = reading_on line line c.loop.reading middle [] c.loop.invariant.is given refl (λ more. c.loop.invariant.is.going (sym c.in_ok-bytes.ensures.state ∙ more)) (λ fits. small_none c.take.new.self c.in_ok-bytes.ensures.none) in
    record {
      room = (let same = c.in_ok-receive_once.ensures.room in let few = c.in_ok-room.ensures.few in omega (arith, same, few));
      frame = listened_on c.loop.invariant.frame c.in_ok-receive_once.ensures.frame;
      fetch = c.in_ok-receive_once.ensures.fetch ∙ c.loop.invariant.fetch;
      opened = c.in_ok-receive_once.ensures.opened (c.loop.invariant.opened ∙ ap (λ b. not (is_end b)) (c.loop.invariant.is.going (sym c.in_ok-bytes.ensures.state ∙ c.is_going.ensures.going c.if-not-is_going.false)));
      is = reading_on line later c.loop.reading c.receive_once.new.reading [] c.loop.invariant.is on c.in_ok-receive_once.ensures.fetch c.in_ok-receive_once.ensures.going
          (small_on line middle c.receive_once.new.reading [] between c.in_ok-receive_once.ensures.small (c.is_going.ensures.going c.if-not-is_going.false) c.in_ok-bytes.ensures.none);
      goes = goes_on first line later c.args.reading.now c.loop.reading c.receive_once.new.reading [] c.loop.invariant.goes on;
    }
