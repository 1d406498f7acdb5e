use Rattle.std.proofs.Common.{subst, List}
use Rattle.std.proofs.lemmas.Result.{err_from_is_err_and}
use Rattle.method_messages.specs.declared.error.MessageError.TheVariants.{BadMessage, TooLong}
use Rattle.method_messages.specs.declared.message.Message.{Message}
use Rattle.method_server.specs.Taking.{Answered, Halts}
use Rattle.method_server.specs.Turns.{moment}
use Rattle.method_server.proofs.Takings.{line_halts, line_refused, line_taken, line_unread, only_bad, only_long, takes_as}
use Rattle.method_server.proofs.stream.take_line.Goals as goal

pub returns-in_err-answer_all-in-Ok-clause-takes : goal.returns-in_err-answer_all-in-Ok-clause-takes
returns-in_err-answer_all-in-Ok-clause-takes g c = λ stream messages reads.
    let p = err_from_is_err_and c.from_residual.result c.from_residual.ensures.1 in
    let world = g.M.Method.world c.args.method.now in
    let old = moment g.M.Method g.F.Files c.args.method.now c.args.files.now in
    let new = moment g.M.Method g.F.Files c.answer_all.new.method c.answer_all.new.files in
    let a = g.S.Sink.written c.args.out.now in
    let b = g.S.Sink.written c.answer_all.new.out in
    takes_as world c.args.http stream messages c.args.line.now c.feed.new.self old new a b c.from_residual.result p.0 p.1
    (line_halts world c.args.http stream messages c.in-Ok.messages c.args.line.now c.feed.new.self old new a b (c.in-Ok.ensures.given stream messages reads)
    (subst (λ (ms : List Message). Halts world c.args.http ms old new a b) c.as_slice.ensures c.in_err-answer_all-in-Ok.ensures.answers))

pub returns-in_ok-answer_all-in-Ok-clause-takes : goal.returns-in_ok-answer_all-in-Ok-clause-takes
returns-in_ok-answer_all-in-Ok-clause-takes g c = λ stream messages reads.
    let world = g.M.Method.world c.args.method.now in
    let old = moment g.M.Method g.F.Files c.args.method.now c.args.files.now in
    let new = moment g.M.Method g.F.Files c.answer_all.new.method c.answer_all.new.files in
    let a = g.S.Sink.written c.args.out.now in
    let b = g.S.Sink.written c.answer_all.new.out in
    line_taken world c.args.http stream messages c.in-Ok.messages c.args.line.now c.feed.new.self old new a b (c.in-Ok.ensures.given stream messages reads)
    (subst (λ (ms : List Message). Answered world c.args.http ms old new a b) c.as_slice.ensures c.in_ok-answer_all-in-Ok.ensures.answers)

pub returns-in-Err-BadMessage-clause-takes : goal.returns-in-Err-BadMessage-clause-takes
returns-in-Err-BadMessage-clause-takes g c = λ stream messages reads.
    rw c.in-Err-BadMessage.at-is
    (line_refused (g.M.Method.world c.args.method.now) c.args.http stream messages c.args.line.now c.args.reader.now (BadMessage c.in-Err-BadMessage.at) (moment g.M.Method g.F.Files c.args.method.now c.args.files.now)
    (g.S.Sink.written c.args.out.now) c.requires reads (only_bad _ c.in-Err-BadMessage.field-0 c.in-Err-BadMessage.at c.in-Err-BadMessage.field-0-is (c.in-Err-BadMessage.ensures.only stream messages reads)))

pub returns-in-Err-TooLong-clause-takes : goal.returns-in-Err-TooLong-clause-takes
returns-in-Err-TooLong-clause-takes g c = λ stream messages reads.
    rw c.in-Err-TooLong.at-is
    (line_refused (g.M.Method.world c.args.method.now) c.args.http stream messages c.args.line.now c.args.reader.now (TooLong c.in-Err-TooLong.at) (moment g.M.Method g.F.Files c.args.method.now c.args.files.now)
    (g.S.Sink.written c.args.out.now) c.requires reads (only_long _ c.in-Err-TooLong.field-0 c.in-Err-TooLong.at c.in-Err-TooLong.field-0-is (c.in-Err-TooLong.ensures.only stream messages reads)))

pub returns-in-Err-NoMemory-clause-takes : goal.returns-in-Err-NoMemory-clause-takes
returns-in-Err-NoMemory-clause-takes g c = λ stream messages reads.
    line_unread (g.M.Method.world c.args.method.now) c.args.http stream messages c.args.line.now c.args.reader.now (moment g.M.Method g.F.Files c.args.method.now c.args.files.now) (g.S.Sink.written c.args.out.now) reads
