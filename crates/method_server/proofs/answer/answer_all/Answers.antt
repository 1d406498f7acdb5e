use Rattle.std.proofs.Common.{◌∙◌, ◌∷◌, [], subst, arith, Option}
use Rattle.std.proofs.lemmas.Result.{err_from_is_err_and}
use Rattle.acq_base.specs.Mirror.{MirrorMap}
use Rattle.method_server.specs.Taking.{Answered, Halts}
use Rattle.method_server.specs.Turns.{moment}
use Rattle.method_server.proofs.Answering.{front_halts, front_more, halts_as}
use Rattle.method_server.proofs.answer.answer_all.Goals as goal

pub returns-in_err-answer-clause-answers : goal.returns-in_err-answer-clause-answers
returns-in_err-answer-clause-answers g c =
    let p = err_from_is_err_and c.from_residual.result c.from_residual.ensures.1 in
    let inv = c.loop-message.invariant in
    let world = g.M.Method.world c.args.method.now in
    let old = moment g.M.Method g.F.Files c.args.method.now c.args.files.now in
    let mid = moment g.M.Method g.F.Files c.loop-message.method c.loop-message.files in
    let new = moment g.M.Method g.F.Files c.answer.new.method c.answer.new.files in
    halts_as world c.args.http c.args.messages.now old new (g.S.Sink.written c.args.out.now) (g.S.Sink.written c.answer.new.out) c.from_residual.result p.0 p.1
    (front_halts world c.args.http c.args.messages.now c.loop-message.rest.now c.in-Some.others.now c.in-Some.message.now old mid new (g.S.Sink.written c.args.out.now) (g.S.Sink.written c.loop-message.out) (g.S.Sink.written c.answer.new.out)
    c.in-Some.ensures.cases.0 inv.answered
    (subst (λ (w : Option MirrorMap). Halts w c.args.http (c.in-Some.message.now ∷ []) mid new (g.S.Sink.written c.loop-message.out) (g.S.Sink.written c.answer.new.out)) inv.method.same c.in_err-answer.ensures.answers))

pub loop-message-preserved : goal.loop-message-preserved
loop-message-preserved g c =
    let inv = c.loop-message.invariant in
    let world = g.M.Method.world c.args.method.now in
    let old = moment g.M.Method g.F.Files c.args.method.now c.args.files.now in
    let mid = moment g.M.Method g.F.Files c.loop-message.method c.loop-message.files in
    let new = moment g.M.Method g.F.Files c.answer.new.method c.answer.new.files in
    record {
      method = record { count = omega (arith, inv.method.count, c.answer.ensures.method.count); same = c.answer.ensures.method.same ∙ inv.method.same };
      files = c.in_ok-answer.ensures.files.quiet ∙ inv.files;
      output = c.in_ok-answer.ensures.output.quiet ∙ inv.output;
      answered = front_more world c.args.http c.args.messages.now c.loop-message.rest.now c.in-Some.others.now c.in-Some.message.now old mid new (g.S.Sink.written c.args.out.now) (g.S.Sink.written c.loop-message.out) (g.S.Sink.written c.answer.new.out)
          c.in-Some.ensures.cases.0 inv.answered
          (subst (λ (w : Option MirrorMap). Answered w c.args.http (c.in-Some.message.now ∷ []) mid new (g.S.Sink.written c.loop-message.out) (g.S.Sink.written c.answer.new.out)) inv.method.same c.in_ok-answer.ensures.answers);
    }
