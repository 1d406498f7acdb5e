use Rattle.std.proofs.Common.{◌≡◌, ℕ, List, true, false, rules, subst, sym}
use Rattle.method_server.specs.Asked.{is_request, wish_of}
use Rattle.method_server.specs.Turns.{IsAnswered, moment}
use Rattle.method_server.proofs.Answering.{no_request, said_answer}
use Rattle.method_server.proofs.answer.answer.Goals as goal

pub returns-then-not-is_request-clause-answers : goal.returns-then-not-is_request-clause-answers
returns-then-not-is_request-clause-answers g c =
    let asks : is_request c.args.message.now ≡ false = search rules in
    no_request (g.M.Method.world c.args.method.now) c.args.http c.args.message.now (moment g.M.Method g.F.Files c.args.method.now c.args.files.now) (g.S.Sink.written c.args.out.now) asks

pub returns-clause-answers : goal.returns-clause-answers
returns-clause-answers g c =
    let asks : is_request c.args.message.now ≡ true = search rules in
    said_answer (g.M.Method.world c.args.method.now) c.args.http c.args.message.now (moment g.M.Method g.F.Files c.args.method.now c.args.files.now) (moment g.M.Method g.F.Files c.find_answer.new.method c.find_answer.new.files)
    (g.S.Sink.written c.args.out.now) (g.S.Sink.written c.say.new.out) c.as_bytes.result.now c.say.result asks
    (subst (λ (t : List ℕ). IsAnswered (g.M.Method.world c.args.method.now) c.args.http c.args.message.now (wish_of c.args.http c.args.message.now) (moment g.M.Method g.F.Files c.args.method.now c.args.files.now) t
    (moment g.M.Method g.F.Files c.find_answer.new.method c.find_answer.new.files)) (sym c.as_bytes.ensures) c.in_ok-text.ensures.text)
    c.say.ensures.ok c.say.ensures.err
