use Rattle.std.proofs.Common.{◌∙◌, refl, sym, ap, subst, arith, ℕ, List, length-take, Option}
use Rattle.acq_base.specs.Mirror.{MirrorMap}
use Rattle.acq_outside.specs.Sink.{WrotePart}
use Rattle.method_server.specs.Serving.{Served, scene}
use Rattle.method_server.specs.Taking.{SoFar, end_of_stop}
use Rattle.method_server.specs.declared.end.ServeEnd.{ServeEnd}
use Rattle.method_server.proofs.Takings.{all_read, silent}
use Rattle.method_server.proofs.serve.serve_method.Goals as goal

pub returns-in-Err-clause-serves : goal.returns-in-Err-clause-serves
returns-in-Err-clause-serves g c =
    let world = g.M.Method.world c.args.method.now in
    let old = scene g.I.Inlet g.M.Method g.F.Files g.S.Sink c.args.input.now c.args.method.now c.args.files.now c.args.out.now in
    let new = scene g.I.Inlet g.M.Method g.F.Files g.S.Sink c.args.input.now c.args.method.now c.args.files.now c.say.new.out in
    subst (λ (e : ServeEnd). Served world c.args.http old new e) (sym (c.end.ensures ∙ ap end_of_stop c.in-Err.ensures.alone))
    (silent world c.args.http old new refl refl (subst (λ (t : List ℕ). WrotePart (g.S.Sink.written c.args.out.now) t (g.S.Sink.written c.say.new.out)) c.capabilities.ensures c.in-Err.ensures.err))

pub returns-in-Err-turn-clause-serves : goal.returns-in-Err-turn-clause-serves
returns-in-Err-turn-clause-serves g c =
    let inv = c.turns.invariant in
    let old = scene g.I.Inlet g.M.Method g.F.Files g.S.Sink c.args.input.now c.args.method.now c.args.files.now c.args.out.now in
    let mid = scene g.I.Inlet g.M.Method g.F.Files g.S.Sink c.turns.input c.turns.method c.turns.files c.turns.out in
    let new = scene g.I.Inlet g.M.Method g.F.Files g.S.Sink c.turn.new.input c.turn.new.method c.turn.new.files c.turn.new.out in
    subst (λ (w : Option MirrorMap). Served w c.args.http old new c.in-Err-turn.end) inv.method.same
    (c.in-Err-turn.ensures.turns old c.turns.size (omega (arith, length-take {A = ℕ}, c.min-most.ensures, c.turns-test.true))
    (subst (λ (w : Option MirrorMap). SoFar w c.args.http old mid c.turns.reader c.turns.size) (sym inv.method.same) inv.so_far))

pub returns-clause-serves : goal.returns-clause-serves
returns-clause-serves g c =
    let inv = c.turns.invariant in
    all_read (g.M.Method.world c.args.method.now) c.args.http (scene g.I.Inlet g.M.Method g.F.Files g.S.Sink c.args.input.now c.args.method.now c.args.files.now c.args.out.now)
    (scene g.I.Inlet g.M.Method g.F.Files g.S.Sink c.turns.input c.turns.method c.turns.files c.turns.out) c.turns.reader c.turns.size (omega (arith, c.turns-test.false, inv.few)) inv.so_far
