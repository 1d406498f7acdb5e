use Rattle.std.proofs.Common.{◌≡◌, ◌≤◌, ◌+◌, [], refl, sym, ap, subst, arith, ℕ, List, Option, Ok, length, take}
use Rattle.acq_outside.specs.Inlet.{Gave}
use Rattle.method_server.specs.Serving.{Served, most_input, scene}
use Rattle.method_server.specs.Taking.{TakesBy}
use Rattle.method_server.specs.declared.end.ServeEnd.{ServeEnd}
use Rattle.method_server.proofs.Takings.{closed, gave_nothing, input_failed, refused, so_far_more, spent_on, stopped}
use Rattle.method_server.proofs.serve.turn.Goals as goal

pub returns-in_default-clause-turns : goal.returns-in_default-clause-turns
returns-in_default-clause-turns g c = λ old size few so_far.
    input_failed (g.M.Method.world c.args.method.now) c.args.http old (scene g.I.Inlet g.M.Method g.F.Files g.S.Sink c.args.input.now c.args.method.now c.args.files.now c.args.out.now)
    (scene g.I.Inlet g.M.Method g.F.Files g.S.Sink c.read.new.self c.args.method.now c.args.files.now c.args.out.now) c.args.reader.now size (omega (arith, few)) so_far c.in_default.ensures.err refl refl

pub returns-then-n-eq0-clause-turns : goal.returns-then-n-eq0-clause-turns
returns-then-n-eq0-clause-turns g c = λ old size few so_far.
    let left = g.I.Inlet.left c.args.input.now in
    let later = g.I.Inlet.left c.read.new.self in
    let none : take c.in-Ok.n c.read.new.out ≡ [] = ap (λ n. take n c.read.new.out) c.if-n-eq0.true in
    closed (g.M.Method.world c.args.method.now) c.args.http old (scene g.I.Inlet g.M.Method g.F.Files g.S.Sink c.args.input.now c.args.method.now c.args.files.now c.args.out.now)
    (scene g.I.Inlet g.M.Method g.F.Files g.S.Sink c.read.new.self c.args.method.now c.args.files.now c.close.new.out) c.args.reader.now size c.close.result (omega (arith, few)) so_far
    (gave_nothing left later (take c.in-Ok.n c.read.new.out) none c.in-Ok.ensures.gave)
    (c.in-Ok.ensures.frame.ended c.if-n-eq0.true)
    (spent_on left later (take c.in-Ok.n c.read.new.out) none c.in-Ok.ensures.gave (c.in-Ok.ensures.spent c.if-n-eq0.true))
    refl c.close.ensures.closes

pub returns-in-Ok-None-clause-turns : goal.returns-in-Ok-None-clause-turns
returns-in-Ok-None-clause-turns g c = λ old size few so_far.
    let world = g.M.Method.world c.args.method.now in
    let mid = scene g.I.Inlet g.M.Method g.F.Files g.S.Sink c.args.input.now c.args.method.now c.args.files.now c.args.out.now in
    let new = scene g.I.Inlet g.M.Method g.F.Files g.S.Sink c.read.new.self c.take_piece.new.method c.take_piece.new.files c.take_piece.new.out in
    let piece = c.split_at.result.0.now in
    so_far_more world c.args.http old mid new c.args.reader.now c.take_piece.new.reader size c.in-Ok.n piece so_far (sym c.split_at.ensures.front_len)
    (subst (λ (t : List ℕ). Gave (g.I.Inlet.left c.args.input.now) t (g.I.Inlet.left c.read.new.self)) (sym c.split_at.ensures.front) c.in-Ok.ensures.gave)
    (c.in-Ok.ensures.frame.goes_on c.if-n-eq0.false)
    (subst (λ (o : Option ℕ). TakesBy world c.args.http so_far.bytes so_far.messages piece c.take_piece.new.reader mid.at new.at mid.written new.written (Ok o)) c.in-Ok-None.field-0-is
    (c.in-Ok-None.ensures.takes so_far.bytes so_far.messages so_far.reads))

pub returns-in-Ok-Some-clause-turns : goal.returns-in-Ok-Some-clause-turns
returns-in-Ok-Some-clause-turns g c = λ old size few so_far.
    let world = g.M.Method.world c.args.method.now in
    let mid = scene g.I.Inlet g.M.Method g.F.Files g.S.Sink c.args.input.now c.args.method.now c.args.files.now c.args.out.now in
    let new = scene g.I.Inlet g.M.Method g.F.Files g.S.Sink c.read.new.self c.take_piece.new.method c.take_piece.new.files c.fail.new.out in
    let piece = c.split_at.result.0.now in
    let room : size + length c.split_at.result.0.now ≤ most_input = omega (arith, few, c.split_at.ensures.front_len, c.in-Ok.ensures.within) in
    refused world c.args.http old mid new c.args.reader.now size piece c.in-Ok-Some.at (g.S.Sink.written c.take_piece.new.out) c.fail.result room so_far
    (subst (λ (t : List ℕ). Gave (g.I.Inlet.left c.args.input.now) t (g.I.Inlet.left c.read.new.self)) (sym c.split_at.ensures.front) c.in-Ok.ensures.gave)
    (subst (λ (o : Option ℕ). TakesBy world c.args.http so_far.bytes so_far.messages piece c.take_piece.new.reader mid.at new.at mid.written (g.S.Sink.written c.take_piece.new.out) (Ok o)) c.in-Ok-Some.field-0-is
    (c.in-Ok-Some.ensures.takes so_far.bytes so_far.messages so_far.reads))
    (rw c.in-Ok-Some.at-is at c.fail.ensures.fails)

pub returns-in-Err-clause-turns : goal.returns-in-Err-clause-turns
returns-in-Err-clause-turns g c = λ old size few so_far.
    let world = g.M.Method.world c.args.method.now in
    let mid = scene g.I.Inlet g.M.Method g.F.Files g.S.Sink c.args.input.now c.args.method.now c.args.files.now c.args.out.now in
    let new = scene g.I.Inlet g.M.Method g.F.Files g.S.Sink c.read.new.self c.take_piece.new.method c.take_piece.new.files c.take_piece.new.out in
    let piece = c.split_at.result.0.now in
    let room : size + length c.split_at.result.0.now ≤ most_input = omega (arith, few, c.split_at.ensures.front_len, c.in-Ok.ensures.within) in
    subst (λ (e : ServeEnd). Served world c.args.http old new e) (sym c.end.ensures)
    (stopped world c.args.http old mid new c.args.reader.now size piece c.in-Err.stop room so_far
    (subst (λ (t : List ℕ). Gave (g.I.Inlet.left c.args.input.now) t (g.I.Inlet.left c.read.new.self)) (sym c.split_at.ensures.front) c.in-Ok.ensures.gave)
    (c.in-Err.ensures.takes so_far.bytes so_far.messages so_far.reads))
