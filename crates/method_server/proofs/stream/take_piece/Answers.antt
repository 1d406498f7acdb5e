use Rattle.std.proofs.Common.{◌≡◌, ◌∙◌, ◌++◌, refl, subst, arith, ℕ, Option, None, Ok, Err}
use Rattle.std.proofs.lemmas.Result.{err_from_is_err_and}
use Rattle.acq_base.specs.Mirror.{MirrorMap}
use Rattle.method_server.specs.Taking.{Takes, TakesBy}
use Rattle.method_server.specs.Turns.{moment}
use Rattle.method_server.proofs.Takings.{bad_taken, more_taken, none_taken, part_taken, takes_as}
use Rattle.method_server.proofs.stream.take_piece.Goals as goal

pub lines-init : goal.lines-init
lines-init g c = record {
  method = record { count = omega arith; same = refl };
  files = refl;
  output = refl;
  takes = λ stream messages reads.
      none_taken (g.M.Method.world c.args.method.now) c.args.http stream messages c.args.piece.now c.args.reader.now (moment g.M.Method g.F.Files c.args.method.now c.args.files.now) (g.S.Sink.written c.args.out.now) reads;
}

pub returns-in_err-at-clause-takes : goal.returns-in_err-at-clause-takes
returns-in_err-at-clause-takes g c = λ stream messages reads.
    let p = err_from_is_err_and c.from_residual.result c.from_residual.ensures.1 in
    let inv = c.lines.invariant in
    let world = g.M.Method.world c.args.method.now in
    let old = moment g.M.Method g.F.Files c.args.method.now c.args.files.now in
    let mid = moment g.M.Method g.F.Files c.lines.method c.lines.files in
    let new = moment g.M.Method g.F.Files c.take_line.new.method c.take_line.new.files in
    let a = g.S.Sink.written c.args.out.now in
    let b = g.S.Sink.written c.lines.out in
    let d = g.S.Sink.written c.take_line.new.out in
    let h = inv.takes stream messages reads in
    let line = c.cut_line.result.0.now in
    let takes = subst (λ (w : Option MirrorMap). Takes w c.args.http c.cut_line.result.0.now c.lines.reader c.take_line.new.reader mid new b d (Err c.in_err-at.field-0.0)) inv.method.same c.in_err-at.ensures.takes in
    takes_as world c.args.http stream messages c.args.piece.now c.take_line.new.reader old new a d c.from_residual.result p.0 p.1
    (part_taken world c.args.http stream messages c.args.piece.now c.lines.rest.now line c.cut_line.result.1.now c.lines.reader old mid new a b d c.cut_line.ensures.both h
    (takes (stream ++ h.taken) (messages ++ h.more) h.reads))

pub returns-in-Some-clause-takes : goal.returns-in-Some-clause-takes
returns-in-Some-clause-takes g c = λ stream messages reads.
    let inv = c.lines.invariant in
    let world = g.M.Method.world c.args.method.now in
    let old = moment g.M.Method g.F.Files c.args.method.now c.args.files.now in
    let mid = moment g.M.Method g.F.Files c.lines.method c.lines.files in
    let new = moment g.M.Method g.F.Files c.take_line.new.method c.take_line.new.files in
    let a = g.S.Sink.written c.args.out.now in
    let b = g.S.Sink.written c.lines.out in
    let d = g.S.Sink.written c.take_line.new.out in
    let h = inv.takes stream messages reads in
    let line = c.cut_line.result.0.now in
    let takes = subst (λ (w : Option MirrorMap). Takes w c.args.http c.cut_line.result.0.now c.lines.reader c.take_line.new.reader mid new b d (Ok c.in_ok-at.field-0)) inv.method.same c.in_ok-at.ensures.takes in
    bad_taken world c.args.http stream messages c.args.piece.now c.lines.rest.now line c.cut_line.result.1.now c.lines.reader c.in-Some.at old mid new a b d c.cut_line.ensures.both h
    (subst (λ (o : Option ℕ). TakesBy world c.args.http (stream ++ h.taken) (messages ++ h.more) c.cut_line.result.0.now c.take_line.new.reader mid new b d (Ok o)) c.in-Some.is (takes (stream ++ h.taken) (messages ++ h.more) h.reads))

pub lines-preserved : goal.lines-preserved
lines-preserved g c =
    let inv = c.lines.invariant in
    let world = g.M.Method.world c.args.method.now in
    let old = moment g.M.Method g.F.Files c.args.method.now c.args.files.now in
    let mid = moment g.M.Method g.F.Files c.lines.method c.lines.files in
    let new = moment g.M.Method g.F.Files c.take_line.new.method c.take_line.new.files in
    let a = g.S.Sink.written c.args.out.now in
    let b = g.S.Sink.written c.lines.out in
    let d = g.S.Sink.written c.take_line.new.out in
    let line = c.cut_line.result.0.now in
    let none : c.in_ok-at.field-0 ≡ None = c.in_default.is in
    let takes = subst (λ (w : Option MirrorMap). Takes w c.args.http c.cut_line.result.0.now c.lines.reader c.take_line.new.reader mid new b d (Ok c.in_ok-at.field-0)) inv.method.same c.in_ok-at.ensures.takes in
    record {
      method = record { count = omega (arith, inv.method.count, c.take_line.ensures.method.count); same = c.take_line.ensures.method.same ∙ inv.method.same };
      files = c.in_ok-at.ensures.files.quiet ∙ inv.files;
      output = c.in_ok-at.ensures.output.quiet ∙ inv.output;
      takes = λ stream messages reads.
          let h = inv.takes stream messages reads in
          more_taken world c.args.http stream messages c.args.piece.now c.lines.rest.now c.cut_line.result.0.now c.cut_line.result.1.now c.lines.reader c.take_line.new.reader old mid new a b d c.cut_line.ensures.both h
          (subst (λ (o : Option ℕ). TakesBy world c.args.http (stream ++ h.taken) (messages ++ h.more) c.cut_line.result.0.now c.take_line.new.reader mid new b d (Ok o)) none (takes (stream ++ h.taken) (messages ++ h.more) h.reads));
    }
