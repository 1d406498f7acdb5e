use Rattle.std.proofs.Common.{◌∙◌, sym}
use Rattle.acq_outside.proofs.Joining.{first, next, grown_of}
use Rattle.acq_outside.proofs.method.Method.fetch.Goals as goal

pub loop-bytes-init : goal.loop-bytes-init
loop-bytes-init g c =
    let m = g.Self.Method in (
      first (m.faults c.args.self.now) (m.faults c.begin.new.self) (m.world c.args.self.now) (m.world c.begin.new.self) c.args.job.now (m.under c.begin.new.self) c.in-Piece.at c.in-Piece.bytes
          c.requires.from c.in-Piece.ensures.frame.same c.in-Piece.ensures.word,
      c.in-Piece.ensures.begins,
    )

pub loop-bytes-preserved : goal.loop-bytes-preserved
loop-bytes-preserved g c =
    let m = g.Self.Method in (
      next (m.faults c.args.self.now) (m.faults c.loop-bytes.self) (m.faults c.more.new.self) (m.world c.args.self.now) (m.world c.loop-bytes.self) (m.world c.more.new.self) c.args.job.now (m.under c.loop-bytes.self)
          (m.under c.more.new.self) c.in-Piece-more.at c.loop-bytes.joined c.in-Piece-more.bytes c.append.new.self c.loop-bytes.invariant.0 c.in-Piece-more.ensures.frame.same
          (grown_of c.append.result c.loop-bytes.joined c.append.new.self _ c.in-Piece-more.bytes (sym c.is_err.ensures.value ∙ c.if-is_err.false) c.as_slice.ensures c.append.ensures) c.in-Piece-more.ensures.word,
      c.in-Piece-more.ensures.begins ∙ c.loop-bytes.invariant.1,
    )
