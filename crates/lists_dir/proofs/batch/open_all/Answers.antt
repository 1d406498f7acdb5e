use Rattle.std.proofs.Common.{◌∷◌, [], ap, arith, length, length-append, sym}
use Rattle.acq_outside.proofs.Framed.{read_on_counting}
use Rattle.lists_dir.specs.Summing.{Stands}
use Rattle.lists_dir.proofs.Rounds.{on_disk, one_more}
use Rattle.lists_dir.proofs.batch.open_all.Goals as goal

pub loop-name-preserved : goal.loop-name-preserved
loop-name-preserved g c =
    let inv = c.loop-name.invariant in
    let D = g.D.Disk in
    let first = c.args.disk.now in
    record {
      frame = read_on_counting inv.frame c.in_ok-open.ensures.frame;
      len = omega (arith, ap length c.in_ok-push.ensures, length-append c.loop-name.readings (c.in_ok-open.field-0 ∷ []), inv.len);
      stand = rw c.in_ok-push.ensures (one_more (λ name reading. Stands (D.tells first) (D.files first name.0) 0 reading) c.args.names.now c.loop-name.readings c.loop-name.name-index c.name-item.result c.in_ok-open.field-0
          inv.len c.loop-name-test.true c.name-item.is
          (on_disk (λ tells files. Stands tells (files c.name-item.result.0) 0 c.in_ok-open.field-0) _ _ _ _ (sym inv.frame.telling) (sym inv.frame.same) c.in_ok-open.ensures.stands)
          inv.stand);
    }
