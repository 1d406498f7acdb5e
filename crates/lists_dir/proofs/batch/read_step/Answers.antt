use Rattle.std.proofs.Common.{◌+◌, rules, sym}
use Rattle.acq_outside.proofs.Framed.{read_on_counting}
use Rattle.lists_dir.specs.Summing.{Pends, Stands}
use Rattle.lists_dir.proofs.Rounds.{on_disk, one_changed, others_kept}
use Rattle.lists_dir.proofs.batch.read_step.Goals as goal

pub loop-k-preserved : goal.loop-k-preserved
loop-k-preserved g c =
    let inv = c.loop-k.invariant in
    let D = g.D.Disk in
    let first = c.args.disk.now in
    let names = c.args.names.now in
    let readings = c.loop-k.readings in
    let k = c.loop-k.k in
    let name = c.index-names-k.result in
    let reading = c.read.new.self in
    let next = c.args.at + c.args.step in
    record {
      frame = read_on_counting inv.frame c.in_ok-read.ensures.frame;
      len = search rules;
      pend = one_changed (λ name reading. Pends (D.tells first) (D.files first name.0) next reading) names readings k name reading (search rules) c.loop-k-test.true c.index-names-k.is
          (on_disk (λ tells files. Pends tells (files name.0) next reading) _ _ _ _ (sym inv.frame.telling) (sym inv.frame.same) c.in_ok-read.ensures.pends)
          inv.pend;
      stand = others_kept (λ name reading. Stands (D.tells first) (D.files first name.0) c.args.at reading) names readings k reading inv.stand;
    }
