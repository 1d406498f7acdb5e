use Rattle.std.proofs.Common.{◌∙◌, [], arith, ap, length, rules, subst, sym, unwrap_or, ⊎_elim, IsTrue}
use Rattle.std.proofs.lemmas.Slice.{take-put_mid_below}
use Rattle.acq_outside.proofs.Framed.{read_on}
use Rattle.lists_dir.proofs.Rounds.{filled_read, filled_up, same_read}
use Rattle.lists_dir.proofs.summing.fill.Goals as goal

pub loop-filled-preserved : goal.loop-filled-preserved
loop-filled-preserved g c =
    let inv = c.loop-filled.invariant in
    let name = c.args.name.now in
    record {
      frame = read_on inv.frame c.in_ok-n.ensures.frame;
      len = search rules;
      filled = search rules;
      told = λ told.
          filled_read (g.D.Disk.files c.args.disk.now name) c.args.at c.loop-filled.filled c.in_ok-n.n _ c.loop-filled.room _ c.read_at.new.out (search rules) (inv.told told)
          (same_read (ap (λ files. files name) inv.frame.same)
          (c.in_ok-n.ensures.told (subst (λ tells. IsTrue tells) (sym inv.frame.telling) told)));
    }

pub returns-then-n-eq0-clause-told : goal.returns-then-n-eq0-clause-told
returns-then-n-eq0-clause-told g c = λ told.
    let inv = c.loop-filled.invariant in
    let name = c.args.name.now in
    let content = unwrap_or (g.D.Disk.files c.args.disk.now name) [] in
    let filled = c.loop-filled.filled in
    let read = same_read (ap (λ files. files name) inv.frame.same)
    (c.in_ok-n.ensures.told (subst (λ tells. IsTrue tells) (sym inv.frame.telling) told)) in
    record {
      bytes = take-put_mid_below filled _ c.loop-filled.room c.read_at.new.out filled (omega arith) (search rules) ∙ inv.told told
          ∙ ⊎_elim (λ none. filled_up content c.args.at filled (length c.args.room.now) inv.filled none) (λ none. absurd (omega (arith, ap length none, c.loop-filled-test.true))) (read.ends c.if-n-eq0.true);
    }
