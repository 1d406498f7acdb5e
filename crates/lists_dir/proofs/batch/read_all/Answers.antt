use Rattle.std.proofs.Common.{◌≤◌, ◌∙◌, ◌+◌, arith, rules, subst, sym, unwrap_or, get_or}
use Rattle.acq_outside.proofs.Framed.{read_on_counting}
use Rattle.lists_dir.specs.Summing.{AllStand}
use Rattle.lists_dir.proofs.Rounds.{can_feed, ended, fed_all, on_disk}
use Rattle.lists_dir.proofs.batch.read_all.Goals as goal

pub read_step-requires-clause-stand : goal.read_step-requires-clause-stand
read_step-requires-clause-stand g c =
    let inv = c.loop-at.invariant in
    on_disk (λ tells files. AllStand tells files c.loop-at.at c.args.names.now c.loop-at.readings) _ _ _ _ inv.frame.telling inv.frame.same inv.stand

pub feed_all-requires-clause-pend : goal.feed_all-requires-clause-pend
feed_all-requires-clause-pend g c κs within =
    can_feed (g.D.Disk.tells c.loop-at.disk) (g.D.Disk.files c.loop-at.disk) (c.loop-at.at + c.min-step.result) c.args.names.now c.read_step.new.readings c.in_ok-read_step.ensures.pend (search rules)

pub loop-at-preserved : goal.loop-at-preserved
loop-at-preserved g c =
    let inv = c.loop-at.invariant in
    let D = g.D.Disk in
    let disk = c.loop-at.disk in
    let next = c.loop-at.at + c.min-step.result in
    let names = c.args.names.now in
    record {
      frame = read_on_counting inv.frame c.in_ok-read_step.ensures.frame;
      len = search rules;
      inside = omega (arith, c.min-step.ensures, c.loop-at-test.true);
      stand = on_disk (λ tells files. AllStand tells files next names c.feed_all.new.readings) _ _ _ _ (sym inv.frame.telling) (sym inv.frame.same)
          (fed_all (D.tells disk) (D.files disk) next names c.read_step.new.readings c.feed_all.new.readings c.in_ok-read_step.ensures.pend (search rules) c.feed_all.ensures);
    }

pub returns-clause-ends : goal.returns-clause-ends
returns-clause-ends g c = λ i n r below.
    let inv = c.loop-at.invariant in
    let stands = inv.stand i n r below in
    let first = get_or c.args.readings.now i r in
    let last = get_or c.loop-at.readings i r in
    ended _ _ c.loop-at.at last stands
    (λ told. let same = stands.front.sized told ∙ sym ((c.requires.stand i n r below).front.sized told) in
    let short = c.longest-longest.ensures i r (omega (arith, below, c.requires.len)) in
    subst (λ s. unwrap_or s 0 ≤ c.loop-at.at) (sym same) (omega (arith, short, c.loop-at-test.false)))
