use Rattle.std.proofs.Common.{◌≡◌, ◌∙◌, true, Option, sym, subst, arith}
use Rattle.acq_base.specs.Mirror.{MirrorMap}
use Rattle.lane_pool.specs.Words.{IsWordTo}
use Rattle.lane_pool.specs.Working.{is_piece}
use Rattle.lane_pool.proofs.Heard.{begins_with, goes_on_with, is_word_to, still_worker}
use Rattle.lane_pool.proofs.work.answer.Goals as goal

pub loop-init : goal.loop-init
loop-init g c =
    let p = c.requires.pass in
    let b = c.begin-word.ensures in
    let f = b.frame in
    record {
      seat = c.requires.seat;
      pass = record { live = p.live; lane_is = p.lane_is; a_worker = p.a_worker; mirror = p.mirror ∙ sym f.same; below = let h = p.below in let i = f.count in omega arith };
      next = begins_with _ _ _ _ _ _ _ _ p.below f.count f.same b.sound b.word;
      frame = f;
      begins = b.begins;
    }

pub tell-requires-clause-word : goal.tell-requires-clause-word
tell-requires-clause-word g c =
    let i = c.loop.invariant in
    subst (λ (w : Option MirrorMap). IsWordTo w c.job-job.result c.loop.word) (sym i.pass.mirror) (is_word_to _ _ _ _ _ _ i.next)

pub loop-preserved : goal.loop-preserved
loop-preserved g c =
    let i = c.loop.invariant in
    let piece : is_piece c.loop.word ≡ true = sym c.if-not-is_piece.ensures in
    let m = c.more-word.ensures in
    let f = m.frame in
    let w = still_worker _ _ _ _ _ _ c.job-job.result _ _ i.pass i.next c.if-not-tell.ensures.step in
    record {
      seat = c.if-not-tell.ensures.seat;
      pass = record { live = w.live; lane_is = w.lane_is; a_worker = w.a_worker; mirror = w.mirror ∙ sym f.same; below = let a = w.below in let b = f.count in omega arith };
      next = goes_on_with _ _ _ _ _ _ i.next piece _ _ _ _ _ w.below f.count f.same m.sound m.word;
      frame = record { count = let a = i.frame.count in let b = f.count in omega arith; same = f.same ∙ i.frame.same };
      begins = m.begins ∙ i.begins;
    }
