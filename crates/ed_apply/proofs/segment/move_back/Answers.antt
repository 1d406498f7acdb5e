use Rattle.std.proofs.Common.{◌≡◌, ◌∙◌, ◌+◌, ◌-◌, ◌++◌, List, length, reverse, sym, ap, arith}
use Rattle.std.proofs.lemmas.Result.{on_ok_weaker}
use Rattle.ed_apply.specs.Segments.{numbers}
use Rattle.ed_apply.specs.declared.segment.Segment.{Segment}
use Rattle.ed_apply.proofs.Numbers.{length-push, moved-whole}
use Rattle.ed_apply.proofs.segment.move_back.Goals as goal

pub returns-then-lines-count-clause-count : goal.returns-then-lines-count-clause-count
returns-then-lines-count-clause-count c =
    let loop = c.loop-count in
    let segment = c.in-Some.segment in
    let before : length (numbers loop.left.items) ≡ length (numbers c.pop.new.self.items) + (segment.to - segment.from) = ap (λ (ss : List Segment). length (numbers ss)) c.in-Some.ensures.items ∙ length-push c.pop.new.self.items segment in
    on_ok_weaker c.split_back.result (λ e. e ∙ ap (λ n. n - loop.count) (sym before) ∙ loop.invariant.1) c.split_back.ensures.count

pub loop-count-preserved : goal.loop-count-preserved
loop-count-preserved c =
    let loop = c.loop-count in
    let segment = c.in-Some.segment in
    let rest = c.pop.new.self.items in
    let before : length (numbers loop.left.items) ≡ length (numbers rest) + (segment.to - segment.from) = ap (λ (ss : List Segment). length (numbers ss)) c.in-Some.ensures.items ∙ length-push rest segment in
    let so_far = loop.invariant.1 in
    let lines = c.len-lines.ensures in
    let few = c.if-lines-count.false in (
      ap (λ (ks : List Segment). numbers rest ++ numbers (reverse ks)) c.in_ok-push.ensures.items ∙ moved-whole rest loop.kept.items segment ∙ ap (λ (ss : List Segment). numbers ss ++ numbers (reverse loop.kept.items)) (sym c.in-Some.ensures.items) ∙ loop.invariant.0,
      omega (arith, before, so_far, lines, few),
    )
