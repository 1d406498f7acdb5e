use Rattle.std.proofs.Common.{◌≡◌, ◌∙◌, ◌++◌, List, [], ℕ, ap, reverse}
use Rattle.ed_apply.specs.Segments.{numbers}
use Rattle.ed_apply.specs.declared.segment.Segment.{Segment}
use Rattle.ed_apply.proofs.Changes.{replaced-left, replaced-kept}
use Rattle.ed_apply.proofs.Numbers.{backward-push}
use Rattle.ed_apply.proofs.changing.replace.Goals as goal

pub returns-clause-left : goal.returns-clause-left
returns-clause-left c =
    let rows = c.args.rows.now in
    let first = c.move_back.new in
    let second = c.move_back-2.new in
    let nothing : numbers (reverse c.new-gone.result.items) ≡ [] = ap (λ (ss : List Segment). numbers (reverse ss)) c.new-gone.ensures.items in
    replaced-left (numbers rows.left.items) (numbers first.left.items) (numbers second.left.items) (numbers (reverse rows.kept.items)) (numbers (reverse first.kept.items)) (numbers (reverse second.kept.items)) c.args.lines c.args.from c.args.to c.requires.order c.requires.within c.requires.lines
    c.in_ok-move_back.ensures.whole c.in_ok-move_back.ensures.count (c.in_ok-move_back-2.ensures.whole ∙ ap (λ (ns : List ℕ). numbers first.left.items ++ ns) nothing) c.in_ok-move_back-2.ensures.count

pub returns-clause-kept : goal.returns-clause-kept
returns-clause-kept c =
    let rows = c.args.rows.now in
    let first = c.move_back.new in
    let behind = replaced-kept (numbers rows.left.items) (numbers first.left.items) (numbers (reverse rows.kept.items)) (numbers (reverse first.kept.items)) c.args.lines c.args.to c.requires.within c.requires.lines c.in_ok-move_back.ensures.whole c.in_ok-move_back.ensures.count in
    ap (λ (ks : List Segment). numbers (reverse ks)) c.in_ok-push.ensures.items ∙ backward-push first.kept.items c.in_ok-added.added
    ∙ (λ i. c.in_ok-added.ensures.numbers i ++ behind i)
