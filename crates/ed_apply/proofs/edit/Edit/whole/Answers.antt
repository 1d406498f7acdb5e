use Rattle.std.proofs.Common.{◌≡◌, ◌∙◌, ◌∷◌, ◌++◌, [], ℕ, List, length, refl, ap, arith}
use Rattle.ed_apply.specs.Edits.{file_lines}
use Rattle.ed_apply.specs.declared.segment.Segment.{Segment}
use Rattle.ed_apply.proofs.Slices.{length-ends}
use Rattle.ed_apply.proofs.Standing.{whole-is}
use Rattle.ed_apply.proofs.edit.Edit.whole.Goals as goal

abbrev segment : ℕ → Segment
segment to = record { from = 0; to = to }

pub unended-requires : goal.unended-requires
unended-requires c =
    let total = ap length c.in_ok-known.ensures.ends ∙ length-ends 0 (file_lines c.args.old.now) in
    let count = c.len-lines.ensures in
    omega (arith, count, total)

pub returns-clause-of : goal.returns-clause-of
returns-clause-of c =
    let known = c.in_ok-known.known in
    let layout = c.in_ok-layout.layout in
    let count = c.len-lines.ensures in
    let lines : c.len-lines.result ≡ length known.ends.items = omega (arith, count) in
    let one : layout.segments.items ≡ record { from = 0; to = length known.ends.items } ∷ [] =
    c.in_ok-layout.ensures.segments ∙ c.in_ok-push.ensures.items ∙ ap (λ (ss : List Segment). ss ++ segment c.len-lines.result ∷ []) c.new-segments.ensures.items ∙ ap (λ n. segment n ∷ []) lines in
    (whole-is (record { known = known; layout = layout; size = length c.args.old.now }) c.args.old.now c.in_ok-known.ensures.ends c.in_ok-known.ensures.texts one (c.in_ok-layout.ensures.unended ∙ c.unended.ensures) refl).0

pub returns-clause-file : goal.returns-clause-file
returns-clause-file c =
    let known = c.in_ok-known.known in
    let layout = c.in_ok-layout.layout in
    let count = c.len-lines.ensures in
    let lines : c.len-lines.result ≡ length known.ends.items = omega (arith, count) in
    let one : layout.segments.items ≡ record { from = 0; to = length known.ends.items } ∷ [] =
    c.in_ok-layout.ensures.segments ∙ c.in_ok-push.ensures.items ∙ ap (λ (ss : List Segment). ss ++ segment c.len-lines.result ∷ []) c.new-segments.ensures.items ∙ ap (λ n. segment n ∷ []) lines in
    (whole-is (record { known = known; layout = layout; size = length c.args.old.now }) c.args.old.now c.in_ok-known.ensures.ends c.in_ok-known.ensures.texts one (c.in_ok-layout.ensures.unended ∙ c.unended.ensures) refl).1
