use Rattle.std.proofs.Common.{◌≤◌, ◌⊎◌, length, inl, inr, sym, ◌∙◌, rules}
use Rattle.deb822_text.proofs.Order.{ended, decides, ties}
use Rattle.deb822_text.proofs.names.compare.Goals as goal
use Rattle.deb822_text.proofs.names.compare.Goals.{then-loop-at-test+else-at-b, else-loop-at-test}

pub returns-then-ne : goal.returns-then-ne
returns-then-ne c =
    decides c.args.a.now c.args.b.now c.loop-at.at c.to_ascii_lowercase.result c.to_ascii_lowercase-in-loop-at.result c.cmp-order.result _ (search rules) (search rules) c.to_ascii_lowercase.ensures.value c.to_ascii_lowercase-in-loop-at.ensures.value c.cmp-order.ensures c.if-ne.ensures c.loop-at.invariant.2

pub loop-at-preserved : goal.loop-at-preserved
loop-at-preserved c = (
  search rules,
  search rules,
  ties c.args.a.now c.args.b.now c.loop-at.at c.to_ascii_lowercase.result c.to_ascii_lowercase-in-loop-at.result c.cmp-order.result _ (search rules) (search rules) c.to_ascii_lowercase.ensures.value c.to_ascii_lowercase-in-loop-at.ensures.value c.cmp-order.ensures c.if-ne.ensures c.loop-at.invariant.2,
)

pub returns : goal.returns
returns c =
    let past : (length c.args.a.now ≤ c.loop-at.at) ⊎ (length c.args.b.now ≤ c.loop-at.at) =
    elim c.loop-at-test.branch [ then-loop-at-test+else-at-b w ↦ inr (search rules) | else-loop-at-test w ↦ inl (search rules) ] in
    c.cmp.ensures ∙ sym (ended c.args.a.now c.args.b.now c.loop-at.at c.loop-at.invariant.0 c.loop-at.invariant.1 past) ∙ c.loop-at.invariant.2
