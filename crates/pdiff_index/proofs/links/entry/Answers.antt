use Rattle.std.proofs.Common.{◌≡◌, ◌∙◌, ◌+◌, ◌-◌, ◌<◌, List, length, drop, Some, None, true, ap, sym, arith}
use Rattle.pdiff_index.specs.Chain.{entry_on, same_sum}
use Rattle.pdiff_index.specs.declared.index.Step.{Step}
use Rattle.pdiff_index.proofs.ChainLemmas.{entry-found}
use Rattle.pdiff_index.proofs.links.entry.Goals as goal

pub returns-then-eq : goal.returns-then-eq
returns-then-eq c =
    let history = c.args.history.now in
    let have = c.args.have.now in
    let i = c.loop-at.at - 1 in
    let again : c.loop-at.at ≡ i + 1 = omega arith in
    let within : i < length history = omega arith in
    let none : entry_on (drop (i + 1) history) have ≡ None = ap (λ k. entry_on (drop k history) have) (sym again) ∙ c.loop-at.invariant.1 in
    let same : same_sum c.index-history-at.result.sum have ≡ true = ap (λ (s : Step). same_sum s.sum have) c.index-history-at.is ∙ (sym c.eq.ensures ∙ c.if-eq.true) in
    ap (λ (ls : List Step). Some ls) c.split_at.ensures.back ∙ entry-found history i c.index-history-at.result have within c.index-history-at.is same none
