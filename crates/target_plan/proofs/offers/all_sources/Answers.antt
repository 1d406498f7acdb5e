use Rattle.std.proofs.Common.{◌∙◌, ◌++◌, ◌∷◌, [], sym, ap}
use Rattle.std.proofs.lemmas.List.{append-nil}
use Rattle.target_plan.proofs.FirstMention.{sources_here, sources_end}
use Rattle.target_plan.proofs.offers.all_sources.Goals as goal

pub returns-then-mention : goal.returns-then-mention
returns-then-mention c =
    let x = c.mention-item.result in
    c.in_ok-push.ensures.items ∙ ap (λ xs. xs ++ c.in_ok-sources_offer.field-0 ∷ []) c.loop-mention.invariant.same ∙ ap (λ o. c.args.offers.now.items ++ o ∷ []) c.in_ok-sources_offer.ensures
    ∙ ap (λ r. c.args.offers.now.items ++ r) (sym (sources_here c.args.component.now c.args.mentions.now c.loop-mention.mention-index x c.loop-mention-test.true c.mention-item.is c.if-mention.true) ∙ c.loop-mention.invariant.rest)

pub returns : goal.returns
returns c =
    c.loop-mention.invariant.same ∙ sym (append-nil c.args.offers.now.items)
    ∙ ap (λ r. c.args.offers.now.items ++ r) (sym (sources_end c.args.component.now c.args.mentions.now c.loop-mention.mention-index c.loop-mention-test.false) ∙ c.loop-mention.invariant.rest)
