use Rattle.std.proofs.Common.{◌∙◌, ◌++◌, map, sym, ap}
use Rattle.std.proofs.lemmas.List.{append-nil}
use Rattle.target_plan.specs.Offers.{translation_of}
use Rattle.target_plan.proofs.FirstMention.{translations_here, translations_end}
use Rattle.target_plan.proofs.offers.all_translations.Goals as goal

pub returns-then-mention : goal.returns-then-mention
returns-then-mention c =
    let x = c.mention-item.result in
    c.in_ok-translations.ensures ∙ ap (λ xs. xs ++ map (translation_of c.args.component.now c.mention-item.result.entry.now) c.args.settings.now.langs) c.loop-mention.invariant.same
    ∙ ap (λ r. c.args.offers.now.items ++ r) (sym (translations_here c.args.component.now c.args.mentions.now c.args.settings.now c.loop-mention.mention-index x c.loop-mention-test.true c.mention-item.is c.if-mention.true) ∙ c.loop-mention.invariant.rest)

pub returns : goal.returns
returns c =
    c.loop-mention.invariant.same ∙ sym (append-nil c.args.offers.now.items)
    ∙ ap (λ r. c.args.offers.now.items ++ r) (sym (translations_end c.args.component.now c.args.mentions.now c.args.settings.now c.loop-mention.mention-index c.loop-mention-test.false) ∙ c.loop-mention.invariant.rest)
