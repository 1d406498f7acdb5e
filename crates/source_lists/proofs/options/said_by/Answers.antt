use Rattle.std.proofs.Common.{◌∙◌, sym, ap, inr}
use Rattle.std.proofs.lemmas.Result.{err_from_is_err_and}
use Rattle.source_lists.specs.OneLine.{choice_at, options_at}
use Rattle.source_lists.proofs.Choices as choices
use Rattle.source_lists.proofs.Loops.{worked, failed}
use Rattle.source_lists.proofs.options.said_by.Goals as goal

pub loop-word-init : goal.loop-word-init
loop-word-init c = choices.begun c.args.at c.args.words.now

pub returns-in_err-choice : goal.returns-in_err-choice
returns-in_err-choice c =
    let p = err_from_is_err_and c.from_residual.result c.from_residual.ensures.1 in
    let read = choice_at c.args.at c.as_bytes.result.now in
    rw (p.1, p.2) (failed c.in_err-choice.field-0.0 read (options_at c.args.at c.args.words.now) c.in_err-choice.ensures (λ here.
    choices.refused c.args.at (options_at c.args.at c.args.words.now) c.loop-word.options c.args.words.now c.loop-word.word-index c.word-item.result c.in_err-choice.field-0.0 c.loop-word.invariant c.loop-word-test.true c.word-item.is (ap (choice_at c.args.at) (sym c.as_bytes.ensures) ∙ here)))

pub loop-word-preserved : goal.loop-word-preserved
loop-word-preserved c =
    let here = worked c.in_ok-choice.choice (choice_at c.args.at c.as_bytes.result.now) c.in_ok-choice.ensures in
    let next = choices.said c.args.at (options_at c.args.at c.args.words.now) c.loop-word.options c.args.words.now c.loop-word.word-index c.word-item.result c.in_ok-choice.choice c.loop-word.invariant c.loop-word-test.true c.word-item.is (ap (choice_at c.args.at) (sym c.as_bytes.ensures) ∙ here) in
    rw c.with_choice-options.ensures next

pub returns : goal.returns
returns c = inr (sym (choices.ended c.args.at (options_at c.args.at c.args.words.now) c.loop-word.options c.args.words.now c.loop-word.word-index c.loop-word.invariant c.loop-word-test.false))
