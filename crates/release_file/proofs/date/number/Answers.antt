use Rattle.std.proofs.Common.{◌≡◌, ◌∙◌, ◌<◌, ◌^◌, Some, IfSome, sym, subst}
use Rattle.release_file.specs.DateText.{number_of}
use Rattle.release_file.proofs.Numbers.{few_digits, number_of-lt, narrow}
use Rattle.release_file.proofs.date.number.Goals as goal

pub returns-in_err-read_digits-clause-value : goal.returns-in_err-read_digits-clause-value
returns-in_err-read_digits-clause-value c =
    c.from_residual.ensures ∙ sym (c.in_err-read_digits.was) ∙ c.read_digits.ensures.value ∙ few_digits c.args.least c.args.most c.args.text.now c.requires.least c.if-text-least.false c.if-text-most.false c.requires.most

pub returns-clause-value : goal.returns-clause-value
returns-clause-value c =
    let few = few_digits c.args.least c.args.most c.args.text.now c.requires.least c.if-text-least.false c.if-text-most.false c.requires.most in
    let some : number_of c.args.least c.args.most c.args.text.now ≡ Some c.in_ok-read_digits.field-0 = sym few ∙ sym c.read_digits.ensures.value ∙ c.in_ok-read_digits.was in
    c.ok.ensures.value ∙ narrow c.args.least c.args.most c.args.text.now c.in_ok-read_digits.field-0 c.try_from.result some c.requires.most c.try_from.ensures

pub returns-clause-bound : goal.returns-clause-bound
returns-clause-bound c =
    subst (λ o. IfSome o (λ n. n < 10 ^ c.args.most)) (sym (returns-clause-value c)) (number_of-lt c.args.least c.args.most c.args.text.now)
