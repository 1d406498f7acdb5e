use Rattle.std.proofs.Common.{◌∙◌, sym, ap, inr}
use Rattle.std.proofs.lemmas.List.Elements.{All-nil, All-push}
use Rattle.std.proofs.lemmas.Result.{err_from_is_err_and}
use Rattle.source_lists.specs.Sound.{IsReadBase}
use Rattle.source_lists.specs.Steps.{each}
use Rattle.source_lists.specs.Values.{base_at}
use Rattle.source_lists.proofs.Loops.{front-nil, goes_on, stops, ends, worked, failed}
use Rattle.source_lists.proofs.fields.bases_at.Goals as goal

pub loop-word-init : goal.loop-word-init
loop-word-init c = record {
  read = rw c.new-bases.ensures (front-nil (each (base_at c.args.at) c.args.words.now));
  sound = rw c.new-bases.ensures (All-nil IsReadBase);
}

pub returns-in_err-base_at-clause-value : goal.returns-in_err-base_at-clause-value
returns-in_err-base_at-clause-value c =
    let read = base_at c.args.at in
    let whole = each read c.args.words.now in
    let p = err_from_is_err_and c.from_residual.result c.from_residual.ensures.1 in
    rw (p.1, p.2) (failed c.in_err-base_at.field-0.0 (read c.as_bytes.result.now) whole c.in_err-base_at.ensures.value (λ here.
    stops read whole c.loop-word.bases c.args.words.now c.loop-word.word-index c.word-item.result c.in_err-base_at.field-0.0 c.loop-word.invariant.read c.loop-word-test.true c.word-item.is (ap read (sym c.as_bytes.ensures) ∙ here)))

pub loop-word-preserved : goal.loop-word-preserved
loop-word-preserved c =
    let read = base_at c.args.at in
    let here = worked c.in_ok-base_at.field-0 (read c.as_bytes.result.now) c.in_ok-base_at.ensures.value in
    record {
      read = rw c.in_ok-push.ensures (goes_on read (each read c.args.words.now) c.loop-word.bases c.args.words.now c.loop-word.word-index c.word-item.result c.in_ok-base_at.field-0 c.loop-word.invariant.read c.loop-word-test.true c.word-item.is (ap read (sym c.as_bytes.ensures) ∙ here));
      sound = rw c.in_ok-push.ensures (All-push IsReadBase c.loop-word.bases c.in_ok-base_at.field-0 c.loop-word.invariant.sound c.in_ok-base_at.ensures.sound);
    }

pub returns-clause-value : goal.returns-clause-value
returns-clause-value c =
    let read = base_at c.args.at in
    inr (sym (ends read (each read c.args.words.now) c.loop-word.bases c.args.words.now c.loop-word.word-index c.loop-word.invariant.read c.loop-word-test.false))
