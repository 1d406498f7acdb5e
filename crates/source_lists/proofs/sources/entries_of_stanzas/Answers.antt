use Rattle.std.proofs.Common.{sym, inr}
use Rattle.std.proofs.lemmas.List.Elements.{All-nil}
use Rattle.std.proofs.lemmas.Result.{err_from_is_err_and}
use Rattle.source_lists.specs.Sound.{IsSound}
use Rattle.source_lists.specs.Stanzas.{stanza_entries}
use Rattle.source_lists.specs.Texts.{all_entries}
use Rattle.source_lists.proofs.Loops.{entries-nil, added, adds_none, all_added}
use Rattle.source_lists.proofs.sources.entries_of_stanzas.Goals as goal

pub loop-stanza-init : goal.loop-stanza-init
loop-stanza-init c = record {
  read = rw c.new-entries.ensures (sym (entries-nil (stanza_entries c.args.file.now c.args.arch.now) c.args.stanzas.now));
  sound = rw c.new-entries.ensures (All-nil IsSound);
}

pub returns-in_err-add_stanza-clause-value : goal.returns-in_err-add_stanza-clause-value
returns-in_err-add_stanza-clause-value c =
    let read = stanza_entries c.args.file.now c.args.arch.now in
    let p = err_from_is_err_and c.from_residual.result c.from_residual.ensures.1 in
    rw (p.1, p.2) (adds_none read (all_entries read c.args.stanzas.now) c.loop-stanza.entries c.args.stanzas.now c.loop-stanza.stanza-index c.stanza-item.result c.in_err-add_stanza.field-0.0 c.loop-stanza.invariant.read c.loop-stanza-test.true c.stanza-item.is c.in_err-add_stanza.ensures.value)

pub loop-stanza-preserved : goal.loop-stanza-preserved
loop-stanza-preserved c =
    let read = stanza_entries c.args.file.now c.args.arch.now in
    record {
      read = added read (all_entries read c.args.stanzas.now) c.loop-stanza.entries c.add_stanza.new.entries c.args.stanzas.now c.loop-stanza.stanza-index c.stanza-item.result c.loop-stanza.invariant.read c.loop-stanza-test.true c.stanza-item.is c.in_ok-add_stanza.ensures.value;
      sound = c.in_ok-add_stanza.ensures.sound c.loop-stanza.invariant.sound;
    }

pub returns-clause-value : goal.returns-clause-value
returns-clause-value c =
    let read = stanza_entries c.args.file.now c.args.arch.now in
    inr (sym (all_added read (all_entries read c.args.stanzas.now) c.loop-stanza.entries c.args.stanzas.now c.loop-stanza.stanza-index c.loop-stanza.invariant.read c.loop-stanza-test.false))
