use Rattle.std.proofs.Common.{length, ap, sym, ◌∙◌, arith}
use Rattle.std.specs.Option.{option_copied}
use Rattle.apt_conf.proofs.LookupLemmas.{none_given, nothing_found, all_found, is_within_key, found_more}
use Rattle.apt_conf.proofs.lookup.find_value.Goals as goal

pub returns-then-has_empty_part : goal.returns-then-has_empty_part
returns-then-has_empty_part c = none_given c.args.key.now _ c.args.entries.now (sym c.has_empty_part.ensures ∙ c.if-has_empty_part.true)

pub loop-entry-init : goal.loop-entry-init
loop-entry-init c = nothing_found c.args.entries.now c.args.key.now

pub compare-reached-requires : goal.compare-reached-requires
compare-reached-requires c = is_within_key c.args.entries.now c.loop-entry.entry-index c.args.key.now _ c.loop-entry.matched _ c.loop-entry.invariant

pub loop-entry-preserved : goal.loop-entry-preserved
loop-entry-preserved c =
    found_more c.args.entries.now c.loop-entry.entry-index c.entry-item.result c.args.key.now c.as_bytes.result.now (option_copied c.loop-entry.found) (option_copied c.later_of-found.result) c.loop-entry.matched c.loop-entry.length c.min-shared.result c.saturating_add-length.result c.compare-reached.result
    c.loop-entry-test.true c.entry-item.is (omega arith) (sym c.has_empty_part.ensures ∙ c.if-has_empty_part.false) c.as_bytes.ensures c.min-shared.ensures c.compare-reached.ensures c.later_of-found.ensures (omega (arith, c.saturating_add-length.ensures, c.len.ensures, ap length c.as_bytes.ensures)) c.loop-entry.invariant

pub returns : goal.returns
returns c = all_found c.args.entries.now c.loop-entry.entry-index c.args.key.now _ _ _ c.loop-entry-test.false c.loop-entry.invariant
