use Rattle.std.proofs.Common.{◌∙◌, List, sym, ap}
use Rattle.std.specs.BTreeMap.{get}
use Rattle.std.specs.Cmp.Lexicographic.{slice_cmp}
use Rattle.std.specs.Ordering.{nat_cmp}
use Rattle.std.specs.Prelude.{filter_map}
use Rattle.acq_base.specs.declared.plan.Target.{Target}
use Rattle.update_model.specs.declared.settled.Held.{Held}
use Rattle.update_model.specs.declared.settled.Verdict2.TheVariants.{Hit}
use Rattle.board_model.specs.Settling.{unchanged}
use Rattle.board_source.specs.Refinement.{found_of}
use Rattle.board_slot.specs.Ended.{changed_set, dropped_list, puts_in}
use Rattle.board_slot.proofs.Settled.{changed-is}
use Rattle.board_slot.proofs.settling.settle_set.Goals as goal

pub returns-then-there : goal.returns-then-there
returns-then-there c =
    c.unchanged.ensures ∙ ap (λ (h : Held). unchanged (Hit h)) c.in_ok-held.ensures
    ∙ sym (ap (changed_set c.args.source.now (found_of c.args.found) c.args.ends.items) c.if-there.true)

pub returns : goal.returns
returns c =
    changed-is c.args.source.now (found_of c.args.found) c.args.ends.items c.args.there (get (slice_cmp nat_cmp) c.in_ok-sums.sums) c.in_ok-held.held c.in_ok-puts.field-0 c.in_ok-drops.field-0
    c.if-there.false c.in_ok-sums.ensures c.in_ok-held.ensures
    (c.in_ok-puts.ensures ∙ ap (λ (ts : List Target). puts_in ts c.args.ends.items) c.as_slice-targets.ensures)
    (c.in_ok-drops.ensures ∙ ap (λ (ts : List Target). filter_map (dropped_list (get (slice_cmp nat_cmp) c.in_ok-sums.sums)) ts) c.as_slice-targets.ensures)
