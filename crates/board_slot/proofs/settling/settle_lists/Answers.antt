use Rattle.std.proofs.Common.{◌∙◌, Some, sym, ap}
use Rattle.std.proofs.lemmas.Result.{IfOk-weaker}
use Rattle.update_model.specs.declared.settled.Settled.{Settled}
use Rattle.board_source.specs.Listed.{standings}
use Rattle.board_source.specs.Refinement.{found_of}
use Rattle.board_slot.specs.Ended.{all_had_in}
use Rattle.board_slot.proofs.Settled.{kept-is, set-is}
use Rattle.board_slot.proofs.settling.settle_lists.Goals as goal

pub returns-in-Some : goal.returns-in-Some
returns-in-Some c =
    let l = c.args.listing in
    ap (λ (s : Settled). Some s)
    (kept-is c.args.source.now (found_of l.found) l.there (standings l.lists.items.items) c.in_ok-ends.ends.items c.in-Some.cause c.in_ok-cause.field-0
    c.in_ok-ends.ensures c.in-Some.is (c.in_ok-cause.ensures ∙ ap all_had_in c.as_slice.ensures.value) ∙ sym c.unchanged.ensures)

pub returns-in-None : goal.returns-in-None
returns-in-None c =
    let l = c.args.listing in
    IfOk-weaker c.settle_set.result _ _ (λ settled h. ap (λ (s : Settled). Some s)
    (set-is c.args.source.now (found_of l.found) l.there (standings l.lists.items.items) c.in_ok-ends.ends.items c.in_ok-cause.field-0
    c.in_ok-ends.ensures c.in-None.is (c.in_ok-cause.ensures ∙ ap all_had_in c.as_slice.ensures.value) ∙ sym h)) c.settle_set.ensures
