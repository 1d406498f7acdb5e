use Rattle.std.proofs.Common.{◌∙◌, ◌≤◌, ℕ, length, map, sym, ap, subst, arith}
use Rattle.std.specs.Prelude.{replicate}
use Rattle.std.proofs.lemmas.List.{length-map, length-replicate}
use Rattle.board_model.specs.Boards.{no_verdict}
use Rattle.board_slot.specs.Refinement.{slot_of}
use Rattle.board_source.specs.Refinement.{config_of}
use Rattle.host_queues.specs.Refinement.{lanes_of}
use Rattle.lists_dir.specs.Refinement.{old_in}
use Rattle.update_core.specs.Refinement.{slots_of}
use Rattle.update_core.specs.BoardRefinement.{board_of}
use Rattle.update_core.proofs.Begun.{few-sources, first-whole, length-first}
use Rattle.update_core.proofs.Ready.{empty-ready}
use Rattle.update_core.proofs.board.Board.first.Goals as goal

pub begin_board-requires-clause-few : goal.begin_board-requires-clause-few
begin_board-requires-clause-few c = let below = few-sources 0 c.args.setup.sources in omega (arith, below, c.requires.few)

pub invariant_of-result : goal.invariant_of-result
invariant_of-result c =
    let stand = c.in_ok-keys.ensures.slots in
    record { told = empty-ready (config_of c.args.setup) c.args.setup.sources (map old_in c.args.old) c.in_ok-keys.field-0.slots.items c.new.result stand c.new.ensures.empty }

pub invariant_of-result-2 : goal.invariant_of-result-2
invariant_of-result-2 c =
    let numbers = c.in_ok-keys.ensures.keys in
    let stand = c.in_ok-keys.ensures.slots in
    let lanes = ap length c.in_ok-out.ensures ∙ length-replicate c.args.lanes _ in
    record {
      numbered = numbers;
      each = sym (length-map c.in_ok-keys.field-0.slots.items slot_of) ∙ ap length stand ∙ length-first (config_of c.args.setup) c.args.setup.sources (map old_in c.args.old) (length-map c.args.old old_in ∙ c.requires.each);
      told = ap length c.in_ok-verdicts.ensures ∙ length-replicate _ no_verdict ∙ c.len.ensures;
      small = subst (λ (n : ℕ). n ≤ 4096) (sym (ap length numbers)) c.requires.few;
      few = omega (arith, lanes, c.ranges.lanes.fits);
      none = c.new-4.ensures;
    }

pub returns : goal.returns
unfolding board_of
returns c =
    first-whole (config_of c.args.setup) (map old_in c.args.old) c.args.lanes (slots_of c.in_ok-keys.field-0.slots.items) (lanes_of c.in_ok-keys.field-0.queues) c.in_ok-out.out.items c.new-2.result c.new-3.result c.in_ok-verdicts.verdicts.items
    c.in_ok-keys.ensures.slots
    c.in_ok-keys.ensures.queues
    c.in_ok-out.ensures c.new-2.ensures c.new-3.ensures
    (c.in_ok-verdicts.ensures ∙ ap (λ (n : ℕ). replicate n no_verdict) c.len.ensures)
