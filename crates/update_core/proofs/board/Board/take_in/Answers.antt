use Rattle.std.proofs.Common.{◌≡◌, ◌∙◌, ◌<◌, ◌≤◌, ℕ, length, Some, sym, ap, subst}
use Rattle.std.specs.Prelude.{slice_get}
use Rattle.std.proofs.lemmas.List.{length-map}
use Rattle.board_slot.specs.Refinement.{slot_of}
use Rattle.update_core.specs.Refinement.{slots_of}
use Rattle.update_core.specs.BoardRefinement.{board_of}
use Rattle.host_queues.specs.Lanes.{Lanes}
use Rattle.host_queues.specs.Refinement.{lanes_of}
use Rattle.host_queues.proofs.Changes.{length-changed}
use Rattle.board_model.specs.Boards.{put_heard}
use Rattle.board_model.specs.Slots.{ask_of, item_at}
use Rattle.board_model.specs.declared.key.Key.{Key}
use Rattle.update_core.proofs.Anew.{took-anew}
use Rattle.update_core.proofs.Askers.{asker-asks}
use Rattle.update_core.proofs.Ready.{busy-by}
use Rattle.update_core.proofs.board.Board.take_in.Goals as goal

pub hear-requires-clause-change : goal.hear-requires-clause-change
hear-requires-clause-change g c = c.requires.change

pub hear-requires-clause-slot : goal.hear-requires-clause-slot
unfolding board_of
hear-requires-clause-slot g c =
    let slots = c.args.self.now.sources.slots.items in
    let busy = busy-by (slots_of slots) c.args.key c.requires.asks in
    subst (λ (n : ℕ). c.args.key.source < n) (length-map slots slot_of) busy.there

pub hear-requires-clause-source : goal.hear-requires-clause-source
unfolding board_of
hear-requires-clause-source g c =
    let slots = c.args.self.now.sources.slots.items in
    let busy = busy-by (slots_of slots) c.args.key c.requires.asks in
    subst (λ (n : ℕ). c.args.key.source < n) c.args.self.now.each (subst (λ (n : ℕ). c.args.key.source < n) (length-map slots slot_of) busy.there)

pub hear-requires-clause-asks : goal.hear-requires-clause-asks
unfolding board_of
hear-requires-clause-asks g c =
    let busy = busy-by (slots_of c.args.self.now.sources.slots.items) c.args.key c.requires.asks in busy.unready

pub invariant_of-self : goal.invariant_of-self
invariant_of-self g c = record {
  numbered = c.args.self.now.numbered;
  each = c.args.self.now.each;
  told = c.args.self.now.told;
  small = c.args.self.now.small;
  few = c.args.self.now.few;
  none = c.args.self.now.none;
}

pub invariant_of-self-in-Break-1 : goal.invariant_of-self-in-Break-1
invariant_of-self-in-Break-1 g c = record {
  numbered = c.args.self.now.numbered;
  each = c.hear.ensures.count ∙ c.args.self.now.each;
  told = c.args.self.now.told;
  small = c.args.self.now.small;
  few = subst (λ (n : ℕ). n ≤ 4294967295) (sym (ap length c.take_back.ensures ∙ length-changed _ c.args.self.now.out.items c.args.from)) c.args.self.now.few;
  none = c.args.self.now.none;
}

pub invariant_of-self-2 : goal.invariant_of-self-2
invariant_of-self-2 g c = record {
  numbered = c.args.self.now.numbered;
  each = c.hear.ensures.count ∙ c.args.self.now.each;
  told = c.args.self.now.told;
  small = c.args.self.now.small;
  few = subst (λ (n : ℕ). n ≤ 4294967295) (sym (ap length c.take_back.ensures ∙ length-changed _ c.args.self.now.out.items c.args.from)) c.args.self.now.few;
  none = c.args.self.now.none;
}

pub returns-clause-took : goal.returns-clause-took
unfolding board_of
returns-clause-took g c asker is =
    let b = board_of c.args.self.now in
    let asking = asker-asks b c.args.number asker is in
    let same : c.args.key ≡ asker.key = some-key c.args.key asker.key (sym c.requires.key ∙ asking.key_is) in
    let there = subst (λ (k : Key). slice_get b.config.sources k.source ≡ Some asker.source) (sym same) asking.source_is in
    let asked = subst (λ (k : Key). ask_of (item_at b.slots k) ≡ Some asker.ask) (sym same) asking.ask_is in
    took-anew (g.D.Disk.tells c.args.disk.now) (g.D.Disk.files c.args.disk.now) b c.args.number c.args.key asker c.args.from (record { lane = c.args.lane; closed = c.args.closed })
    (slots_of c.hear.new.self.slots.items) (lanes_of c.put_heard.new.queues) c.take_back.new.out.items c.log-logged.new.all
    is same (c.in_ok-hear.ensures.slots asker.source there)
    (c.in_ok-put_heard.ensures ∙ ap (λ (l : Lanes). put_heard c.args.number c.args.key.place (slice_get (slots_of c.hear.new.self.slots.items) c.args.key.source) l) c.done.ensures)
    c.take_back.ensures
    (c.in_default.ensures asker.source asker.ask there asked)
  where
    some-key : (j k : Key) → Some j ≡ Some k → j ≡ k
    some-key j k e = cc
