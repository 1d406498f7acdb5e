use Rattle.std.proofs.Common.{◌∙◌, ◌<◌, ℕ, subst}
use Rattle.std.proofs.lemmas.List.{length-map}
use Rattle.board_slot.specs.Refinement.{slot_of}
use Rattle.update_core.specs.Refinement.{slots_of}
use Rattle.update_core.specs.BoardRefinement.{board_of}
use Rattle.update_core.proofs.Ready.{ready-first, ready-there, settled-by}
use Rattle.update_core.proofs.board.Board.settle.Goals as goal

pub settle-requires-clause-ready : goal.settle-requires-clause-ready
unfolding board_of
settle-requires-clause-ready c = ready-first (slots_of c.args.self.now.sources.slots.items) c.args.source c.requires

pub settle-requires-clause-slot : goal.settle-requires-clause-slot
unfolding board_of
settle-requires-clause-slot c =
    let slots = c.args.self.now.sources.slots.items in
    subst (λ (n : ℕ). c.args.source < n) (length-map slots slot_of) (ready-there (slots_of slots) c.args.source (ready-first (slots_of slots) c.args.source c.requires))

pub settle-requires-clause-source : goal.settle-requires-clause-source
unfolding board_of
settle-requires-clause-source c =
    let slots = c.args.self.now.sources.slots.items in
    subst (λ (n : ℕ). c.args.source < n) c.args.self.now.each
    (subst (λ (n : ℕ). c.args.source < n) (length-map slots slot_of) (ready-there (slots_of slots) c.args.source (ready-first (slots_of slots) c.args.source c.requires)))

pub invariant_of-self : goal.invariant_of-self
invariant_of-self c = record {
  numbered = c.args.self.now.numbered;
  each = c.settle.ensures.count ∙ c.args.self.now.each;
  told = c.args.self.now.told;
  small = c.args.self.now.small;
  few = c.args.self.now.few;
  none = c.args.self.now.none;
}

pub returns-clause-settled : goal.returns-clause-settled
unfolding board_of
returns-clause-settled c =
    let slots = c.args.self.now.sources.slots.items in
    let placed = ready-there (slots_of slots) c.args.source (ready-first (slots_of slots) c.args.source c.requires) in
    let within = subst (λ (n : ℕ). c.args.source < n) c.args.self.now.each (subst (λ (n : ℕ). c.args.source < n) (length-map slots slot_of) placed) in
    settled-by (board_of c.args.self.now) c.args.source c.in_ok-settled.settled within placed c.in_ok-settled.ensures.settled
