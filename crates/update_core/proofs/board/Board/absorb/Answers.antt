use Rattle.std.proofs.Common.{◌≡◌, ◌∙◌, ℕ, List, Option, None, sym, ap, arith}
use Rattle.board_model.specs.Boards as model
use Rattle.update_core.specs.BoardRefinement.{board_of}
use Rattle.update_core.proofs.Anew.{nothing-asks, nothing-out, takes-in, takes-nothing}
use Rattle.update_core.proofs.Askers.{mapped, none-mapped, ok-mapped}
use Rattle.update_core.proofs.Waiting.{lane-within}
use Rattle.update_core.proofs.board.Board.absorb.Goals as goal

pub returns-in_default-clause-takes : goal.returns-in_default-clause-takes
unfolding board_of
returns-in_default-clause-takes g c =
    let b = board_of c.args.self.now in
    let none : model.lane_with b.out c.args.number ≡ None = ap (λ (xs : List (Option ℕ)). model.lane_with xs c.args.number) (sym c.as_slice.ensures.value) ∙ sym c.in_default.ensures in
    takes-nothing (g.D.Disk.tells c.args.disk.now) (g.D.Disk.files c.args.disk.now) b c.args.lane c.args.number c.args.closed (nothing-out b c.args.lane c.args.number c.args.closed none)

pub returns-in_default-asker-clause-takes : goal.returns-in_default-asker-clause-takes
unfolding board_of
returns-in_default-asker-clause-takes g c =
    let b = board_of c.args.self.now in
    let none = none-mapped (λ (x : model.Asker). x.key) (model.asker_of b c.args.number) c.in_default-asker.ensures in
    takes-nothing (g.D.Disk.tells c.args.disk.now) (g.D.Disk.files c.args.disk.now) b c.args.lane c.args.number c.args.closed (nothing-asks b c.args.lane c.args.number c.args.closed none)

pub take_in-requires-clause-from : goal.take_in-requires-clause-from
take_in-requires-clause-from g c =
    let out = ap (λ (xs : List (Option ℕ)). model.lane_with xs c.args.number) (sym c.as_slice.ensures.value) ∙ sym c.in-Some.ensures in
    let below = lane-within c.args.self.now.out.items c.args.number c.in-Some.from out in
    omega (arith, below, c.args.self.now.few)

pub returns-clause-takes : goal.returns-clause-takes
unfolding board_of
returns-clause-takes g c =
    let out = ap (λ (xs : List (Option ℕ)). model.lane_with xs c.args.number) (sym c.as_slice.ensures.value) ∙ sym c.in-Some.ensures in
    let a = mapped (λ (x : model.Asker). x.key) (model.asker_of (board_of c.args.self.now) c.args.number) c.in-Some-asker.key c.in-Some-asker.ensures in
    ok-mapped c.take_in.result
    (takes-in (g.D.Disk.tells c.args.disk.now) (g.D.Disk.files c.args.disk.now) (board_of c.args.self.now) c.args.lane c.args.number c.in-Some.from c.args.closed a.0 (board_of c.take_in.new.self) out a.1)
    (c.take_in.ensures.took a.0 a.1)
