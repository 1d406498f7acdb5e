-- No call of a board changes what the run was begun with.
use Rattle.std.proofs.Common.{◌≡◌, ◌∙◌, ℕ, Result, Ok, Err, OnOk, IfOk, refl, ap}
use Rattle.std.specs.Prelude.{Bool, Option, Some, None}
use Rattle.acq_outside.specs.Disk.{Files}
use Rattle.board_model.specs.Boards.{Board, Asker, asker_of, lane_with, took_from, issued, settled_as}
use Rattle.update_core.specs.TakenIn.{TakesIn}
use Rattle.update_model.specs.Trails.{LaneAnswer}
use Rattle.update_model.specs.declared.ask.Closed.{Closed}
use Rattle.update_model.specs.declared.settled.Settled.{Settled}

change-took : (b : Board) (number : ℕ) (told : LaneAnswer) (from : Option ℕ) (a : Option Asker) → (took_from b number told from a).config.change ≡ b.config.change
change-took b number told None a = refl
change-took b number told (Some from) None = refl
change-took b number told (Some from) (Some a) = refl

kept-absorbed : (tells : Bool) (files : Files) (b after : Board) (lane number : ℕ) (closed : Closed)
    → TakesIn tells files b lane number closed after → after.config.change ≡ b.config.change
kept-absorbed tells files b after lane number closed t =
    ap (λ (c : Board). c.config.change) t.is
    ∙ change-took t.between number (record { lane = lane; closed = closed }) (lane_with t.between.out number) (asker_of t.between number)
    ∙ ap (λ (c : Board). c.config.change) t.anew.is

pub on_absorbed : {T E : Type 0} (tells : Bool) (files : Files) (b after : Board) (lane number : ℕ) (closed : Closed) (result : Result T E)
    → OnOk result (TakesIn tells files b lane number closed after) → OnOk result (after.config.change ≡ b.config.change)
on_absorbed tells files b after lane number closed (Ok done) is = kept-absorbed tells files b after lane number closed is
on_absorbed tells files b after lane number closed (Err refused) is = tt

pub on_issued : {T E : Type 0} (b after : Board) (lane : ℕ) (result : Result T E)
    → OnOk result (after ≡ issued b lane) → OnOk result (after.config.change ≡ b.config.change)
on_issued b after lane (Ok job) is = ap (λ (c : Board). c.config.change) is
on_issued b after lane (Err refused) is = tt

pub on_settled : {E : Type 0} (b after : Board) (n : ℕ) (result : Result Settled E)
    → IfOk result (λ settled. after ≡ settled_as b n settled.verdict) → OnOk result (after.config.change ≡ b.config.change)
on_settled b after n (Ok settled) is = ap (λ (c : Board). c.config.change) is
on_settled b after n (Err refused) is = tt
