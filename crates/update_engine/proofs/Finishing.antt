-- A board on which nothing is asked and no source is ready.
use Rattle.std.proofs.Common.{◌≡◌, ◌∙◌, sym, ap, subst, List, true, None}
use Rattle.std.specs.List.{AllByRecursion as Each}
use Rattle.acq_outside.specs.Crash.{State}
use Rattle.board_model.specs.Boards.{Board, first_ready, is_finished}
use Rattle.board_model.specs.Jobs.{NoneAsks}
use Rattle.board_model.specs.Reached.{Reached}
use Rattle.board_model.specs.Runs.{BoardRun, run, start as start_world}
use Rattle.board_model.specs.Slots.{SettledSlot}
use Rattle.update_engine.proofs.Known.{FinishingLaws}
use Rattle.update_engine.specs.Session.{MayCommit}

pub finished : FinishingLaws → (b : Board) (now : List State) → MayCommit b now → NoneAsks b → first_ready b.slots ≡ None → is_finished b ≡ true
finished laws b now stands quiet none =
    let olds = stands.under_way.heard.olds in
    let r : Reached stands.start.config olds stands.notes b = stands.under_way.heard.reached in
    let closed = laws.ready stands.start.config olds stands.notes b r quiet none in
    let board : (run r.events (start_world stands.start.config olds r.lanes)).board ≡ b = ap (λ (w : BoardRun). w.board) r.leads in
    let all = subst (λ (x : Board). Each (λ slot. slot ≡ SettledSlot) x.slots) (sym board) closed in
    ap is_finished (sym board) ∙ (laws.exactly stands.start.config olds r.lanes r.events r.each).1 all
