use Rattle.std.proofs.Common.{◌≡◌, ◌∙◌, sym, ap, refl, ℕ, ◌+◌, ◌<◌, arith, List, [], ◌∷◌, ◌++◌, length, drop, Option, None}
use Rattle.std.proofs.lemmas.List.{drop_more, append-nil}
use Rattle.acq_outside.specs.Choice.{Drawn, next_byte, next_rest, drawn_bytes}
use Rattle.acq_memory.proofs.choice.draw_bytes.Goals as goal

ends_first : (whole : List ℕ) (least : ℕ) (cells : List (Option ℕ)) (cell : Option ℕ) (later : List (Option ℕ)) (rest : List ℕ) → cells ≡ cell ∷ later → next_byte whole rest ≡ 0 → least ≡ 0 → drawn_bytes whole least cells rest ≡ record { value = []; rest = next_rest whole rest }
ends_first whole least cells cell later rest is ends none = rw (is, ends, none) refl

ended : (whole : List ℕ) (least : ℕ) (cells : List (Option ℕ)) (i : ℕ) (rest : List ℕ) → i < length cells → next_byte whole rest ≡ 0 → least ≡ 0 → drawn_bytes whole least (drop i cells) rest ≡ record { value = []; rest = next_rest whole rest }
ended whole least cells i rest below ends none = ends_first whole least (drop i cells) _ (drop (i + 1) cells) rest (drop_more cells i None below) ends none

pub returns-then-least-eq0-clause-value : goal.returns-then-least-eq0-clause-value
returns-then-least-eq0-clause-value c =
    let over = ended c.args.whole.now c.loop-cell.least c.args.cells.now c.loop-cell.cell-index c.loop-cell.rest.now (omega arith) (sym c.next-ends.ensures.byte ∙ c.if-ends-eq0.true) c.if-least-eq0.true in
    sym (c.loop-cell.invariant.value ∙ ap (λ (d : Drawn (List ℕ)). c.loop-cell.bytes ++ d.value) over ∙ append-nil c.loop-cell.bytes)

pub returns-then-least-eq0-clause-rest : goal.returns-then-least-eq0-clause-rest
returns-then-least-eq0-clause-rest c =
    let over = ended c.args.whole.now c.loop-cell.least c.args.cells.now c.loop-cell.cell-index c.loop-cell.rest.now (omega arith) (sym c.next-ends.ensures.byte ∙ c.if-ends-eq0.true) c.if-least-eq0.true in
    c.next-ends.ensures.rest ∙ sym (c.loop-cell.invariant.rest ∙ ap (λ (d : Drawn (List ℕ)). d.rest) over)
