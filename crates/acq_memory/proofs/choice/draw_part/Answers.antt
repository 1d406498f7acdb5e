use Rattle.std.proofs.Common.{◌≡◌, ◌∙◌, sym, ap, refl, ℕ, ◌+◌, ◌<◌, nat_eq, Bool, true, false, if◌then◌else◌, arith, List, ◌∷◌, length, drop, get_or}
use Rattle.std.proofs.lemmas.List.{drop_more}
use Rattle.acq_outside.specs.Crash.{Names, renamed, all_renamed}
use Rattle.acq_outside.specs.Choice.{Drawn, put_first, next_byte, next_rest, drawn_part}
use Rattle.acq_outside.specs.declared.state.NameChange.{NameChange}
use Rattle.acq_memory.specs.Replay.{names_in}
use Rattle.acq_memory.proofs.choice.draw_part.Goals as goal

value_case : (t : Bool) (m : Names) (change : NameChange) (later : Drawn (List NameChange)) → all_renamed m (if t then later else put_first change later).value ≡ all_renamed (if t then m else renamed m change) later.value
value_case true m change later = refl
value_case false m change later = refl

rest_case : (t : Bool) (change : NameChange) (later : Drawn (List NameChange)) → (if t then later else put_first change later).rest ≡ later.rest
rest_case true change later = refl
rest_case false change later = refl

value_step : (whole : List ℕ) (changes : List NameChange) (i : ℕ) (rest : List ℕ) (m : Names) (change : NameChange) → i < length changes → change ≡ get_or changes i change
    → all_renamed m (drawn_part whole (drop i changes) rest).value ≡ all_renamed (if nat_eq (next_byte whole rest) 0 then m else renamed m change) (drawn_part whole (drop (i + 1) changes) (next_rest whole rest)).value
value_step whole changes i rest m change below is =
    let split : drop i changes ≡ change ∷ drop (i + 1) changes = drop_more changes i change below ∙ ap (λ (c : NameChange). c ∷ drop (i + 1) changes) (sym is) in
    ap (λ (l : List NameChange). all_renamed m (drawn_part whole l rest).value) split ∙ value_case (nat_eq (next_byte whole rest) 0) m change (drawn_part whole (drop (i + 1) changes) (next_rest whole rest))

rest_step : (whole : List ℕ) (changes : List NameChange) (i : ℕ) (rest : List ℕ) (change : NameChange) → i < length changes → change ≡ get_or changes i change
    → (drawn_part whole (drop i changes) rest).rest ≡ (drawn_part whole (drop (i + 1) changes) (next_rest whole rest)).rest
rest_step whole changes i rest change below is =
    let split : drop i changes ≡ change ∷ drop (i + 1) changes = drop_more changes i change below ∙ ap (λ (c : NameChange). c ∷ drop (i + 1) changes) (sym is) in
    ap (λ (l : List NameChange). (drawn_part whole l rest).rest) split ∙ rest_case (nat_eq (next_byte whole rest) 0) change (drawn_part whole (drop (i + 1) changes) (next_rest whole rest))

pub loop-change-preserved : goal.loop-change-preserved
loop-change-preserved c =
    let whole = c.args.whole.now in
    let changes = c.args.pending.now in
    let i = c.loop-change.change-index in
    let m = names_in c.loop-change.names in
    let change = c.change-item.result in
    record {
      rest = c.loop-change.invariant.rest ∙ rest_step whole changes i c.loop-change.rest.now change (omega arith) c.change-item.is ∙ ap (λ (r : List ℕ). (drawn_part whole (drop (i + 1) changes) r).rest) (sym c.next-taken.ensures.rest);
      names =
          c.loop-change.invariant.names
          ∙ value_step whole changes i c.loop-change.rest.now m change (omega arith) c.change-item.is
          ∙ ap (λ (r : List ℕ). all_renamed (if nat_eq (next_byte whole c.loop-change.rest.now) 0 then m else renamed m change) (drawn_part whole (drop (i + 1) changes) r).value) (sym c.next-taken.ensures.rest)
          ∙ ap (λ (b : ℕ). all_renamed (if nat_eq b 0 then m else renamed m change) (drawn_part whole (drop (i + 1) changes) c.next-taken.result.1.now).value) (sym c.next-taken.ensures.byte)
          ∙ ap (λ (n : Names). all_renamed n (drawn_part whole (drop (i + 1) changes) c.next-taken.result.1.now).value) (sym c.in_ok-take_or_leave.ensures);
    }
