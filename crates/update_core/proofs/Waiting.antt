-- Items that ask wait for their hosts, one after another; and the lane of a job that is out.
use Rattle.std.proofs.Common.{◌≡◌, ◌∙◌, ℕ, zero, suc, ◌+◌, ◌<◌, nat_eq, inl, inr, false, true, List, [], ◌∷◌, length, get_or, drop, Option, Some, None, refl, sym, ap, arith}
use Rattle.std.specs.Prelude.{option_map, slice_get}
use Rattle.std.proofs.Math.Seq.{drop-cons}
use Rattle.std.proofs.lemmas.Bool.{cases_Bool}
use Rattle.std.proofs.lemmas.Bool.Decides.{nat_tests}
use Rattle.board_model.specs.Boards.{is_out_as, lane_with, put_ask, put_heard, put_items}
use Rattle.board_model.specs.Slots.{Slot, Standing, ask_of, item_in, joined}
use Rattle.update_model.specs.declared.ask.Ask.{Ask}
use Rattle.host_queues.specs.Lanes.{Lanes}

-- the next of the items
pub put-next : (at place : ℕ) (items : List (Option Standing)) (lanes : Lanes) → place < length items
    → put_items at (drop place items) lanes ≡ put_items (suc at) (drop (suc place) items) (put_ask at (ask_of (joined (slice_get items place))) lanes)
put-next at place [] lanes within = absurd (grind (arith, within))
put-next at zero (item ∷ items) lanes within = refl
put-next at (suc place) (item ∷ items) lanes within = put-next at place items lanes (omega (arith, within))

pub none-left : (at place : ℕ) (items : List (Option Standing)) (lanes : Lanes) → length items ≡ place → put_items at (drop place items) lanes ≡ lanes
none-left at zero [] lanes e = refl
none-left at (suc place) [] lanes e = refl
none-left at zero (item ∷ items) lanes e = absurd (grind (arith, e))
none-left at (suc place) (item ∷ items) lanes e = none-left at place items lanes (omega (arith, e))

-- a list that has heard an answer asks alone
pub heard-list : (number place : ℕ) (slot : Slot) (lanes : Lanes) → nat_eq place 0 ≡ false
    → put_heard number place (Some slot) lanes ≡ put_ask number (ask_of (item_in slot place)) lanes
heard-list number zero slot lanes e = absurd (grind (arith, nat_tests, e))
heard-list number (suc place) slot lanes e = refl

-- ---- the lane of a job

-- the lanes from one on, numbered from there
abbrev pub lane_from : List (Option ℕ) → ℕ → ℕ → Option ℕ
lane_from outs number lane = option_map (λ n. n + lane) (lane_with (drop lane outs) number)

pub lane-first : (outs : List (Option ℕ)) (number : ℕ) → lane_from outs number 0 ≡ lane_with outs number
lane-first outs number = one (lane_with outs number)
  where
    one : (o : Option ℕ) → option_map (λ n. n + 0) o ≡ o
    one None = refl
    one (Some n) = ap (λ (m : ℕ). Some m) (omega arith)

pub lane-here : (outs : List (Option ℕ)) (number lane : ℕ) (d : Option ℕ) → lane < length outs → is_out_as number (get_or outs lane d) ≡ true
    → lane_from outs number lane ≡ Some lane
lane-here outs number lane d within is = rw (drop-cons outs lane d within) (rw is (ap (λ (m : ℕ). Some m) (omega arith)))

pub lane-next : (outs : List (Option ℕ)) (number lane : ℕ) (d : Option ℕ) → lane < length outs → is_out_as number (get_or outs lane d) ≡ false
    → lane_from outs number lane ≡ lane_from outs number (suc lane)
lane-next outs number lane d within isnt = rw (drop-cons outs lane d within) (rw isnt (one (lane_with (drop (suc lane) outs) number)))
  where
    one : (o : Option ℕ) → option_map (λ n. n + lane) (option_map (λ n. n + 1) o) ≡ option_map (λ n. n + suc lane) o
    one None = refl
    one (Some n) = ap (λ (m : ℕ). Some m) (omega arith)

pub lane-none : (outs : List (Option ℕ)) (number lane : ℕ) → length outs ≡ lane → lane_from outs number lane ≡ None
lane-none [] number zero e = refl
lane-none [] number (suc lane) e = refl
lane-none (out ∷ outs) number zero e = absurd (grind (arith, e))
lane-none (out ∷ outs) number (suc lane) e = one (lane_with (drop lane outs) number) (lane-none outs number lane (omega (arith, e)))
  where
    one : (o : Option ℕ) → option_map (λ n. n + lane) o ≡ None → option_map (λ n. n + suc lane) o ≡ None
    one None e = refl
    one (Some n) e = absurd (cc)

-- one turn of the loop over the items
pub put-more : (at place next after : ℕ) (items : List (Option Standing)) (lanes new : Lanes) (ask : Option Ask) (total : Lanes) → place < length items
    → next ≡ at + 1 → after ≡ place + 1 → new ≡ put_ask at ask lanes → ask ≡ ask_of (joined (slice_get items place))
    → put_items at (drop place items) lanes ≡ total → put_items next (drop after items) new ≡ total
put-more at place next after items lanes new ask total within n a l k e =
    let n1 : next ≡ suc at = omega (arith, n) in
    let a1 : after ≡ suc place = omega (arith, a) in
    ap (λ (x : ℕ). put_items x (drop after items) new) n1
    ∙ ap (λ (x : ℕ). put_items (suc at) (drop x items) new) a1
    ∙ ap (λ (x : Lanes). put_items (suc at) (drop (suc place) items) x) (l ∙ ap (λ (x : Option Ask). put_ask at x lanes) k)
    ∙ sym (put-next at place items lanes within)
    ∙ e

pub lane-within : (outs : List (Option ℕ)) (number lane : ℕ) → lane_with outs number ≡ Some lane → lane < length outs
lane-within [] number lane e = absurd (cc)
lane-within (out ∷ outs) number lane e = elim (cases_Bool (is_out_as number out)) [
  | inl is ↦ let here = some-same 0 lane (rw is at e) in omega (arith, here)
  | inr isnt ↦ more (lane_with outs number) refl (rw isnt at e) (λ m is. lane-within outs number m is)
]
  where
    some-same : (m n : ℕ) → Some m ≡ Some n → m ≡ n
    some-same m n e = cc

    more : (o : Option ℕ) → lane_with outs number ≡ o → option_map (λ n. n + 1) o ≡ Some lane → ((m : ℕ) → lane_with outs number ≡ Some m → m < length outs) → lane < length (out ∷ outs)
    more None is same rest = absurd (cc)
    more (Some m) is same rest = let next = some-same (m + 1) lane same in let below = rest m is in omega (arith, next, below)
