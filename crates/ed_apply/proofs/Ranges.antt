-- A range is cut at its comma.
use Rattle.std.proofs.Common.{◌≡◌, ℕ, ◌+◌, ◌<◌, ◌≤◌, true, false, List, length, take, drop, refl}
use Rattle.std.specs.List.{position_or_len, list_any}
use Rattle.std.proofs.lemmas.List.{drop-drop}
use Rattle.acq_base.proofs.Lists.{list_any-there, list_any-nowhere}
use Rattle.ed_apply.specs.Grammar.{is_comma, line_number, both, range_of}

pub range-comma : (places : List ℕ) (n : ℕ) → n ≡ position_or_len is_comma places → n < length places → range_of places ≡ both (line_number (take n places)) (line_number (drop 1 (drop n places)))
unfolding range_of
range-comma places n is within =
    let any : list_any is_comma places ≡ true = list_any-there is_comma places (rw (← is) within) in
    let behind : drop 1 (drop n places) ≡ drop (n + 1) places = drop-drop 1 n places in
    rw (any, behind, is) refl

pub range-single : (places : List ℕ) (n : ℕ) → n ≡ position_or_len is_comma places → length places ≤ n → range_of places ≡ both (line_number places) (line_number places)
unfolding range_of
range-single places n is none =
    let any : list_any is_comma places ≡ false = list_any-nowhere is_comma places (rw (← is) none) in
    rw any refl

pub ruleset ranges = (range-comma, range-single)
