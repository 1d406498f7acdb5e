-- The days of the calendar in seconds, by jiff's dates and lengths.
use Rattle.std.proofs.Common.{◌≡◌, ◌∙◌, ℕ, ◌<◌, ◌≤◌, ◌&&◌, nat_le, ℤ, pos, negsuc, ◌-ℤ◌, ◌*ℤ◌, Some, None, refl, ap, inl, inr, arith, int_div}
use Rattle.std.proofs.lemmas.Bool.{cases_Bool}
use Rattle.std.proofs.lemmas.Bool.Decides.{nat_tests}
use Rattle.std.specs.Int.{IsInRange}
use Rattle.jiff.proofs.Family.{epoch_day_range}
use Rattle.jiff.proofs.SpanFacts.{signed_arith}
use Rattle.jiff.specs.Types.{Date}
use Rattle.jiff.specs.Words.{epoch_day, days_in_month, IsDate, IsYmd, IsWithin}
use Rattle.jiff_core.specs.Calendar.{days_from_civil}
use Rattle.release_file.specs.DateText.{day_of}

-- a length of whole days in seconds
seconds_of_days : (days : ℤ) → int_div (days *ℤ pos 86_400_000_000_000) (pos 1_000_000_000) ≡ days *ℤ pos 86_400
seconds_of_days (pos days) = omega (arith, signed_arith)
seconds_of_days (negsuc days) = omega (arith, signed_arith)

-- the day from which days are counted
first_day : days_from_civil (pos 1970) 1 1 ≡ pos 0
unfolding days_from_civil
first_day = omega (arith, signed_arith)

epoch_is : (epoch : Date) → IsYmd (pos 1970) (pos 1) (pos 1) epoch → epoch_day epoch ≡ pos 0
epoch_is epoch h =
    let m : epoch.month ≡ 1 = omega (arith, signed_arith) in
    let d : epoch.day ≡ 1 = omega (arith, signed_arith) in
    rw (h.0, m, d) first_day

minus_zero : (a b : ℤ) → b ≡ pos 0 → a -ℤ b ≡ a
minus_zero a b e = rw e (omega (arith, signed_arith))

-- the length from that day to a date, in seconds
pub seconds_of_date : (date epoch : Date) (nanos seconds : ℤ) → IsYmd (pos 1970) (pos 1) (pos 1) epoch → nanos ≡ (epoch_day date -ℤ epoch_day epoch) *ℤ pos 86_400_000_000_000 → seconds ≡ int_div nanos (pos 1_000_000_000) → seconds ≡ epoch_day date *ℤ pos 86_400
seconds_of_date date epoch nanos seconds h n s =
    let days = minus_zero (epoch_day date) (epoch_day epoch) (epoch_is epoch h) in
    s ∙ ap (λ z. int_div z (pos 1_000_000_000)) (n ∙ ap (λ z. z *ℤ pos 86_400_000_000_000) days) ∙ seconds_of_days (epoch_day date)

pub seconds_within : (date : Date) (seconds : ℤ) → seconds ≡ epoch_day date *ℤ pos 86_400 → IsWithin 400_000_000_000 seconds
seconds_within date seconds e =
    let range = epoch_day_range date in
    (omega (arith, signed_arith), omega (arith, signed_arith))

-- a date that is there is that day
there : (y : ℤ) (m d year month day : ℕ) → y ≡ pos year → m ≡ month → d ≡ day → IsInRange 1 (days_in_month y m) d → Some (days_from_civil y m d *ℤ pos 86_400) ≡ day_of year month day
unfolding day_of
there y m d year month day e f g h =
    let range : IsInRange 1 (days_in_month (pos year) month) day = rw (e, f, g) at h in
    rw (e, f, g) (grind (arith, nat_tests))

pub day_of-date : (date : Date) (year month day : ℕ) (seconds : ℤ) → date.year ≡ pos year → date.month ≡ month → date.day ≡ day → seconds ≡ epoch_day date *ℤ pos 86_400 → Some seconds ≡ day_of year month day
day_of-date date year month day seconds y m d s =
    ap (λ z. Some z) s ∙ there date.year date.month date.day year month day y m d date.day_in

-- the day isn't there where jiff has no such date
pub day_of-none : (year month day : ℕ) → year < 10000 → IsInRange 1 12 month → (IsDate (pos year) (pos month) (pos day) → ⊥) → None ≡ day_of year month day
unfolding day_of
day_of-none year month day few range absent =
    elim (cases_Bool (nat_le 1 day && nat_le day (days_in_month (pos year) month))) [
      | inl is ↦
          let first : 1 ≤ day = grind (arith, nat_tests) in
          let last : day ≤ days_in_month (pos year) month = grind (arith, nat_tests) in
          absurd (absent ((omega (arith, signed_arith), omega (arith, signed_arith)), (omega (arith, signed_arith), omega (arith, signed_arith)), (omega (arith, signed_arith), omega (arith, signed_arith))))
      | inr isnt ↦ rw isnt refl
    ]
