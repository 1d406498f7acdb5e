-- The text of a date in a Release (Debian repository format, "Date, Valid-Until"; RFC 5322, section 3.3):
-- `[WORD, ]D MON YYYY hh:mm:ss ZONE`, with one space between each two of these.
use Rattle.std.specs.Prelude.{ℕ, ◌+◌, ◌*◌, ◌==◌, ◌&&◌, nat_le, bytes_eq, Bool, false, if◌then◌else◌, List, [], ◌∷◌, length, codes, Option, Some, None, option_and_then, ℤ, pos, ◌+ℤ◌, ◌*ℤ◌}
use Rattle.std.specs.List.{slice_split, list_all, list_any}
use Rattle.std.specs.Char.{is_ascii_digit, is_ascii_alphabetic}
use Rattle.std.specs.Str.Parse.{digits_value}
use Rattle.jiff.specs.Words.{days_in_month}
use Rattle.jiff_core.specs.Calendar.{days_from_civil}

infixl 10 ◌>>=◌
abbrev pub ◌>>=◌ : {A B : Type 0} → Option A → (A → Option B) → Option B
o >>= f = option_and_then f o

-- the parts between such bytes, each of which separates two parts
abbrev pub parts_at : ℕ → List ℕ → List (List ℕ)
parts_at byte text = slice_split (λ b. b == byte) text

-- three letters and a comma: a day of the week, which isn't compared
abbrev pub is_weekday : List ℕ → Bool
is_weekday (a ∷ b ∷ c ∷ d ∷ []) =
    is_ascii_alphabetic a && is_ascii_alphabetic b && is_ascii_alphabetic c && (d == 44)
is_weekday _ = false

abbrev pub without_weekday : List (List ℕ) → List (List ℕ)
without_weekday [] = []
without_weekday (part ∷ parts) = if is_weekday part then parts else part ∷ parts

-- the number that decimal digits write, from `least` to `most` of them
unfoldable pub number_of : ℕ → ℕ → List ℕ → Option ℕ
number_of least most text =
    if nat_le least (length text) && nat_le (length text) most && list_all is_ascii_digit text then Some (digits_value 10 text) else None

-- the place of a name among names that are counted from n
abbrev pub place_from : ℕ → List (List ℕ) → List ℕ → Option ℕ
place_from n [] text = None
place_from n (name ∷ names) text = if bytes_eq text name then Some n else place_from (n + 1) names text

-- the month of a name, from 1
unfoldable pub month_of : List ℕ → Option ℕ
month_of text =
    place_from 1 (codes "Jan" ∷ codes "Feb" ∷ codes "Mar" ∷ codes "Apr" ∷ codes "May" ∷ codes "Jun" ∷ codes "Jul" ∷ codes "Aug" ∷ codes "Sep" ∷ codes "Oct" ∷ codes "Nov" ∷ codes "Dec" ∷ []) text

-- the names of the one zone that is taken
unfoldable pub is_zone : List ℕ → Bool
is_zone text =
    list_any (bytes_eq text) (codes "UTC" ∷ codes "GMT" ∷ codes "Z" ∷ codes "+0000" ∷ codes "-0000" ∷ [])

-- the beginning of a day that is there, in seconds since 1970-01-01 00:00:00, by the proleptic Gregorian calendar
unfoldable pub day_of : ℕ → ℕ → ℕ → Option ℤ
day_of year month day =
    if nat_le 1 day && nat_le day (days_in_month (pos year) month) then Some (days_from_civil (pos year) month day *ℤ pos 86_400) else None

unfoldable pub day_of_texts : List ℕ → List ℕ → List ℕ → Option ℤ
day_of_texts day month year = do
  d ← number_of 1 2 day
  m ← month_of month
  y ← number_of 4 4 year
  day_of y m d

-- the seconds since midnight, of a clock that shows 00:00:00 to 23:59:59
unfoldable pub clock_of : ℕ → ℕ → ℕ → Option ℕ
clock_of hour minute second =
    if nat_le hour 23 && nat_le minute 59 && nat_le second 59 then Some (hour * 3600 + minute * 60 + second) else None

unfoldable pub clock_of_texts : List ℕ → List ℕ → List ℕ → Option ℕ
clock_of_texts hour minute second = do
  h ← number_of 2 2 hour
  m ← number_of 2 2 minute
  s ← number_of 2 2 second
  clock_of h m s

abbrev pub clock_of_parts : List (List ℕ) → Option ℕ
clock_of_parts (hour ∷ minute ∷ second ∷ []) = clock_of_texts hour minute second
clock_of_parts _ = None

-- the seconds since 1970-01-01 00:00:00 of a time of a day
unfoldable pub moment_of : Option ℤ → Option ℕ → Option ℤ
moment_of day clock = do
  d ← day
  c ← clock
  Some (d +ℤ pos c)

abbrev pub moment_of_parts : List (List ℕ) → Option ℤ
moment_of_parts (day ∷ month ∷ year ∷ time ∷ zone ∷ []) =
    if is_zone zone then moment_of (day_of_texts day month year) (clock_of_parts (parts_at 58 time)) else None
moment_of_parts _ = None

-- the moment that a date text names, in seconds since 1970-01-01 00:00:00 UTC
unfoldable pub date_of_text : List ℕ → Option ℤ
date_of_text text = moment_of_parts (without_weekday (parts_at 32 text))
