-- Whether a Release's dates allow it (Debian repository format, "Date, Valid-Until"; apt.conf(5), "Acquire::Min-ValidTime",
-- "Acquire::Max-ValidTime", "Acquire::Max-FutureTime"). All sums are of whole numbers without bound.
use Rattle.std.specs.Prelude.{◌≡◌, ℕ, ◌==◌, if◌then◌else◌, Option, Some, None, Result, Ok, Err, ℤ, pos, ◌+ℤ◌, ◌<ℤ◌, int_lt}
use Rattle.std.specs.Int.{int_min, int_max}
use Rattle.acq_base.specs.declared.settings.Dates.{Dates}
use Rattle.release_file.specs.declared.release.Release.{Release}
use Rattle.release_file.specs.declared.judging.DateError.{DateError}
use Rattle.release_file.specs.declared.judging.DateError.TheVariants.{Expired, Future, Older}

-- a given end holds for at least `min` seconds from the date on
unfoldable pub at_least : ℤ → ℕ → Option ℤ → Option ℤ
at_least date min None = None
at_least date min (Some until) = Some (if min == 0 then until else int_max until (date +ℤ pos min))

-- no Release holds for more than `max` seconds from its date on
unfoldable pub at_most : ℤ → ℕ → Option ℤ → Option ℤ
at_most date max None = if max == 0 then None else Some (date +ℤ pos max)
at_most date max (Some end) = Some (if max == 0 then end else int_min end (date +ℤ pos max))

-- the last second at which the Release is valid, if there is one
unfoldable pub end_of_validity : Release → Dates → Option ℤ
end_of_validity release dates = at_most release.date dates.max (at_least release.date dates.min release.until)

-- the moment is past the end of validity
abbrev pub IsExpired : Release → Dates → ℤ → Type 0
IsExpired release dates now = (end : ℤ) × (end_of_validity release dates ≡ Some end) × (end <ℤ now)

-- the Release is dated further ahead of the moment than is allowed
abbrev pub IsFuture : Release → Dates → ℤ → Type 0
IsFuture release dates now = (now +ℤ pos dates.future) <ℤ release.date

-- the installed Release has a later date
abbrev pub IsOlder : Release → Option ℤ → Type 0
IsOlder release installed = (date : ℤ) × (installed ≡ Some date) × (release.date <ℤ date)

abbrev pub IsAdmissible : Release → Option ℤ → Dates → ℤ → Type 0
IsAdmissible release installed dates now =
    (¬ (IsExpired release dates now)) × (¬ (IsFuture release dates now)) × (¬ (IsOlder release installed))

unfoldable pub judged_end : Option ℤ → ℤ → Result (Unit {0}) DateError
judged_end None now = Ok tt
judged_end (Some end) now = if int_lt end now then Err (Expired end) else Ok tt

unfoldable pub judged_date : ℤ → ℕ → ℤ → Result (Unit {0}) DateError
judged_date date future now = if int_lt (now +ℤ pos future) date then Err (Future date) else Ok tt

unfoldable pub judged_age : ℤ → Option ℤ → Result (Unit {0}) DateError
judged_age date None = Ok tt
judged_age date (Some installed) = if int_lt date installed then Err (Older date) else Ok tt

abbrev pub unless_refused : Result (Unit {0}) DateError → Result (Unit {0}) DateError → Result (Unit {0}) DateError
unless_refused (Ok _) next = next
unless_refused (Err refusal) next = Err refusal

-- the first of the three refusals that holds, or none
unfoldable pub judged : Release → Option ℤ → Dates → ℤ → Result (Unit {0}) DateError
judged release installed dates now =
    unless_refused (judged_end (end_of_validity release dates) now) (unless_refused (judged_date release.date dates.future now) (judged_age release.date installed))

abbrev pub refusal_number : DateError → ℕ
refusal_number (Expired end) = 13
refusal_number (Future date) = 14
refusal_number (Older date) = 15
