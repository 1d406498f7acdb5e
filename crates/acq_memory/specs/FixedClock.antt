-- What a clock of one moment shows.
use Rattle.std.specs.Prelude.{ℕ, ℤ, Option}
use Rattle.acq_memory.specs.declared.fixed_clock.FixedClock.{FixedClock}

abbrev pub moment_of : FixedClock → ℤ
moment_of clock = clock.moment

abbrev pub given_by : FixedClock → ℕ
given_by clock = clock.given

abbrev pub last_of : FixedClock → Option ℤ
last_of clock = clock.last
