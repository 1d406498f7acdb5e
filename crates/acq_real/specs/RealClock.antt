-- What the system's clock shows.
use Rattle.std.specs.Prelude.{ℕ, ℤ, Option}
use Rattle.acq_real.specs.declared.clock.RealClock.{RealClock}

abbrev pub given_by : {R : Type 0} → RealClock R → ℕ
given_by clock = clock.given

abbrev pub last_of : {R : Type 0} → RealClock R → Option ℤ
last_of clock = clock.last
