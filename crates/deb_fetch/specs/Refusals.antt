-- The numbers of the refusals, and which refusal an outside object's failure is.
use Rattle.std.specs.Prelude.{ℕ}
use Rattle.acq_outside.specs.declared.fault.OutError.{OutError}
use Rattle.acq_outside.specs.declared.fault.OutError.TheVariants as outside
use Rattle.deb_fetch.specs.declared.error.DebError.{DebError}
use Rattle.deb_fetch.specs.declared.error.DebError.TheVariants.{NotListed, Several, DiskFault, NoMemory}

abbrev pub deb_error_of : OutError → DebError
deb_error_of outside.Fault = DiskFault
deb_error_of outside.NoMemory = NoMemory

abbrev pub refusal_number : DebError → ℕ
refusal_number (NotListed name) = 34
refusal_number (Several name) = 35
refusal_number DiskFault = 31
refusal_number NoMemory = 0
