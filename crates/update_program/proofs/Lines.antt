-- Lines of faults.
use Rattle.std.proofs.Common.{◌≡◌, true, Some, refl}
use Rattle.report_text.specs.Faults.{fault_text, fixed_text}
use Rattle.report_text.specs.declared.fault.FaultLine.{FaultLine}
use Rattle.report_text.specs.declared.fault.FaultLine.TheVariants.{Words, Conf, Clash, TooMany, LongName, Journal, Disk, Memory, Held, Etc, Download, Port}
use Rattle.update_program.specs.Said.{is_bare}

-- a line that has nothing to name is there without memory
pub bare_is_fixed : (fault : FaultLine) → is_bare fault ≡ true → fixed_text fault ≡ Some (fault_text fault)
unfolding fixed_text fault_text
bare_is_fixed Words is = refl
bare_is_fixed (Conf file number line) is = absurd cc
bare_is_fixed (Clash first first_line second second_line) is = absurd cc
bare_is_fixed TooMany is = refl
bare_is_fixed (LongName name) is = absurd cc
bare_is_fixed (Journal at) is = absurd cc
bare_is_fixed Disk is = refl
bare_is_fixed Memory is = refl
bare_is_fixed Held is = refl
bare_is_fixed Etc is = refl
bare_is_fixed (Download number name version) is = absurd cc
bare_is_fixed Port is = refl
