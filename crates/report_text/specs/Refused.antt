-- The line that stands in place of a report where a configuration is refused.
use Rattle.configuration.specs.declared.error.ConfigurationError.{ConfigurationError}
use Rattle.configuration.specs.declared.error.ConfigurationError.TheVariants as refusal
use Rattle.report_text.specs.declared.fault.FaultLine.{FaultLine}
use Rattle.report_text.specs.declared.fault.FaultLine.TheVariants.{Conf, Clash, TooMany, LongName, Memory, Etc}

abbrev pub line_of : ConfigurationError → FaultLine
line_of (refusal.Conf file number line) = Conf file number line
line_of (refusal.LongName name) = LongName name
line_of (refusal.Clash first second) = Clash first.file first.line second.file second.line
line_of refusal.TooMany = TooMany
line_of refusal.Fault = Etc
line_of refusal.NoMemory = Memory
