-- The pairs of the options so far stand behind those from before.
use Rattle.std.proofs.Common.{take}
use Rattle.configuration.specs.Configured.{option_pair}
use Rattle.configuration.proofs.Parts.{Said}
use Rattle.configuration.proofs.conf.add_options.Given as goal

abbrev pub invariant-loop-option : goal.invariant-loop-option
invariant-loop-option l = Said option_pair (take l.option-index l.options) l.fn.conf l.conf
