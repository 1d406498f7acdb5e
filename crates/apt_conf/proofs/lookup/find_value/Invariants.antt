use Rattle.std.specs.Option.{option_copied}
use Rattle.apt_conf.proofs.LookupLemmas.{IsFoundSoFar}
use Rattle.apt_conf.proofs.lookup.find_value.Given as goal

abbrev pub invariant-loop-entry : goal.invariant-loop-entry
invariant-loop-entry l = IsFoundSoFar l.entries l.entry-index l.key (option_copied l.found) l.matched l.length
