-- The entries of the suites so far.
use Rattle.std.proofs.Common.{◌≡◌, ◌++◌, map, take}
use Rattle.source_lists.specs.Stanzas.{entry_for}
use Rattle.source_lists.proofs.stanza.add_suites.Given as goal

abbrev pub invariant-loop-suite : goal.invariant-loop-suite
invariant-loop-suite l = l.entries ≡ l.fn.entries ++ map (λ suite. entry_for l.file l.at l.stanza l.uri suite) (take l.suite-index l.suite-items)
