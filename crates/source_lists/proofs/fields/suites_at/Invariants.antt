-- The suites so far, and those of the words that are left.
use Rattle.std.proofs.Common.{◌≡◌, drop}
use Rattle.source_lists.specs.Steps.{each}
use Rattle.source_lists.specs.Values.{suite_at}
use Rattle.source_lists.proofs.Loops.{with_front}
use Rattle.source_lists.proofs.fields.suites_at.Given as goal

abbrev pub invariant-loop-word : goal.invariant-loop-word
invariant-loop-word l = each (suite_at l.arch l.at) l.words ≡ with_front l.suites (each (suite_at l.arch l.at) (drop l.word-index l.words))
