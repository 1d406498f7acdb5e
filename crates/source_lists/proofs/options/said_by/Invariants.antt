-- What the words so far say, and what the rest says.
use Rattle.std.proofs.Common.{◌≡◌, drop}
use Rattle.source_lists.specs.OneLine.{options_at, choice_at}
use Rattle.source_lists.specs.Steps.{each}
use Rattle.source_lists.proofs.Choices.{with_options}
use Rattle.source_lists.proofs.options.said_by.Given as goal

abbrev pub invariant-loop-word : goal.invariant-loop-word
invariant-loop-word l = options_at l.at l.words ≡ with_options l.options (each (choice_at l.at) (drop l.word-index l.words))
