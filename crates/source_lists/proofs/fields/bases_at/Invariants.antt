-- The URIs so far, and those of the words that are left.
use Rattle.std.proofs.Common.{◌≡◌, drop}
use Rattle.std.specs.List.{All}
use Rattle.source_lists.specs.Sound.{IsReadBase}
use Rattle.source_lists.specs.Steps.{each}
use Rattle.source_lists.specs.Values.{base_at}
use Rattle.source_lists.proofs.Loops.{with_front}
use Rattle.source_lists.proofs.fields.bases_at.Given as goal

abbrev pub invariant-loop-word : goal.invariant-loop-word
invariant-loop-word l = record {
  read : each (base_at l.at) l.words ≡ with_front l.bases (each (base_at l.at) (drop l.word-index l.words));
  sound : All IsReadBase l.bases;
}
