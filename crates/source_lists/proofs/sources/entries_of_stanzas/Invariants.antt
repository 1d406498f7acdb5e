-- The entries so far, and those of the stanzas that are left.
use Rattle.std.proofs.Common.{◌≡◌, drop}
use Rattle.std.specs.List.{All}
use Rattle.source_lists.specs.Sound.{IsSound}
use Rattle.source_lists.specs.Stanzas.{stanza_entries}
use Rattle.source_lists.specs.Steps.{each}
use Rattle.source_lists.specs.Texts.{all_entries}
use Rattle.source_lists.proofs.Loops.{with_entries}
use Rattle.source_lists.proofs.sources.entries_of_stanzas.Given as goal

abbrev pub invariant-loop-stanza : goal.invariant-loop-stanza
invariant-loop-stanza l = record {
  read : all_entries (stanza_entries l.file l.arch) l.stanzas ≡ with_entries l.entries (each (stanza_entries l.file l.arch) (drop l.stanza-index l.stanzas));
  sound : All IsSound l.entries;
}
