-- The entries so far, and those of the lines that are left.
use Rattle.std.proofs.Common.{◌≡◌, ◌+◌, ◌≤◌, length}
use Rattle.std.specs.List.{All}
use Rattle.std.specs.Str.Lines.{lines as text_lines}
use Rattle.source_lists.specs.OneLine.{line_entries}
use Rattle.source_lists.specs.Sound.{IsSound}
use Rattle.source_lists.specs.Steps.{each}
use Rattle.source_lists.specs.Texts.{all_entries, numbered_from, numbered_lines}
use Rattle.source_lists.proofs.Loops.{with_entries}
use Rattle.source_lists.proofs.one_line.read_lines.Given as goal

abbrev pub invariant-loop-rest : goal.invariant-loop-rest
invariant-loop-rest l = record {
  read : all_entries (line_entries l.file l.arch) (numbered_lines l.bytes)
      ≡ with_entries l.entries (each (line_entries l.file l.arch) (numbered_from (l.at + 1) (text_lines l.rest)));
  within : l.at + length l.rest ≤ length l.bytes;
  sound : All IsSound l.entries;
}

abbrev pub decreases-loop-rest : goal.decreases-loop-rest
decreases-loop-rest l = length l.rest
