-- The words of the lines so far.
use Rattle.std.proofs.Common.{◌≡◌, take}
use Rattle.std.specs.List.{flat_map}
use Rattle.acq_base.specs.Words.{is_blank, words}
use Rattle.source_lists.proofs.fields.line_words.Given as goal

abbrev pub invariant-loop-line : goal.invariant-loop-line
invariant-loop-line l = l.found.items ≡ flat_map (words is_blank) (take l.line-index l.lines)
