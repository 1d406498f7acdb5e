use Rattle.std.specs.BTreeMap.{get}
use Rattle.std.specs.Cmp.Lexicographic.{slice_cmp}
use Rattle.std.specs.Ordering.{nat_cmp}
use Rattle.release_file.proofs.SumLines.{IsReadTo}
use Rattle.release_file.proofs.sums.line_files.Given as goal

abbrev pub invariant-loop-line : goal.invariant-loop-line
invariant-loop-line l = IsReadTo l.fn.at l.lines l.line-index l.at l.files (get (slice_cmp nat_cmp) l.sums)
