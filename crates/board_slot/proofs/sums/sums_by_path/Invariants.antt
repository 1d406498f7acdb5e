use Rattle.std.proofs.Common.{◌≡◌, ◌≤◌, ℕ, List, length, drop}
use Rattle.std.specs.BTreeMap.{get}
use Rattle.std.specs.Cmp.Lexicographic.{slice_cmp}
use Rattle.std.specs.Ordering.{nat_cmp}
use Rattle.release_file.specs.Release.{sum_in}
use Rattle.board_slot.proofs.sums.sums_by_path.Given as goal

-- the sums of the files from the place on are in the map
abbrev pub invariant-loop-at : goal.invariant-loop-at
invariant-loop-at l = record {
  within : l.at ≤ length l.files;
  same : (path : List ℕ) → get (slice_cmp nat_cmp) l.sums path ≡ sum_in (drop l.at l.files) path;
}

abbrev pub decreases-loop-at : goal.decreases-loop-at
decreases-loop-at l = l.at
