use Rattle.std.proofs.Common.{◌≡◌, drop}
use Rattle.release_file.specs.Release.{sum_in}
use Rattle.release_file.proofs.sums.find_sum.Given as goal

abbrev pub invariant-loop-listed : goal.invariant-loop-listed
invariant-loop-listed l = sum_in (drop l.listed-index l.files) l.path ≡ sum_in l.files l.path
