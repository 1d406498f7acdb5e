use Rattle.std.proofs.Common.{◌≢◌, take, All}
use Rattle.release_file.proofs.date.place_of.Given as goal

abbrev pub invariant-loop-index : goal.invariant-loop-index
invariant-loop-index l = All (λ b. b ≢ l.byte) (take l.index l.text)
