use Rattle.std.proofs.Common.{◌≡◌, nat_eq, false, arith}
use Rattle.std.proofs.lemmas.Bool.Decides.{nat_tests}
use Rattle.acq_memory.proofs.choice.take_or_leave.Goals as goal

pub returns : goal.returns
returns c = let other : nat_eq c.args.taken 0 ≡ false = grind (arith, nat_tests) in rw other c.in_ok-rename_one.ensures
