use Rattle.std.proofs.Common.{◌≡◌, vec_len}
use Rattle.acquire.proofs.outside.methods_for.Given as goal

abbrev pub invariant-loop : goal.invariant-loop
invariant-loop g l = vec_len l.methods ≡ l.counter
