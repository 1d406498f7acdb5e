-- A product and a sum, each modulo 2^64, are one of both.
use Rattle.std.proofs.Common.{◌≡◌, ℕ, ◌+◌, ◌*◌, ◌%◌, ◌^◌}
use Rattle.std.proofs.Math.Nat.{mod-add-mod}
use Rattle.mirror_maker.specs.Draws.{next}

pub next_is : (state : ℕ) → (state * 6364136223846793005 % 2 ^ 64 + 1442695040888963407) % 2 ^ 64 ≡ next state
unfolding next
next_is state = mod-add-mod (state * 6364136223846793005) (2 ^ 64) 1442695040888963407
