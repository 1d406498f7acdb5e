-- Numbers drawn one after another.
use Rattle.std.specs.Prelude.{ℕ, ◌+◌, ◌*◌, ◌/◌, ◌%◌, ◌^◌}

-- the state behind a state: a linear congruential generator modulo 2^64
unfoldable pub next : ℕ → ℕ
next state = (state * 6364136223846793005 + 1442695040888963407) % 2 ^ 64

-- what is drawn at a state: the high half of the next one, modulo the bound
abbrev pub drawn : ℕ → ℕ → ℕ
drawn state below = (next state / 2 ^ 32) % below
