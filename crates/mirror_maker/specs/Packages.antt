-- The packages of a source, as they are drawn.
use Rattle.std.specs.Prelude.{ℕ, zero, suc, ◌+◌, List, [], ◌∷◌}
use Rattle.mirror_maker.specs.Draws.{drawn, next}
use Rattle.mirror_maker.specs.declared.packages.Package.{Package}

-- so many packages from a state on: of each its version, and then its size
unfoldable pub packages : ℕ → ℕ → List Package
packages zero state = []
packages (suc count) state = record { version = drawn state 1000; size = drawn (next state) 1000000 } ∷ packages count (next (next state))

-- and the state behind them
unfoldable pub behind : ℕ → ℕ → ℕ
behind zero state = state
behind (suc count) state = behind count (next (next state))

-- how many packages a source has, which is drawn first
abbrev pub count_from : ℕ → ℕ
count_from state = 2000 + drawn state 8000

-- what a source has from a state on
unfoldable pub packages_from : ℕ → List Package
packages_from state = packages (count_from state) (next state)

unfoldable pub after_source : ℕ → ℕ
after_source state = behind (count_from state) (next state)
