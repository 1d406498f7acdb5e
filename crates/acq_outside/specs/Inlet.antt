-- What is left of an input, where it tells.
use Rattle.std.specs.Prelude.{◌≡◌, ℕ, List, [], ◌++◌, Option, option_map, IfSome}

-- a read gave these bytes: they are the first of what was left, and what is left now comes behind them
abbrev pub Gave : Option (List ℕ) → List ℕ → Option (List ℕ) → Type 0
Gave before bytes after = before ≡ option_map (λ rest. bytes ++ rest) after

-- nothing is left
abbrev pub IsSpent : Option (List ℕ) → Type 0
IsSpent left = IfSome left (λ rest. rest ≡ [])
