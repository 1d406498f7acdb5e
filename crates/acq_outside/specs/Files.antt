-- Files that are written by name, and what a put does to them, where they are told.
use Rattle.std.specs.Prelude.{◌≡◌, ◌⊎◌, ℕ, List, [], ◌++◌, length, take, Option, Some, option_map, unwrap_or}
use Rattle.acq_outside.specs.Disk.{Files, with_file}

-- a put begins its file, or goes on at its end
abbrev pub CanPut : Files → List ℕ → ℕ → Type 0
CanPut files name at = (at ≡ 0) ⊎ (option_map length (files name) ≡ Some at)

-- a file's first `at` bytes and these behind them under its name; no other file changes
abbrev pub after_put : Files → List ℕ → ℕ → List ℕ → Files
after_put files name at bytes = with_file files name (Some (take at (unwrap_or (files name) []) ++ bytes))

-- after a put, all bytes are there
abbrev pub Put : Option Files → List ℕ → ℕ → List ℕ → Option Files → Type 0
Put before name at bytes after = after ≡ option_map (λ files. after_put files name at bytes) before

-- after a put that failed nothing has changed, or a prefix of the bytes is there
abbrev pub PutPart : Option Files → List ℕ → ℕ → List ℕ → Option Files → Type 0
PutPart before name at bytes after = (after ≡ before) ⊎ ((n : ℕ) × Put before name at (take n bytes) after)
