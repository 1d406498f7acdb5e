-- What is read of a file at once.
use Rattle.std.specs.Prelude.{◌≡◌, ℕ, ◌≤◌, List, [], length, take, drop}

-- so many bytes of the file from a place on stand at the front of the room; none are its end
pub record IsPartRead (file : List ℕ) (at : ℕ) (room : List ℕ) (n : ℕ) : Type 0 where
  pub bytes : take n room ≡ take n (drop at file)
  pub within : n ≤ length (drop at file)
  pub ends : n ≡ 0 → drop at file ≡ []
