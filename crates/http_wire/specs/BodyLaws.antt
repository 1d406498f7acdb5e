-- What holds of the bodies that are heard.
use Rattle.std.specs.Prelude.{◌≡◌, ◌⊎◌, ℕ, ◌+◌, ◌≤◌, Bool, true, false, List, [], ◌++◌, length, Option, Some, None}
use Rattle.http_wire.specs.declared.ending.Response.{Response}
use Rattle.http_wire.specs.declared.ending.Response.TheVariants.{Served, Garbled}
use Rattle.http_wire.specs.Stream.{Heard}

-- a body may be heard there
abbrev pub bears_body : Option Response → Bool
bears_body None = true
bears_body (Some (Served keep)) = true
bears_body (Some (Garbled at)) = true
bears_body _ = false

-- A body begins at the byte of the file that was asked for and stays within the limit; behind another answer there is none.
pub record Fits (max from : ℕ) (heard : Heard) : Type 0 where
  pub begins : (heard.body ≡ []) ⊎ (heard.start ≡ from)
  pub within : (heard.body ≡ []) ⊎ (heard.start + length heard.body ≤ max)
  pub bare : bears_body heard.ending ≡ false → heard.body ≡ []

-- the later body goes on where the earlier one ends, by bytes that came since
pub record Grows (earlier later : Heard) (more : List ℕ) : Type 0 where
  pub tail : List ℕ
  pub is : later.body ≡ earlier.body ++ tail
  pub few : length tail ≤ length more
