-- What the system's answers mean.
use Rattle.std.specs.Prelude.{◌≡◌, ◌≢◌, ◌⊎◌, ℕ, ℤ, ◌-◌, ◌^◌, ◌/◌, min, pos, Option, Some, None, Result, Ok, Err}
use Rattle.std.specs.IoError.{error_kind}
use Rattle.std.specs.declared.io.Error.{Error}
use Rattle.std.specs.declared.io.ErrorKind.{ErrorKind}

-- the answer itself, but none for an error of this kind
abbrev pub IsUnless : {T : Type 0} → ErrorKind → Result T Error → Result (Option T) Error → Type 0
IsUnless kind (Ok value) result = result ≡ Ok (Some value)
IsUnless kind (Err error) result = ((error_kind error ≡ kind) × (result ≡ Ok None)) ⊎ ((error_kind error ≢ kind) × (result ≡ Err error))

-- whole seconds of these nanoseconds, at most the greatest i64
abbrev pub seconds_of : ℕ → ℤ
seconds_of nanos = pos (min (nanos / 1_000_000_000) (2 ^ 63 - 1))
