-- What a wire keeps, as contracts see it.
use Rattle.std.specs.Prelude.{ℕ, Bool, false, List, Option, Some, None}
use Rattle.http_wire.specs.declared.ending.Response.{Response}
use Rattle.http_wire.specs.declared.ending.Response.TheVariants.{Served, Absent, Moved, TooBig, Garbled}
use Rattle.http_wire.specs.declared.ending.State.{State}
use Rattle.http_wire.specs.declared.ending.State.TheVariants as states
use Rattle.http_wire.specs.declared.phase.Phase.{Phase}

-- The limits of the request; how many bytes came, and the place of the first that isn't read whole, both of which stand
-- at the greatest u64; where the body begins in the file, and where it has come to; the part that is being read, or how
-- the reading ended; that part's bytes, where it is of lines, how many of them are empty lines before a head, and whether
-- they end within a field's name, or within a value, so that further bytes of it need no reading; and the body's bytes that
-- weren't taken.
pub record WireState : Type 0 where
  pub max : ℕ
  pub from : ℕ
  pub count : ℕ
  pub place : ℕ
  pub start : ℕ
  pub keep : Bool
  pub reached : ℕ
  pub phase : Phase
  pub ending : Option Response
  pub part : List ℕ
  pub blank : ℕ
  pub named : Bool
  pub valued : Bool
  pub body : List ℕ

-- a connection isn't kept behind what isn't a whole body
abbrev pub state_of : Option Response → State
state_of None = states.More
state_of (Some (Served keep)) = states.Done keep
state_of (Some (Absent status)) = states.Done false
state_of (Some (Moved place)) = states.Done false
state_of (Some TooBig) = states.TooBig
state_of (Some (Garbled at)) = states.Garbled at
