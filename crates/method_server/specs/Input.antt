-- The messages of an input, and where it breaks off.
use Rattle.std.specs.Prelude.{◌≡◌, ◌⊎◌, ℕ, List, Option, Some}
use Rattle.method_messages.specs.declared.message.Message.{Message}
use Rattle.method_messages.specs.Refused.{IsBad, IsTooLong}
use Rattle.method_messages.specs.Streams.{Unended, Reads, begun_at}

-- behind these messages the stream is refused, for the message that begins here
abbrev pub IsRefusedBehind : List ℕ → List Message → ℕ → Type 0
IsRefusedBehind bytes messages at = ((is : IsBad bytes at) × (is.messages ≡ messages)) ⊎ ((is : IsTooLong bytes at) × (is.messages ≡ messages))

-- These messages have ended in the input. Behind them it ends, or else there is a place at which a message begins that hasn't
-- ended or is refused.
pub data Input (bytes : List ℕ) (messages : List Message) (broken : Option ℕ) : Type 0 where
  Ended : (rest : Unended) → Reads bytes messages rest → begun_at rest ≡ broken → Input bytes messages broken
  Refused : (at : ℕ) → IsRefusedBehind bytes messages at → broken ≡ Some at → Input bytes messages broken
