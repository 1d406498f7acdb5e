-- How a stream reads that begins with the text of a message.
use Rattle.std.specs.Prelude.{ℕ, ◌+◌, List, ◌∷◌, ◌++◌, length}
use Rattle.method_messages.specs.declared.message.Message.{Message}
use Rattle.method_messages.specs.declared.error.MessageError.{MessageError}
use Rattle.method_messages.specs.declared.error.MessageError.TheVariants.{BadMessage, TooLong, NoMemory}
use Rattle.method_messages.specs.Refused.{IsRefused}
use Rattle.method_messages.specs.Streams.{Unended, Reads, place}

-- so many bytes further on in the stream
abbrev pub unended_behind : ℕ → Unended → Unended
unended_behind n unended = record { begins = place (n + unended.begins); bytes = unended.bytes }

abbrev pub fault_behind : ℕ → MessageError → MessageError
fault_behind n (BadMessage at) = BadMessage (place (n + at))
fault_behind n (TooLong at) = TooLong (place (n + at))
fault_behind n NoMemory = NoMemory

-- Whatever follows the bytes, they are read as the message, and what follows as it is read by itself.
pub record ReadsAgain (bytes : List ℕ) (message : Message) : Type 0 where
  pub read : (more : List ℕ) (later : List Message) (rest : Unended) → Reads more later rest
      → Reads (bytes ++ more) (message ∷ later) (unended_behind (length bytes) rest)
  pub refused : (more : List ℕ) (fault : MessageError) → IsRefused more fault → IsRefused (bytes ++ more) (fault_behind (length bytes) fault)
