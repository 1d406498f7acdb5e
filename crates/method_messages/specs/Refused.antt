-- Why a stream of messages is refused: in terms of all its bytes.
use Rattle.std.specs.Prelude.{◌≡◌, ℕ, ◌+◌, ◌<◌, ◌≤◌, true, false, List, ◌∷◌, ◌++◌, length}
use Rattle.std.specs.List.{list_all}
use Rattle.method_messages.specs.declared.message.Message.{Message}
use Rattle.method_messages.specs.declared.error.MessageError.{MessageError}
use Rattle.method_messages.specs.declared.error.MessageError.TheVariants.{BadMessage, TooLong, NoMemory}
use Rattle.method_messages.specs.Lines.{is_line, ended, can_begin, may_follow}
use Rattle.method_messages.specs.Streams.{AreMessages, IsOpen, place}

-- Behind whole messages one begins here, and the next of its lines that ends may not stand there. With it the message has at most
-- 65,536 bytes.
pub record IsBad (stream : List ℕ) (at : ℕ) : Type 0 where
  pub front : List ℕ
  pub messages : List Message
  pub lines : List (List ℕ)
  pub line : List ℕ
  pub behind : List ℕ
  pub split : stream ≡ front ++ (ended lines ++ (line ++ 10 ∷ behind))
  pub before : AreMessages front messages
  pub plain : list_all is_line lines ≡ true
  pub sound : can_begin lines ≡ true
  pub own : is_line line ≡ true
  pub some : 0 < length line
  pub refused : may_follow lines line ≡ false
  pub short : length (ended lines) + length line < 65536
  pub begins : at ≡ place (length front)

-- Behind whole messages one begins here, of which at least 65,536 bytes have come without its end.
pub record IsTooLong (stream : List ℕ) (at : ℕ) : Type 0 where
  pub front : List ℕ
  pub messages : List Message
  pub text : List ℕ
  pub behind : List ℕ
  pub split : stream ≡ front ++ (text ++ behind)
  pub before : AreMessages front messages
  pub goes_on : IsOpen text
  pub long : 65536 ≤ length text
  pub begins : at ≡ place (length front)

abbrev pub IsRefused : List ℕ → MessageError → Type 0
IsRefused stream (BadMessage at) = IsBad stream at
IsRefused stream (TooLong at) = IsTooLong stream at
IsRefused stream NoMemory = ⊥

abbrev pub refusal_number : MessageError → ℕ
refusal_number (BadMessage at) = 29
refusal_number (TooLong at) = 30
refusal_number NoMemory = 0
