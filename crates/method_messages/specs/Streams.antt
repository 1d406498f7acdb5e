-- What a stream of messages holds (APT's method interface). Every definition is of all its bytes together.
use Rattle.std.specs.Prelude.{◌≡◌, ℕ, ◌-◌, ◌^◌, ◌<◌, ◌≤◌, min, true, List, [], ◌∷◌, ◌++◌, length, Option, Some, None}
use Rattle.std.specs.List.{list_all}
use Rattle.method_messages.specs.declared.message.Message.{Message}
use Rattle.method_messages.specs.Lines.{is_feed, is_line, ended, can_begin, message_in}

-- The text is that of a whole message, which has at most 65,536 bytes.
pub record IsMessage (text : List ℕ) (message : Message) : Type 0 where
  pub first : List ℕ
  pub fields : List (List ℕ)
  pub split : text ≡ ended (first ∷ fields) ++ 10 ∷ []
  pub plain : list_all is_line (first ∷ fields) ≡ true
  pub sound : can_begin (first ∷ fields) ≡ true
  pub says : message ≡ message_in first fields
  pub short : length text ≤ 65536

-- The text is of these messages, with empty lines before, between and behind them.
abbrev pub AreMessages : List ℕ → List Message → Type 0
AreMessages text [] = list_all is_feed text ≡ true
AreMessages text (message ∷ messages) =
    (feeds : List ℕ) × (own : List ℕ) × (more : List ℕ) × (text ≡ feeds ++ (own ++ more))
    × (list_all is_feed feeds ≡ true) × IsMessage own message × AreMessages more messages

-- A message can go on behind the text: each line of it that has ended may stand where it does. None has begun where it is empty.
pub record IsOpen (text : List ℕ) : Type 0 where
  pub lines : List (List ℕ)
  pub line : List ℕ
  pub split : text ≡ ended lines ++ line
  pub plain : list_all is_line lines ≡ true
  pub sound : can_begin lines ≡ true
  pub own : is_line line ≡ true

-- what of a stream is still open: where it begins in the stream, and its bytes
pub record Unended : Type 0 where
  pub begins : ℕ
  pub bytes : List ℕ

-- a place as 64 bits tell it
abbrev pub place : ℕ → ℕ
place n = min n (2 ^ 64 - 1)

-- These messages of the stream have ended, and this is open behind them.
pub record Reads (stream : List ℕ) (messages : List Message) (unended : Unended) : Type 0 where
  pub front : List ℕ
  pub split : stream ≡ front ++ unended.bytes
  pub before : AreMessages front messages
  pub goes_on : IsOpen unended.bytes
  pub short : length unended.bytes < 65536
  pub begins : unended.begins ≡ place (length front)

-- a place, if something stands there
abbrev pub place_if : List ℕ → ℕ → Option ℕ
place_if [] begins = None
place_if (c ∷ bytes) begins = Some begins

-- where a message that has begun begins
abbrev pub begun_at : Unended → Option ℕ
begun_at unended = place_if unended.bytes unended.begins
