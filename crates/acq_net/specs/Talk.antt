-- What is said on a connection.
use Rattle.std.specs.Prelude.{◌≡◌, ℕ, Bool, true, false, ◌||◌, List, [], ◌∷◌, ◌++◌, Option, option_map}

-- the bytes sent and received on it, and whether a `receive` gave 0, which is the peer's end
pub record Talk : Type 0 where
  pub sent : List ℕ
  pub received : List ℕ
  pub ended : Bool

-- nothing was said yet
abbrev pub silent : Talk
silent = record { sent = []; received = []; ended = false }

-- these bytes were sent
abbrev pub sends : List ℕ → Talk → Talk
sends bytes talk = record { sent = talk.sent ++ bytes; received = talk.received; ended = talk.ended }

abbrev pub is_none : List ℕ → Bool
is_none [] = true
is_none (byte ∷ bytes) = false

-- these bytes were received; none are the peer's end
abbrev pub receives : List ℕ → Talk → Talk
receives bytes talk = record { sent = talk.sent; received = talk.received ++ bytes; ended = talk.ended || is_none bytes }

-- a front of these bytes was sent
pub record SendsPart (bytes : List ℕ) (before after : Option Talk) : Type 0 where
  pub front : List ℕ
  pub rest : List ℕ
  pub is : bytes ≡ front ++ rest
  pub sent : after ≡ option_map (sends front) before

-- bytes were received, and no end was heard
abbrev pub adds : List ℕ → Talk → Talk
adds bytes talk = record { sent = talk.sent; received = talk.received ++ bytes; ended = talk.ended }

-- what was received is what was received before, and maybe more
pub record ReceivesPart (before after : Option Talk) : Type 0 where
  pub bytes : List ℕ
  pub received : after ≡ option_map (adds bytes) before
