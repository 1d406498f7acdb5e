-- What the peers of connections in memory say, and what was heard of them.
use Rattle.std.specs.Prelude.{ℕ, false, ◌||◌, if◌then◌else◌, List, [], ◌∷◌, ◌++◌}
use Rattle.std.specs.List.{flat_map}
use Rattle.acq_net.specs.Talk.{Talk, is_none}
use Rattle.acq_net.specs.declared.script.FromPeer.{FromPeer}
use Rattle.acq_net.specs.declared.script.Script.{Script}

-- the bytes of pieces, one after another
abbrev pub bytes_of : List (List ℕ) → List ℕ
bytes_of pieces = flat_map (λ piece. piece) pieces

-- what the peer of the present connection has still to say
abbrev pub to_come : Script → List ℕ
to_come script = bytes_of script.pieces.items

-- the first of its pieces that has a byte
abbrev pub front_piece : List (List ℕ) → List ℕ
front_piece [] = []
front_piece (piece ∷ pieces) = if is_none piece then front_piece pieces else piece

abbrev pub next_piece : Script → List ℕ
next_piece script = front_piece script.pieces.items

-- what the peers of the connections to come say
abbrev pub waiting : Script → List (List (List ℕ))
waiting script = script.connections.items

-- the first, or nothing
abbrev pub first_of : List (List (List ℕ)) → List (List ℕ)
first_of [] = []
first_of (row ∷ rows) = row

abbrev pub later_of : List (List (List ℕ)) → List (List (List ℕ))
later_of [] = []
later_of (row ∷ rows) = rows

-- nothing was heard yet
abbrev pub unheard : FromPeer
unheard = record { received = []; ended = false }

-- these bytes were heard; none are the peer's end
abbrev pub hears : List ℕ → FromPeer → FromPeer
hears bytes heard = record { received = heard.received ++ bytes; ended = heard.ended || is_none bytes }

-- what was said on a connection, as the bytes sent and what was heard
abbrev pub talk_with : List ℕ → FromPeer → Talk
talk_with sent heard = record { sent = sent; received = heard.received; ended = heard.ended }
