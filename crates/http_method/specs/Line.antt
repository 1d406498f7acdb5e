-- What a link tells of its connection, and what its calls make of that.
use Rattle.std.specs.Prelude.{◌≡◌, ℕ, List, Option, Some, IfSome, option_map}
use Rattle.acq_base.specs.Mirror.{MirrorMap}
use Rattle.acq_net.specs.declared.link.Link.{Ghosts}
use Rattle.acq_net.specs.Due.{Came, Due, Owes, fresh}
use Rattle.acq_net.specs.Talk.{Talk, receives, sends, silent}

-- what was said on it; the mirror that the link stands for, if it does; and what is due of that
pub record Line : Type 0 where
  pub talk : Option Talk
  pub world : Option MirrorMap
  pub due : Option Due

abbrev pub line_of : {L : Type 0} → Ghosts L → L → Line
line_of g link = record { talk = g.talk link; world = g.world link; due = g.due link }

-- a new connection to that host and port
pub record Connects (host : List ℕ) (port : ℕ) (old new : Line) : Type 0 where
  pub talk : new.talk ≡ option_map (λ _. silent) old.talk
  pub world : new.world ≡ old.world
  pub due : IfSome old.world (λ _. new.due ≡ Some (fresh host port))

-- these bytes were sent
pub record Sends (bytes : List ℕ) (old new : Line) : Type 0 where
  pub talk : new.talk ≡ option_map (sends bytes) old.talk
  pub world : new.world ≡ old.world
  pub owes : IfSome old.world (λ entries. Owes entries bytes old.due new.due)

-- these bytes were received, or the peer's end, where there are none
pub record Gets (bytes : List ℕ) (old new : Line) : Type 0 where
  pub talk : new.talk ≡ option_map (receives bytes) old.talk
  pub world : new.world ≡ old.world
  pub came : IfSome old.due (λ due. Came bytes due new.due)
