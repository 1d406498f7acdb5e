-- What a wire notes of where its text stops changes nothing else.
use Rattle.std.proofs.Common.{ℕ, Bool, false, List, ◌++◌, Option, Some, None}
use Rattle.http_wire.specs.declared.ending.Response.{Response}
use Rattle.http_wire.specs.declared.phase.Phase.{Phase}
use Rattle.http_wire.specs.declared.phase.Phase.TheVariants as phases
use Rattle.http_wire.specs.Plain.{IsPlain}
use Rattle.http_wire.specs.Stream.{Stage}
use Rattle.http_wire.specs.State.{WireState}
use Rattle.http_wire.specs.Wire.{InReach, Stands, IsAt, Follows}
use Rattle.http_wire.specs.Steps.{Moves, settled}
use Rattle.http_wire.proofs.Plain.{not_plain}

reach_so : (named valued : Bool) (w : WireState) (given : List ℕ) → InReach w given → InReach (settled named valued w) given
reach_so named valued w given r = record { is = r.is; within = r.within }

stands_so : (named valued : Bool) (w : WireState) (given : List ℕ) (p : Phase) (stage : Stage) (text : List ℕ) → IsPlain named valued w.part → Stands p w given stage text → Stands p (settled named valued w) given stage text
stands_so named valued w given (phases.Heads passed) stage text plain s = (s.0, s.1, s.2, s.3, s.4, s.5, plain)
stands_so named valued w given (phases.Counted left) stage text plain s = s
stands_so named valued w given phases.Unbounded stage text plain s = (s.0, s.1, reach_so named valued w given s.2)
stands_so named valued w given phases.SizeLine stage text plain s = (s.0, s.1, reach_so named valued w given s.2, s.3)
stands_so named valued w given (phases.Chunk left) stage text plain s = (s.0, s.1, s.2, s.3, reach_so named valued w given s.4)
stands_so named valued w given phases.ChunkCr stage text plain s = (s.0, s.1, reach_so named valued w given s.2)
stands_so named valued w given phases.ChunkLf stage text plain s = (s.0, s.1, reach_so named valued w given s.2)
stands_so named valued w given phases.Trailing stage text plain s = (s.0, s.1, s.2, plain)

settled_at : (named valued : Bool) (w : WireState) (given bytes : List ℕ) (ended : Bool) (e : Option Response) → IsPlain named valued w.part → IsAt e w given bytes ended → IsAt e (settled named valued w) given bytes ended
settled_at named valued w given bytes ended None plain at = (
  at.0,
  record {
    parts = at.1.parts;
    stage = at.1.stage;
    text = at.1.text;
    leads = at.1.leads;
    stands = stands_so named valued w given w.phase at.1.stage at.1.text plain at.1.stands;
    count = at.1.count;
    place = at.1.place;
  },
)
settled_at named valued w given bytes ended (Some how) plain at = record { heard = at.heard; is = at.is; ending = at.ending; start = at.start; holds = at.holds }

pub settles : (named valued : Bool) (w : WireState) → IsPlain named valued w.part → (max from : ℕ) (given bytes : List ℕ) (ended : Bool) → Follows w max from given bytes ended → Follows (settled named valued w) max from given bytes ended
settles named valued w plain max from given bytes ended h = record { max_is = h.max_is; from_is = h.from_is; is_at = settled_at named valued w given bytes ended w.ending plain h.is_at }

-- a step of a wire that knows nothing, with what it notes behind it
pub step_noted : (named valued : Bool) (w u : WireState) (took : List ℕ) → Moves (settled false false w) u took → IsPlain named valued u.part → Moves w (settled named valued u) took
step_noted named valued w u took moves plain max from given bytes h =
    settles named valued u plain max from given (bytes ++ took) false (moves max from given bytes (settles false false w (not_plain w.part) max from given bytes false h))

pub step_unnoted : (w u : WireState) (took : List ℕ) → Moves (settled false false w) u took → Moves w u took
step_unnoted w u took moves max from given bytes h = moves max from given bytes (settles false false w (not_plain w.part) max from given bytes false h)
