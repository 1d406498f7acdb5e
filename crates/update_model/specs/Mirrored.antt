-- The route of a walk over a mirror, without a fault.
use Rattle.std.specs.Prelude.{ℕ, zero, suc, nat_le, nat_lt, ◌&&◌, if◌then◌else◌, List, [], ◌∷◌, ◌++◌, length, take, drop}
use Rattle.acq_base.specs.Mirror.{MirrorMap, answer_at}
use Rattle.acq_base.specs.declared.uri.Uri.{Uri}
use Rattle.update_model.specs.Reach.{Way, On, Stop, way, reach}
use Rattle.update_model.specs.Trails.{Position, Trail, body_for, answered}
use Rattle.update_model.specs.Walks.{Walk, Finish, Try}
use Rattle.update_model.specs.declared.ask.Ask.{Ask}
use Rattle.update_model.specs.declared.ask.Body.TheVariants.{Bytes, Staged}
use Rattle.update_model.specs.declared.ask.Ending.{Ending}
use Rattle.update_model.specs.declared.ask.Ending.TheVariants as endings
use Rattle.update_model.specs.declared.end.End.{End}

-- what is reached, as an ask sees it
abbrev pub seen : List ℕ → Ask → Ending → Ending
seen part ask (endings.Served (Bytes bytes)) =
    if nat_lt 0 ask.from && nat_le (length bytes) ask.from
    then endings.Absent 416
    else endings.Served (body_for ask.stage (take ask.from part ++ drop ask.from bytes))
seen part ask (endings.Served (Staged sum)) = endings.Lost
seen part ask endings.TooBig = endings.TooBig
seen part ask (endings.Absent status) = endings.Absent status
seen part ask endings.Lost = endings.Lost
seen part ask (endings.Garbled at) = endings.Garbled at
seen part ask (endings.Dead lane before after) = endings.Dead lane before after

-- what a walk comes to over a mirror, beside this partial file
abbrev pub over : MirrorMap → List ℕ → Walk → End
over world part (Finish end) = end
over world part (Try ask next) = over world part (next (seen part ask (reach world ask.uri ask.max)))

abbrev pub behind : Way → (Uri → List Position) → List Position
behind (On to) more = more to
behind (Stop ending) more = []

-- the position of one answer, by a first lane
abbrev pub heard_once : MirrorMap → List ℕ → Ask → Uri → Position
heard_once world part ask uri = record { uri = uri; told = record { lane = 0; closed = answered part ask (answer_at world uri) } ∷ [] }

-- a mirror's answers from a URI on, where this many moves are left
abbrev pub positions_by : ℕ → MirrorMap → List ℕ → Ask → Uri → List Position
positions_by zero world part ask uri = heard_once world part ask uri ∷ []
positions_by (suc left) world part ask uri =
    heard_once world part ask uri ∷ behind (way (suc left) uri (answered part ask (answer_at world uri))) (λ to. positions_by left world part ask to)

-- the trails of a walk over a mirror
abbrev pub trails_over : MirrorMap → List ℕ → Walk → List Trail
trails_over world part (Finish end) = []
trails_over world part (Try ask next) =
    record { ask = ask; positions = positions_by 10 world part ask ask.uri; ending = seen part ask (reach world ask.uri ask.max) }
    ∷ trails_over world part (next (seen part ask (reach world ask.uri ask.max)))
