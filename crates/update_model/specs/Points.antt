-- Where a walk stands after some answers, one at a time.
use Rattle.std.specs.Prelude.{◌≡◌, ℕ, List, [], ◌∷◌, ◌++◌}
use Rattle.update_model.specs.Reach.{Way, On, Stop}
use Rattle.update_model.specs.Trails.{LaneAnswer, Leads, less, heard_of}
use Rattle.update_model.specs.Walks.{Walk, Finish, Try}
use Rattle.update_model.specs.declared.ask.Ask.{Ask}
use Rattle.update_model.specs.declared.ask.Ending.{Ending}
use Rattle.update_model.specs.declared.end.End.{End}
use Rattle.update_model.specs.declared.log.Asked.{Asked}

-- over, or at an ask, with as many moves and retries left, and what comes after its trail
pub data Point : Type 0 where
  Over : (end : End) → Point
  At : (ask : Ask) → (left retries : ℕ) → (next : Ending → Walk) → Point

abbrev pub start : ℕ → Walk → Point
start retries (Finish end) = Over end
start retries (Try ask next) = At ask 10 retries next

-- on to another URI, or behind the trail
abbrev pub lead : ℕ → Ask → ℕ → (Ending → Walk) → Way → Point
lead retries ask left next (On to) = At (record ask { uri = to }) (less left) retries next
lead retries ask left next (Stop ending) = start retries (next ending)

-- where one answer leads
abbrev pub point_after : ℕ → Point → LaneAnswer → Point
point_after retries (Over end) t = Over end
point_after retries (At ask left faults next) t =
    Leads left ask.uri t.lane t.closed faults (λ n. At ask left n next) (λ w. lead retries ask left next w)

-- the log's entry of an answer
abbrev pub entry : ℕ → List ℕ → Ask → LaneAnswer → Asked
entry source path ask t = record { source = source; path = path; uri = ask.uri; from = ask.from; lane = t.lane; heard = heard_of t.closed }

abbrev pub entry_at : ℕ → List ℕ → Point → LaneAnswer → List Asked
entry_at source path (Over end) t = []
entry_at source path (At ask left faults next) t = entry source path ask t ∷ []

-- where answers lead, one after another
abbrev pub run : ℕ → Point → List LaneAnswer → Point
run retries p [] = p
run retries p (t ∷ ts) = run retries (point_after retries p t) ts

-- the entries of these answers
abbrev pub ran : ℕ → ℕ → List ℕ → Point → List LaneAnswer → List Asked
ran retries source path p [] = []
ran retries source path p (t ∷ ts) = entry_at source path p t ++ ran retries source path (point_after retries p t) ts

-- what is still to be heard begins with what the point asks, or is nothing, and this is the end
abbrev pub AsksFirst : Point → List Asked → End → Type 0
AsksFirst (Over last) rest end = (rest ≡ []) × (end ≡ last)
AsksFirst (At ask left faults next) [] end = ⊥
AsksFirst (At ask left faults next) (a ∷ rest) end = (a.uri ≡ ask.uri) × (a.from ≡ ask.from)
