-- Answers one after another, and whether a mirror gave them.
use Rattle.std.specs.Prelude.{◌≡◌, ℕ, zero, suc, List, [], ◌∷◌}
use Rattle.acq_base.specs.Mirror.{MirrorMap, answer_at}
use Rattle.update_model.specs.Points.{Point, Over, At, start, point_after, run}
use Rattle.update_model.specs.Trails.{LaneAnswer, IsFaultOr, answered, answers_or}
use Rattle.update_model.specs.Walks.{Walk}
use Rattle.item_graph.specs.Refinement.{point_of}
use Rattle.item_graph.specs.declared.item.Item.{Item}

-- the item has heard these answers since it began this walk
abbrev pub HasHeard : Item → ℕ → Walk → List LaneAnswer → Type 0
HasHeard item retries walk told = point_of item ≡ run retries (start retries walk) told

-- an answer is a fault, or the mirror's to what is asked there
abbrev pub AgreesAt : MirrorMap → List ℕ → Point → LaneAnswer → Type 0
AgreesAt world part (Over end) t = Unit {0}
AgreesAt world part (At ask left faults next) t = IsFaultOr t.closed (answered part ask (answer_at world ask.uri))

-- so is each of these answers to a walk, beside a partial file
abbrev pub AgreesAlong : MirrorMap → List ℕ → ℕ → Point → List LaneAnswer → Type 0
AgreesAlong world part retries p [] = Unit {0}
AgreesAlong world part retries p (t ∷ ts) = AgreesAt world part p t × AgreesAlong world part retries (point_after retries p t) ts

-- an answer is no fault behind which none is asked again
abbrev pub LivesAt : Point → LaneAnswer → Type 0
LivesAt (Over end) t = Unit {0}
LivesAt (At ask left zero next) t = answers_or t.closed ⊥
LivesAt (At ask left (suc faults) next) t = Unit {0}

-- so is each of these answers
abbrev pub LivesAlong : ℕ → Point → List LaneAnswer → Type 0
LivesAlong retries p [] = Unit {0}
LivesAlong retries p (t ∷ ts) = LivesAt p t × LivesAlong retries (point_after retries p t) ts
