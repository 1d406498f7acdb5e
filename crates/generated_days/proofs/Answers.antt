-- Answers that are no fault, and where they lead.
use Rattle.std.proofs.Common.{◌≡◌, ℕ, zero, suc, List, [], ◌∷◌, sym, subst}
use Rattle.std.specs.List.{AllByRecursion as Each}
use Rattle.acq_base.specs.Mirror.{MirrorMap, answer_at}
use Rattle.board_model.specs.Runs.{Note}
use Rattle.board_model.specs.Stands.{AreAsked, lane_answers}
use Rattle.item_graph.specs.Histories.{AgreesAlong, LivesAlong, LivesAt}
use Rattle.update_model.specs.Points.{Point, Over, At, point_after}
use Rattle.update_model.specs.Trails.{IsFaultOr, LaneAnswer, answered}
use Rattle.update_model.specs.declared.ask.Ask.{Ask}
use Rattle.update_model.specs.declared.ask.Closed.{Closed}
use Rattle.update_model.specs.declared.ask.Closed.TheVariants.{Served, Not}
use Rattle.acq_base.specs.declared.fetch.NotServed.{NotServed}
use Rattle.acq_base.specs.declared.fetch.NotServed.TheVariants.{Moved, Absent, TooBig, Garbled, Fault}

abbrev pub IsNoFault : NotServed → Type 0
IsNoFault (Fault before after) = ⊥
IsNoFault end = Unit {0}

abbrev pub NoFault : Closed → Type 0
NoFault (Served body) = Unit {0}
NoFault (Not end) = IsNoFault end

-- an answer to an item is a fault, or the mirror's
abbrev pub Said : MirrorMap → List ℕ → Note → Type 0
Said mirror part note = IsFaultOr note.told.closed (answered part note.ask (answer_at mirror note.ask.uri))

-- ---- what an item heard

pub agrees-along : (mirror : MirrorMap) (part : List ℕ) (retries : ℕ) (p : Point) (notes : List Note) → AreAsked retries p notes → Each (Said mirror part) notes → AgreesAlong mirror part retries p (lane_answers notes)
agrees-along mirror part retries p [] h said = tt
agrees-along mirror part retries (Over end) (note ∷ notes) h said = let none = h.0 in absurd (cc)
agrees-along mirror part retries (At ask left faults next) (note ∷ notes) h said =
    let is = h.0 in
    let same : ask ≡ note.ask = cc in (
      subst (λ (a : Ask). IsFaultOr note.told.closed (answered part a (answer_at mirror a.uri))) (sym same) said.0,
      agrees-along mirror part retries (point_after retries (At ask left faults next) note.told) notes h.1 said.1,
    )

lives-at : (p : Point) (t : LaneAnswer) → NoFault t.closed → LivesAt p t
lives-at (Over end) t quiet = tt
lives-at (At ask left (suc faults) next) t quiet = tt
lives-at (At ask left zero next) t quiet = by t.closed quiet
  where
    by : (closed : Closed) → NoFault closed → LivesAt (At ask left zero next) (record { lane = t.lane; closed = closed })
    by (Served body) q = tt
    by (Not (Moved place)) q = tt
    by (Not (Absent status)) q = tt
    by (Not TooBig) q = tt
    by (Not (Garbled at)) q = tt
    by (Not (Fault from to)) q = absurd q

pub lives-along : (retries : ℕ) (p : Point) (notes : List Note) → Each (λ note. NoFault note.told.closed) notes → LivesAlong retries p (lane_answers notes)
lives-along retries p [] quiet = tt
lives-along retries p (note ∷ notes) quiet = (lives-at p note.told quiet.0, lives-along retries (point_after retries p note.told) notes quiet.1)
