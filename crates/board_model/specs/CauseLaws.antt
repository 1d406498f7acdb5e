-- What shows why an item has no file.
use Rattle.std.specs.Prelude.{◌≡◌, ℕ, List, [], ◌∷◌, ◌++◌, Option}
use Rattle.std.specs.List.{AllByRecursion as Each}
use Rattle.acq_base.specs.declared.installed.Old.{Old}
use Rattle.acq_base.specs.declared.plan.Source.{Source}
use Rattle.update_model.specs.Obtained.{list_cause}
use Rattle.update_model.specs.Points.{Over}
use Rattle.update_model.specs.Releases.{release_end}
use Rattle.update_model.specs.Trails.{LaneAnswer}
use Rattle.update_model.specs.Walks.{release_walk, target_walk}
use Rattle.update_model.specs.declared.ask.Closed.{Closed}
use Rattle.update_model.specs.declared.ask.Closed.TheVariants.{Served, Not}
use Rattle.acq_base.specs.declared.fetch.NotServed.TheVariants.{Moved, Absent, TooBig, Garbled, Fault}
use Rattle.update_model.specs.declared.ask.Ending.{Ending}
use Rattle.update_model.specs.declared.ask.Ending.TheVariants as endings
use Rattle.update_model.specs.declared.cause.Cause.{Cause}
use Rattle.update_model.specs.declared.end.End.{End}
use Rattle.update_model.specs.declared.end.End.TheVariants.{Ended}
use Rattle.update_model.specs.declared.settled.Verdict2.{Verdict2}
use Rattle.update_model.specs.declared.wanted.Wanted.{Wanted}
use Rattle.board_model.specs.Ends.{ComesTo, ListEnd}
use Rattle.board_model.specs.Runs.{Note}
use Rattle.board_model.specs.Slots.{Setup, Standing}
use Rattle.board_model.specs.Stands.{ItemHasHeard, History}

-- how a trail has ended whose last answer this is: a move that isn't followed is lost, and a fault that isn't asked again dead
abbrev pub closing : ℕ → Closed → Ending
closing lane (Served body) = endings.Served body
closing lane (Not (Moved place)) = endings.Lost
closing lane (Not (Absent status)) = endings.Absent status
closing lane (Not TooBig) = endings.TooBig
closing lane (Not (Garbled at)) = endings.Garbled at
closing lane (Not (Fault before after)) = endings.Dead lane before after

abbrev pub ending_of : LaneAnswer → Ending
ending_of told = closing told.lane told.closed

-- the last of what an item heard
abbrev pub IsLast : Note → List Note → Type 0
IsLast note notes = (front : List Note) × (notes ≡ front ++ note ∷ [])

-- a list that has no file has the cause that its last answer shows
abbrev pub LastAnswersShowCauses : Type 0
LastAnswersShowCauses =
    (retries n : ℕ) (path : List ℕ) (installed : Option (List ℕ)) (part : ℕ) (w : Wanted) (heard : List Note) (item : Standing) (cause : Cause)
    → ItemHasHeard retries n path (target_walk installed part w) heard item → item.point ≡ Over (Ended cause)
    → (note : Note) × IsLast note heard × (cause ≡ list_cause w (ending_of note.told))

-- and a Release comes to what its last answer shows, InRelease's or its own
abbrev pub LastAnswersShowReleases : Type 0
LastAnswersShowReleases =
    (retries n : ℕ) (path : List ℕ) (source : Source) (heard : List Note) (item : Standing) (end : End)
    → ItemHasHeard retries n path (release_walk source) heard item → item.point ≡ Over end
    → (note : Note) × IsLast note heard × (end ≡ release_end (ending_of note.told))

-- ---- a source

-- a list that has no file has the cause that the last answer to it shows
abbrev pub IsShown : History → ListEnd → Type 0
IsShown history l =
    (cause : Cause) → l.end ≡ Ended cause
    → (note : Note) × IsLast note (history l.place) × (cause ≡ list_cause l.wanted (ending_of note.told))

-- so a source comes to what the last answer to its Release shows, and those to its lists
abbrev pub LastAnswersShowOutcomes : Type 0
LastAnswersShowOutcomes =
    (config : Setup) (n : ℕ) (source : Source) (old : Old) (history : History) (verdict : Verdict2) (came : ComesTo config n source old history verdict)
    → ((note : Note) × IsLast note (history 0) × (came.end ≡ release_end (ending_of note.told))) × Each (IsShown history) came.lists
