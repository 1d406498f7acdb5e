-- Whether all that is asked, now and later, lies at sound URIs.
use Rattle.std.specs.Prelude.{ℕ, ◌≤◌, List, length, Option, IfSome}
use Rattle.acq_base.specs.Fetch.{IsSoundPlace}
use Rattle.acq_base.specs.Uri.{IsSound, list_name}
use Rattle.update_model.specs.Points.{Point, Over, At}
use Rattle.update_model.specs.Walks.{Walk, Finish, Try, target_walk}
use Rattle.update_model.specs.declared.wanted.Wanted.{Wanted}
use Rattle.update_model.specs.declared.ask.Closed.{Closed}
use Rattle.update_model.specs.declared.ask.Closed.TheVariants.{Not}
use Rattle.acq_base.specs.declared.fetch.NotServed.TheVariants.{Moved}
use Rattle.update_model.specs.declared.ask.Ending.{Ending}

-- each trail of a walk begins at a sound URI, however those before it ended
abbrev pub AsksSoundly : Walk → Type 0
AsksSoundly (Finish end) = Unit {0}
AsksSoundly (Try ask next) = IsSound ask.uri × ((e : Ending) → AsksSoundly (next e))

-- what is asked is at a sound URI, and so is all that comes after its trail
abbrev pub IsSoundAt : Point → Type 0
IsSoundAt (Over end) = Unit {0}
IsSoundAt (At ask left retries next) = IsSound ask.uri × ((e : Ending) → AsksSoundly (next e))

-- an answer leads to a sound place, if to any
abbrev pub IsSoundAnswer : Closed → Type 0
IsSoundAnswer (Not (Moved place)) = IsSoundPlace place
IsSoundAnswer other = Unit {0}

-- a list is asked for at sound URIs, where its own URI and the one under its digest are sound and its name is short
abbrev pub ListsAskSoundly : Type 0
ListsAskSoundly =
    (installed : Option (List ℕ)) (part : ℕ) (w : Wanted) → IsSound w.uri → IfSome w.hashed IsSound → length (list_name w.uri) ≤ 240
    → AsksSoundly (target_walk installed part w)
