-- What the fetch of a package file comes to.
use Rattle.std.specs.Prelude.{◌≡◌, ◌⊎◌, ℕ, ◌+◌, ◌-◌, ◌^◌, ◌≤◌, List, [], Option, Some, None, IfSome}
use Rattle.acq_base.specs.Mirror.{MirrorMap}
use Rattle.item_graph.specs.Single.{single, file_walk}
use Rattle.update_model.specs.Obtained.{obtain}
use Rattle.update_model.specs.Trails.{Trail}
use Rattle.update_model.specs.Walks.{IsRoute}
use Rattle.update_model.specs.declared.cause.Cause.{Cause}
use Rattle.update_model.specs.declared.cause.Cause.TheVariants.{Method}
use Rattle.update_model.specs.declared.end.End.{End}
use Rattle.update_model.specs.declared.end.End.TheVariants.{Got, Stands, Ended}
use Rattle.deb_fetch.specs.declared.deb.Deb.{Deb}

-- no cause where the file is had
abbrev pub cause_of : End → Option Cause
cause_of (Got body) = None
cause_of Stands = None
cause_of (Ended cause) = Some cause

-- none where the file is there already, or where the mirror leads from its URI to it within its size; else the cause that
-- what it leads to shows
abbrev pub cause_over : MirrorMap → Option (List ℕ) → Deb → Option Cause
cause_over world there deb = cause_of (obtain world there [] (single deb.uri deb.path deb.sum))

-- the count rose by so many, or stands at the greatest u64
abbrev pub RoseBy : ℕ → ℕ → ℕ → Type 0
RoseBy faults before after = (before + faults ≤ after) ⊎ (2 ^ 64 - 1 ≤ after)

-- The cause is a method that failed once more than an ask may be repeated: the first one, whose count rose by so many. Its
-- two counts are those around the last failure: before it all the others came, and behind it nothing is asked.
pub record HasFailed (retries before after : ℕ) (deb : Deb) (end : Option Cause) : Type 0 where
  pub first : ℕ
  pub last : ℕ
  pub is : end ≡ Some (Method deb.path 0 first last)
  pub rose : RoseBy (retries + 1) before after
  pub begins : before ≤ first
  pub from : RoseBy retries before first
  pub upward : first ≤ last
  pub upto : last ≡ after

-- the cause is a method
abbrev pub IsMethod : Option Cause → Type 0
IsMethod (Some (Method path lane first last)) = Unit {0}
IsMethod other = ⊥

-- beside the file that is there, the answer is the mirror's, where one is told, or the method
abbrev pub IsAnswerOf : Option MirrorMap → Option (List ℕ) → Deb → Option Cause → Type 0
IsAnswerOf world there deb end = IfSome world (λ entries. (end ≡ cause_over entries there deb) ⊎ IsMethod end)

-- no cause, or the one with which a route of asks for it ended
abbrev pub IsEndOfRoute : ℕ → Deb → Option Cause → Type 0
IsEndOfRoute retries deb cause =
    (cause ≡ None) ⊎ ((trails : List Trail) × (end : End) × IsRoute retries (file_walk deb.uri deb.path deb.sum) trails end × (cause ≡ cause_of end))
