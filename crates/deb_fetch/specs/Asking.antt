-- Where the asks for a package file stand.
use Rattle.std.specs.Prelude.{◌≡◌, ◌⊎◌, ℕ, zero, suc, ◌+◌, ◌-◌, ◌≤◌, true, List, [], Option, None, IfSome}
use Rattle.acq_base.specs.Mirror.{MirrorMap, answer_at}
use Rattle.acq_outside.specs.Crash.{State}
use Rattle.acq_outside.specs.States.{IsTold}
use Rattle.acq_outside.specs.declared.disk.Disk as disks
use Rattle.acq_outside.specs.declared.method.Method as methods
use Rattle.item_graph.specs.Histories.{AgreesAlong, LivesAlong}
use Rattle.item_graph.specs.Refinement.{asked, point_of, retries_of}
use Rattle.item_graph.specs.Single.{single}
use Rattle.item_graph.specs.declared.item.Item.{Item}
use Rattle.job_fetch.specs.Fetched.{IsCounted, IsStagedBody, LastsAs}
use Rattle.job_fetch.specs.Others.{AllChangeNameAlone}
use Rattle.journal_model.specs.Names.{partial}
use Rattle.update_model.specs.Obtained.{list_cause}
use Rattle.update_model.specs.Points.{Point, Over, At, start, point_after, run}
use Rattle.update_model.specs.Trails.{LaneAnswer, IsFaultOr, answered}
use Rattle.update_model.specs.Walks.{Walk, Finish, got_else, plain_walk}
use Rattle.update_model.specs.declared.ask.Ask.{Ask}
use Rattle.update_model.specs.declared.ask.Closed.{Closed}
use Rattle.update_model.specs.declared.ask.Ending.{Ending}
use Rattle.update_model.specs.declared.cause.Cause.TheVariants.{Method}
use Rattle.update_model.specs.declared.end.End.{End}
use Rattle.update_model.specs.declared.end.End.TheVariants.{Got, Stands, Ended}
use Rattle.update_model.specs.declared.wanted.Wanted.{Wanted}
use Rattle.deb_fetch.specs.Causes.{IsMethod, RoseBy, cause_of}
use Rattle.deb_fetch.specs.declared.deb.Deb.{Deb}

-- no change of another name than the file's on its way is pending
abbrev pub ChangesPartAlone : List ℕ → State → Type 0
ChangesPartAlone name s = AllChangeNameAlone (partial name) s.pending

-- what is asked is a whole file, which goes into the one on its way
abbrev pub AsksWhole : Point → Type 0
AsksWhole (Over end) = Unit {0}
AsksWhole (At ask left faults next) = (ask.from ≡ 0) × (ask.stage ≡ true)

-- One ask was answered, by the method of the first lane: a fault is counted, a file that came is the one on its way, and
-- where disk and method tell, any answer but a fault is the mirror's.
pub record HasAsked (retries : ℕ) (world : Option MirrorMap) (name : List ℕ) (before after : ℕ) (now : List State) (p q : Point) : Type 0 where
  pub ask : Ask
  pub left : ℕ
  pub faults : ℕ
  pub next : Ending → Walk
  pub at : p ≡ At ask left faults next
  pub closed : Closed
  pub step : q ≡ point_after retries p (record { lane = 0; closed = closed })
  pub counted : IsCounted before after closed
  pub staged : IsStagedBody name now closed
  pub answer : IsTold now → IfSome world (λ entries. IsFaultOr closed (answered [] ask (answer_at entries ask.uri)))

-- an item was asked for so, by what the method tells before and after
abbrev pub HasAskedFor : {M : Type 0} → methods.Ghosts M → List ℕ → M → M → List State → Item → Item → Type 0
HasAskedFor m name asked answered now before after =
    HasAsked (retries_of before) (m.world asked) name (m.faults asked) (m.faults answered) now (point_of before) (point_of after)

-- nothing was asked, and all is as it was
pub record HasAskedNothing (before after : ℕ) (old now : List State) (p q : Point) : Type 0 where
  pub none : asked p ≡ None
  pub same : q ≡ p
  pub still : now ≡ old
  pub quiet : after ≡ before

abbrev pub HasAskedForNothing : {D M : Type 0} → disks.Ghosts D → methods.Ghosts M → D → D → M → M → Item → Item → Type 0
HasAskedForNothing d m old new asked answered before after =
    HasAskedNothing (m.faults asked) (m.faults answered) (d.trace old) (d.trace new) (point_of before) (point_of after)

-- the plain asks go on: so many faults may still come at this place
pub record AsksOn (retries : ℕ) (w : Wanted) (first last : ℕ) (ask : Ask) (faults : ℕ) (next : Ending → Walk) : Type 0 where
  pub whole : ask.from ≡ 0
  pub staged : ask.stage ≡ true
  pub within : faults ≤ retries
  pub grew : first ≤ last
  pub rose : RoseBy (retries - faults) first last
  pub behind : next ≡ (λ e. got_else w e (Finish (Ended (list_cause w e))))

-- the last ask failed once more than it may be repeated
pub record HasDied (retries : ℕ) (w : Wanted) (first last : ℕ) (end : End) : Type 0 where
  pub from : ℕ
  pub upto : ℕ
  pub is : end ≡ Ended (Method w.path 0 from upto)
  pub rose : RoseBy (retries + 1) first last
  pub begins : first ≤ from
  pub others : RoseBy retries first from
  pub upward : from ≤ upto
  pub ends : upto ≡ last

-- a file that is had is the one on its way
abbrev pub IsHad : List ℕ → Wanted → List State → End → Type 0
IsHad name w now (Got body) = IsTold now → LastsAs name now w.sum
IsHad name w now Stands = ⊥
IsHad name w now (Ended cause) = Unit {0}

-- an end that no method caused
pub record HasLived (lives : Type 0) (end : End) : Type 0 where
  pub lived : lives
  pub other : IsMethod (cause_of end) → ⊥

abbrev pub StandsAt : ℕ → Wanted → List ℕ → ℕ → ℕ → List State → Type 0 → Point → Type 0
StandsAt retries w name first last now lives (Over end) = (HasLived lives end ⊎ HasDied retries w first last end) × IsHad name w now end
StandsAt retries w name first last now lives (At ask left faults next) = lives × AsksOn retries w first last ask faults next

-- Asks for the file have been answered so since the method's count of faults was the first: they lead to the point, and where
-- disk and method tell, each answer but a fault is the mirror's.
pub record IsUnderWay (retries : ℕ) (w : Wanted) (name : List ℕ) (world : Option MirrorMap)
    (first last : ℕ) (now : List State) (p : Point) : Type 0 where
  pub told : List LaneAnswer
  pub heard : p ≡ run retries (start retries (plain_walk w)) told
  pub agrees : IsTold now → IfSome world (λ entries. AgreesAlong entries [] retries (start retries (plain_walk w)) told)
  pub stands : StandsAt retries w name first last now (LivesAlong retries (start retries (plain_walk w)) told) p

-- and of a package file
abbrev pub IsUnderWayTo : Deb → ℕ → Option MirrorMap → ℕ → ℕ → List State → Point → Type 0
IsUnderWayTo deb retries world first last now p = IsUnderWay retries (single deb.uri deb.path deb.sum) deb.file.0 world first last now p

-- whether there is an ask next: one, or none
abbrev pub asks_next : Point → ℕ
asks_next (Over end) = 0
asks_next (At ask left faults next) = 1

-- how many asks may come behind so many moves
abbrev pub asks_behind : ℕ → ℕ → ℕ
asks_behind retries zero = 0
asks_behind retries (suc left) = asks_behind retries left + (retries + 1)

-- and from a point on
abbrev pub asks_left : ℕ → Point → ℕ
asks_left retries (Over end) = 0
asks_left retries (At ask left faults next) = asks_behind retries left + faults + 1
