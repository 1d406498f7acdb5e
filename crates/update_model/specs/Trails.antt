-- Histories of asks: what is answered at one place, along moves, and whether a mirror answered so.
use Rattle.std.specs.Prelude.{◌≡◌, ℕ, zero, suc, nat_le, nat_lt, ◌&&◌, Bool, true, false, if◌then◌else◌, List, [], ◌∷◌, ◌++◌, length, take, drop, map}
use Rattle.std.specs.List.{flat_map, AllByRecursion as Each}
use Rattle.acq_base.specs.Mirror.{MirrorMap, answer_at}
use Rattle.acq_base.specs.Sum.{sum_of}
use Rattle.acq_base.specs.declared.fetch.Answer.{Answer}
use Rattle.acq_base.specs.declared.fetch.Answer.TheVariants as answers
use Rattle.acq_base.specs.declared.uri.Uri.{Uri}
use Rattle.update_model.specs.Files.{sum_of_body}
use Rattle.update_model.specs.Reach.{Way, On, Stop, way}
use Rattle.update_model.specs.declared.ask.Ask.{Ask}
use Rattle.update_model.specs.declared.ask.Body.{Body}
use Rattle.update_model.specs.declared.ask.Body.TheVariants.{Bytes, Staged}
use Rattle.update_model.specs.declared.ask.Closed.{Closed}
use Rattle.update_model.specs.declared.ask.Closed.TheVariants.{Served, Not}
use Rattle.acq_base.specs.declared.fetch.NotServed.TheVariants.{Moved, Absent, TooBig, Fault}
use Rattle.update_model.specs.declared.ask.Ending.{Ending}
use Rattle.update_model.specs.declared.ask.Ending.TheVariants as endings
use Rattle.update_model.specs.declared.log.Asked.{Asked}
use Rattle.update_model.specs.declared.log.Heard.{Heard}
use Rattle.update_model.specs.declared.log.Heard.TheVariants as heards

-- an answer, and the lane whose method gave it
pub record LaneAnswer : Type 0 where
  pub lane : ℕ
  pub closed : Closed

-- a URI, and all that was answered there in order
pub record Position : Type 0 where
  pub uri : Uri
  pub told : List LaneAnswer

-- the positions to which an ask led, and how they ended
pub record Trail : Type 0 where
  pub ask : Ask
  pub positions : List Position
  pub ending : Ending

-- ---- what is a trail

-- one answer: a fault is asked again while retries are left, and is the end where none is; any other leads its way
abbrev pub Leads {ℓ} : {A : Type ℓ} → ℕ → Uri → ℕ → Closed → ℕ → (ℕ → A) → (Way → A) → A
Leads left uri lane (Not (Fault before after)) zero again goes = goes (Stop (endings.Dead lane before after))
Leads left uri lane (Not (Fault before after)) (suc retries) again goes = again retries
Leads left uri lane closed retries again goes = goes (way left uri closed)

-- All the answers at a URI: at most `retries` faults and then one that is none, or one fault more. P holds of the way
-- that they lead.
abbrev pub IsPosition : ℕ → ℕ → Uri → List LaneAnswer → (Way → Type 0) → Type 0
IsPosition retries left uri [] P = ⊥
IsPosition retries left uri (t ∷ ts) P =
    Leads left uri t.lane t.closed retries (λ n. IsPosition n left uri ts P) (λ w. (ts ≡ []) × P w)

abbrev pub less : ℕ → ℕ
less zero = zero
less (suc n) = n

-- what holds where a way goes on, and what where it ends
abbrev pub Along : Way → (Uri → Type 0) → (Ending → Type 0) → Type 0
Along (On to) goes_on ends = goes_on to
Along (Stop ending) goes_on ends = ends ending

-- positions from a URI on, where this many moves are left: another one follows exactly behind a move that is followed
abbrev pub IsTrail : ℕ → ℕ → Uri → List Position → Ending → Type 0
IsTrail retries left uri [] ending = ⊥
IsTrail retries left uri (p ∷ ps) ending =
    (p.uri ≡ uri)
    × IsPosition retries left uri p.told (λ w. Along w (λ to. IsTrail retries (less left) to ps ending) (λ e. (ps ≡ []) × (ending ≡ e)))

-- ---- whether a mirror answered so

-- a file as an ask gets it: one that is staged is known by its sum
abbrev pub body_for : Bool → List ℕ → Body
body_for true bytes = Staged (sum_of bytes)
body_for false bytes = Bytes bytes

-- A mirror's answer to an ask. A file's bytes behind the first `from` follow those of the partial file; one that has no
-- bytes behind them can't be resumed (RFC 9110, section 15.5.17).
abbrev pub answered : List ℕ → Ask → Answer → Closed
answered part ask (answers.Served bytes) =
    if nat_le (length bytes) ask.max
    then (if nat_lt 0 ask.from && nat_le (length bytes) ask.from
    then Not (Absent 416)
    else Served (body_for ask.stage (take ask.from part ++ drop ask.from bytes)))
    else Not TooBig
answered part ask (answers.Moved place) = Not (Moved place)
answered part ask (answers.Absent status) = Not (Absent status)

-- an answer is this one, or a fault
abbrev pub IsFaultOr : Closed → Closed → Type 0
IsFaultOr (Not (Fault before after)) said = Unit {0}
IsFaultOr closed said = closed ≡ said

-- each answer that is no fault is the mirror's to that ask, beside this partial file
abbrev pub Agrees : MirrorMap → List ℕ → List Trail → Type 0
Agrees world part =
    Each (λ trail. Each (λ position. Each (λ told. IsFaultOr told.closed (answered part trail.ask (answer_at world position.uri))) position.told) trail.positions)

abbrev pub answers_or : Closed → Type 0 → Type 0
answers_or (Not (Fault before after)) other = other
answers_or closed other = Unit {0}

-- some answer is no fault
abbrev pub HasAnswer : List LaneAnswer → Type 0
HasAnswer [] = ⊥
HasAnswer (t ∷ ts) = answers_or t.closed (HasAnswer ts)

-- every position has an answer that is no fault
abbrev pub Lives : List Trail → Type 0
Lives = Each (λ trail. Each (λ position. HasAnswer position.told) trail.positions)

-- ---- in the log

abbrev pub heard_of : Closed → Heard
heard_of (Served body) = heards.Served (sum_of_body body)
heard_of (Not end) = heards.Not end

-- the entries of trails: one for each answer, in order
abbrev pub entries : ℕ → List ℕ → List Trail → List Asked
entries source path =
    flat_map (λ trail. flat_map (λ position. map (λ told. record { source = source; path = path; uri = position.uri; from = trail.ask.from; lane = told.lane; heard = heard_of told.closed }) position.told) trail.positions)
