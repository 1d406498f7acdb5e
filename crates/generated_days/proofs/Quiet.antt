-- A method that counted no fault told none.
use Rattle.std.proofs.Common.{◌<◌, ◌≤◌, ◌==◌, ℕ, zero, suc, Bool, true, false, if◌then◌else◌, List, [], ◌∷◌, refl, arith, inl, inr}
use Rattle.std.specs.List.{AllByRecursion as Each}
use Rattle.acq_outside.specs.Count.{Rose}
use Rattle.board_model.specs.Agreeing.{AfterAnswer, IsAnswered, NoneIsDead}
use Rattle.board_model.specs.Keys.{same_key}
use Rattle.board_model.specs.Runs.{Note}
use Rattle.board_model.specs.Stands.{entries_of, of_key}
use Rattle.board_model.specs.declared.key.Key.{Key}
use Rattle.generated_days.proofs.Answers.{IsNoFault, NoFault}
use Rattle.run_jobs.specs.Counting.{CountsOn, CountsUp, FaultsRise, asks_of_lane}
use Rattle.update_model.specs.Trails.{heard_of}
use Rattle.update_model.specs.declared.ask.Closed.{Closed}
use Rattle.update_model.specs.declared.ask.Closed.TheVariants as closed
use Rattle.update_model.specs.declared.log.Asked.{Asked}
use Rattle.update_model.specs.declared.log.Heard.{Heard}
use Rattle.update_model.specs.declared.log.Heard.TheVariants.{Served, Not}
use Rattle.acq_base.specs.declared.fetch.NotServed.TheVariants.{Moved, Absent, TooBig, Garbled, Fault}
use Rattle.run_jobs.proofs.Telling.{counts_rise}

abbrev pub IsQuietHeard : Heard → Type 0
IsQuietHeard (Served sum) = Unit {0}
IsQuietHeard (Not end) = IsNoFault end

-- ---- a log

not-risen : (before after : ℕ) → Rose before after → after ≤ 0 → ⊥
not-risen before after (inl less) low = omega (arith, less, low)
not-risen before after (inr top) low = omega (arith, top, low)

none-told : (first : ℕ) (entries : List Asked) → CountsUp first 0 entries → Each (λ e. IsQuietHeard e.heard) entries
none-told first [] counts = tt
none-told first (e ∷ entries) counts = by e.heard (λ count on. none-told count entries on) counts
  where
    by : (heard : Heard) → ((count : ℕ) → CountsUp count 0 entries → Each (λ e. IsQuietHeard e.heard) entries) → CountsOn heard first (λ count. CountsUp count 0 entries)
        → IsQuietHeard heard × Each (λ e. IsQuietHeard e.heard) entries
    by (Served sum) more c = (tt, more first c)
    by (Not (Moved place)) more c = (tt, more first c)
    by (Not (Absent status)) more c = (tt, more first c)
    by (Not TooBig) more c = (tt, more first c)
    by (Not (Garbled at)) more c = (tt, more first c)
    by (Not (Fault before after)) more c = absurd (not-risen before after c.1 (counts_rise after 0 entries c.3))

-- where there is one lane, all entries are its
quiet-entries : (asks : List Asked) → Each (λ e. e.lane < 1) asks → Each (λ e. IsQuietHeard e.heard) (asks_of_lane 0 asks) → Each (λ e. IsQuietHeard e.heard) asks
quiet-entries [] lanes quiet = tt
quiet-entries (e ∷ asks) lanes quiet = by e.lane lanes.0 quiet (λ others. quiet-entries asks lanes.1 others)
  where
    by : (lane : ℕ) → lane < 1 → Each (λ e. IsQuietHeard e.heard) (if lane == 0 then e ∷ asks_of_lane 0 asks else asks_of_lane 0 asks)
        → (Each (λ e. IsQuietHeard e.heard) (asks_of_lane 0 asks) → Each (λ e. IsQuietHeard e.heard) asks) → IsQuietHeard e.heard × Each (λ e. IsQuietHeard e.heard) asks
    by zero less both rest = (both.0, rest both.1)
    by (suc lane) less others rest = absurd (omega (arith, less))

pub quiet-asks : (asks : List Asked) → FaultsRise (0 ∷ []) (0 ∷ []) asks → Each (λ e. IsQuietHeard e.heard) asks
quiet-asks asks faults = quiet-entries asks faults.lanes (none-told 0 (asks_of_lane 0 asks) (faults.counts 0 0 0 refl refl))

-- ---- what was heard

quiet-answer : (answer : Closed) → IsQuietHeard (heard_of answer) → NoFault answer
quiet-answer (closed.Served body) quiet = tt
quiet-answer (closed.Not end) quiet = quiet

pub quiet-notes : (notes : List Note) → Each (λ e. IsQuietHeard e.heard) (entries_of notes) → Each (λ note. NoFault note.told.closed) notes
quiet-notes [] quiet = tt
quiet-notes (note ∷ notes) quiet = (quiet-answer note.told.closed quiet.0, quiet-notes notes quiet.1)

pub quiet-key : (key : Key) (notes : List Note) → Each (λ note. NoFault note.told.closed) notes → Each (λ note. NoFault note.told.closed) (of_key key notes)
quiet-key key [] quiet = tt
quiet-key key (note ∷ notes) quiet = by (same_key note.key key) (quiet-key key notes quiet.1)
  where
    by : (same : Bool) → Each (λ note. NoFault note.told.closed) (of_key key notes) → Each (λ note. NoFault note.told.closed) (if same then note ∷ of_key key notes else of_key key notes)
    by true others = (quiet.0, others)
    by false others = others

answered : (retries left : ℕ) (notes : List Note) → Each (λ note. NoFault note.told.closed) notes → IsAnswered retries left notes
answered retries left [] quiet = tt
answered retries left (note ∷ notes) quiet = by note.told.closed quiet.0 (answered retries retries notes quiet.1)
  where
    by : (answer : Closed) → NoFault answer → IsAnswered retries retries notes → AfterAnswer answer left (λ n. IsAnswered retries n notes) (IsAnswered retries retries notes)
    by (closed.Served body) q rest = rest
    by (closed.Not (Moved place)) q rest = rest
    by (closed.Not (Absent status)) q rest = rest
    by (closed.Not TooBig) q rest = rest
    by (closed.Not (Garbled at)) q rest = rest
    by (closed.Not (Fault before after)) q rest = absurd q

pub none-dead : (retries : ℕ) (notes : List Note) → Each (λ note. NoFault note.told.closed) notes → NoneIsDead retries notes
none-dead retries notes quiet = λ key. answered retries retries (of_key key notes) (quiet-key key notes quiet)
