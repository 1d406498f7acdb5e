-- What was heard, and a mirror.
use Rattle.std.specs.Prelude.{ℕ, zero, suc, List, [], ◌∷◌, slice_get, Option, Some, None, option_and_then}
use Rattle.std.specs.List.{AllByRecursion as Each}
use Rattle.acq_base.specs.Mirror.{MirrorMap, answer_at}
use Rattle.acq_base.specs.declared.plan.Source.{Source}
use Rattle.acq_base.specs.declared.uri.ListName.{ListName}
use Rattle.update_model.specs.Outcomes.{PartFiles}
use Rattle.update_model.specs.Trails.{IsFaultOr, answered}
use Rattle.update_model.specs.declared.ask.Closed.{Closed}
use Rattle.update_model.specs.declared.ask.Closed.TheVariants.{Not}
use Rattle.acq_base.specs.declared.fetch.NotServed.TheVariants.{Fault}
use Rattle.board_model.specs.Keys.{name_at}
use Rattle.board_model.specs.Runs.{Note}
use Rattle.board_model.specs.Stands.{of_key}
use Rattle.board_model.specs.declared.key.Key.{Key}

-- the partial file of an item's list; a Release has none
abbrev pub part_of : PartFiles → Option ListName → List ℕ
part_of parts None = []
part_of parts (Some name) = parts name.0

abbrev pub part_at : PartFiles → List Source → Key → List ℕ
part_at parts sources key = part_of parts (option_and_then (λ source. name_at source key.place) (slice_get sources key.source))

-- an answer is a fault, or the mirror's to what was asked
abbrev pub IsMirrors : MirrorMap → PartFiles → List Source → Note → Type 0
IsMirrors mirror parts sources note = IsFaultOr note.told.closed (answered (part_at parts sources note.key) note.ask (answer_at mirror note.ask.uri))

-- so is all that was heard
abbrev pub Agrees : MirrorMap → PartFiles → List Source → List Note → Type 0
Agrees mirror parts sources notes = Each (IsMirrors mirror parts sources) notes

-- one answer: a fault where as many may follow, or any other
abbrev pub AfterAnswer : Closed → ℕ → (ℕ → Type 0) → Type 0 → Type 0
AfterAnswer (Not (Fault before after)) zero again other = ⊥
AfterAnswer (Not (Fault before after)) (suc left) again other = again left
AfterAnswer closed left again other = other

-- of these answers to one item no more than `retries` faults follow one another, and at most `left` come first
abbrev pub IsAnswered : ℕ → ℕ → List Note → Type 0
IsAnswered retries left [] = Unit {0}
IsAnswered retries left (note ∷ notes) =
    AfterAnswer note.told.closed left (λ n. IsAnswered retries n notes) (IsAnswered retries retries notes)

-- no ask was given up
abbrev pub NoneIsDead : ℕ → List Note → Type 0
NoneIsDead retries notes = (key : Key) → IsAnswered retries retries (of_key key notes)
