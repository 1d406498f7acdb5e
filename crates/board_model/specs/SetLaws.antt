-- What the changes of a settled source come to.
use Rattle.std.specs.Prelude.{◌≡◌, ◌≢◌, ℕ, true, List, AllPairs, Contains, Some}
use Rattle.acq_base.specs.Plan.{IsPlanned, names_of}
use Rattle.acq_base.specs.declared.installed.Old.{Old}
use Rattle.acq_base.specs.declared.plan.Source.{Source}
use Rattle.update_model.specs.Next.{OutcomeLeaves}
use Rattle.update_model.specs.Outcomes.{Outcome, Directory}
use Rattle.update_model.specs.declared.settled.Settled.{Settled}
use Rattle.board_model.specs.Changes.{AreMade, IsInstalled, touched}
use Rattle.board_model.specs.Settling.{outcome_in, settled_in}
use Rattle.board_model.specs.Slots.{Setup, Slot, is_ready}
use Rattle.board_model.specs.Stands.{History, IsOpen}

-- the changes of a source leave its outcome under its names: the new set whole, or what was there
abbrev pub ChangesLeaveOutcomes : Type 0
ChangesLeaveOutcomes =
    (config : Setup) (n : ℕ) (source : Source) (old : Old) (slot : Slot) (history : History) (settled : Settled) (outcome : Outcome) (before after : Directory)
    → IsOpen config n source old slot history → is_ready slot ≡ true → settled_in source slot ≡ Some settled → outcome_in slot ≡ Some outcome
    → IsPlanned source → IsInstalled source old before → AreMade source settled before after
    → OutcomeLeaves outcome source before after

-- no name is touched twice
abbrev pub TouchedAreApart : Type 0
TouchedAreApart =
    (config : Setup) (n : ℕ) (source : Source) (old : Old) (slot : Slot) (history : History) (settled : Settled)
    → IsOpen config n source old slot history → settled_in source slot ≡ Some settled → IsPlanned source
    → AllPairs (λ a b. a ≢ b) (touched source settled)

-- they touch the source's names alone
abbrev pub TouchedAreOwn : Type 0
TouchedAreOwn = (source : Source) (slot : Slot) (settled : Settled) → settled_in source slot ≡ Some settled → (name : List ℕ) → Contains (touched source settled) name → Contains (names_of source) name
