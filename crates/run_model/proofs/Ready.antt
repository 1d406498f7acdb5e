-- A source as it is settled: its changes, and the outcome that they leave.
use Rattle.std.proofs.Common.{◌≡◌, refl, sym, ap, ◌∙◌, subst, ℕ, Bool, true, false, List, [], Some, Ok, Err}
use Rattle.std.specs.Prelude.{if◌then◌else◌, slice_get}
use Rattle.acq_base.specs.Plan.{IsPlanned}
use Rattle.acq_base.specs.declared.installed.Old.{Old}
use Rattle.acq_base.specs.declared.plan.Source.{Source}
use Rattle.board_bounds.specs.Names.{PartialNamesAreOthers, PlannedNamesAreLists, PlannedNamesArePutNames}
use Rattle.board_model.specs.Boards.{Board, first_ready, settled_of}
use Rattle.board_model.specs.Ends.{verdict_for}
use Rattle.board_model.specs.Laws.{BoardsStand, SettledSourcesCome}
use Rattle.board_model.specs.Reached.{Reached}
use Rattle.board_model.specs.RunLaws.{IsSourceAt}
use Rattle.board_model.specs.Runs.{Note}
use Rattle.board_model.specs.SetLaws.{ChangesLeaveOutcomes, TouchedAreApart, TouchedAreOwn}
use Rattle.board_model.specs.Settling.{held_of, settled_in}
use Rattle.board_model.specs.Slots.{Setup, Slot, is_ready, is_there}
use Rattle.board_model.specs.Stands.{IsOpen, StandsAt, history_of}
use Rattle.list_commits.specs.SetLaws.{ChangesMakeSets, HasPutNames, LooseNamesAreLoose, OwnsChanges}
use Rattle.update_model.specs.Outcomes.{AdmittedRelease, Outcome, Older, Kept}
use Rattle.update_model.specs.declared.settled.Held.{Held}
use Rattle.update_model.specs.declared.settled.Settled.{Settled}
use Rattle.update_model.specs.declared.settled.Verdict2.{Verdict2}
use Rattle.update_model.specs.declared.settled.Verdict2.TheVariants.{Installed, Hit}
use Rattle.board_model.proofs.Places.{bound}
use Rattle.board_model.proofs.Events.{ready-slot}
use Rattle.board_model.proofs.Agreement.{come-open}
use Rattle.board_bounds.proofs.Asking.{reached-stands}

-- what the crates below say of a source that is settled
pub record Below : Type 0 where
  pub stand : BoardsStand
  pub come : SettledSourcesCome
  pub leave : ChangesLeaveOutcomes
  pub own : TouchedAreOwn
  pub apart : TouchedAreApart
  pub make : ChangesMakeSets
  pub puts : PlannedNamesArePutNames
  pub lists : PlannedNamesAreLists
  pub others : PartialNamesAreOthers
  pub loose : LooseNamesAreLoose

-- ---- a source that is ready

pub record WasReady (config : Setup) (n : ℕ) (source : Source) (old : Old) (notes : List Note) (settled : Settled) : Type 0 where
  pub slot : Slot
  pub open_slot : IsOpen config n source old slot (history_of n notes)
  pub ready : is_ready slot ≡ true
  pub comes_to : settled_in source slot ≡ Some settled

pub was_ready : BoardsStand → (config : Setup) (olds : List Old) (notes : List Note) (b : Board) (n : ℕ) (source : Source) (old : Old) (settled : Settled)
    → Reached config olds notes b → first_ready b.slots ≡ Some n → settled_of b n ≡ Some settled → IsSourceAt config olds n source old → WasReady config n source old notes settled
was_ready law config olds notes b n source old settled r ready is at =
    let stand = reached-stands law config olds notes b r in
    let s : StandsAt config n source old (record { board = b; jobs = r.jobs; queue = []; notes = notes }) = stand.sources n source old at.source_is at.old_is in
    let x = ready-slot b.slots n ready in
    let slot_both : Some x.0 ≡ Some s.slot = sym x.1 ∙ s.slot_is in
    let slot_same : x.0 ≡ s.slot = cc in
    let is_ready_slot : is_ready s.slot ≡ true = subst (λ (y : Slot). is_ready y ≡ true) slot_same x.2 in
    let p = bound (slice_get b.config.sources n) _ settled is in
    let q = bound (slice_get b.slots n) _ settled p.2 in
    let source_both : Some p.0 ≡ Some source = sym p.1 ∙ ap (λ (c : Setup). slice_get c.sources n) stand.config_is ∙ at.source_is in
    let source_same : p.0 ≡ source = cc in
    let q_both : Some q.0 ≡ Some s.slot = sym q.1 ∙ s.slot_is in
    let q_same : q.0 ≡ s.slot = cc in
    record {
      slot = s.slot;
      open_slot = come-open config n source old s.slot s.verdict (history_of n notes) s.stands is_ready_slot;
      ready = is_ready_slot;
      comes_to = subst (λ (z : Slot). settled_in source z ≡ Some settled) q_same (subst (λ (z : Source). settled_in z q.0 ≡ Some settled) source_same q.2);
    }

-- ---- its changes

pub put_names : Below → (source : Source) → IsPlanned source → HasPutNames source
put_names below source planned = record { put = below.puts source planned; listed = below.lists source planned; others = below.others source planned }

pub owns : Below → (config : Setup) (n : ℕ) (source : Source) (old : Old) (notes : List Note) (settled : Settled) → WasReady config n source old notes settled → IsPlanned source → OwnsChanges source settled
owns below config n source old notes settled was planned = record {
  own = below.own source was.slot settled was.comes_to;
  apart = below.apart config n source old was.slot (history_of n notes) settled was.open_slot was.comes_to planned;
}

-- ---- the outcome that they leave

verdict_is_set : (source : Source) (old : Old) (came_to : Outcome) (held : Held) → Installed held ≡ verdict_for source old came_to → (set : AdmittedRelease) × (came_to ≡ Ok set) × (held ≡ held_of source set)
verdict_is_set source old (Ok set) held is = (set, refl, one (is_there source old set) is)
  where
    one : (c : Bool) → Installed held ≡ (if c then Hit (held_of source set) else Installed (held_of source set)) → held ≡ held_of source set
    one true e = absurd (cc)
    one false e = cc
verdict_is_set source old (Err (Older date)) held is = absurd (cc)
verdict_is_set source old (Err (Kept cause)) held is = absurd (cc)

pub installed_set : (source : Source) (old : Old) (came_to : Outcome) (verdict : Verdict2) (held : Held) → verdict ≡ verdict_for source old came_to → verdict ≡ Installed held
    → (set : AdmittedRelease) × (came_to ≡ Ok set) × (held ≡ held_of source set)
installed_set source old came_to verdict held is installs = verdict_is_set source old came_to held (sym installs ∙ is)
