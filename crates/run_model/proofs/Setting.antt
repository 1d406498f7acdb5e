-- The new set that the changes of a settled source leave.
use Rattle.std.proofs.Common.{◌≡◌, ◌∙◌, refl, sym, ap, subst, ℕ, Bool, true, List, Option, Some, Result, Ok, Err}
use Rattle.acq_base.specs.Plan.{IsPlanned}
use Rattle.acq_base.specs.declared.installed.Old.{Old}
use Rattle.acq_base.specs.declared.plan.Source.{Source}
use Rattle.acq_outside.specs.Disk.{Files}
use Rattle.board_model.specs.Changes.{AreMade, IsInstalled}
use Rattle.board_model.specs.Ends.{ComesTo}
use Rattle.board_model.specs.Runs.{Note}
use Rattle.board_model.specs.Settling.{ends_in, had, held_of, settled_in, settled_lists, staying_verdict, unchanged}
use Rattle.board_model.specs.Slots.{Setup, Standing, Slot, Asking, Listing, Refused, SettledSlot, is_ready}
use Rattle.board_model.specs.Stands.{HasCome, IsOpen, history_of}
use Rattle.update_model.specs.Next.{OutcomeLeaves}
use Rattle.update_model.specs.Outcomes.{AdmittedRelease, Outcome, Staying, Older, Kept, admitted, all_had}
use Rattle.update_model.specs.Points.{Point, Over}
use Rattle.update_model.specs.declared.end.End.{End}
use Rattle.update_model.specs.declared.settled.Held.{Held}
use Rattle.update_model.specs.declared.settled.Settled.{Settled}
use Rattle.update_model.specs.declared.settled.Verdict2.{Verdict2}
use Rattle.update_model.specs.declared.settled.Verdict2.TheVariants.{Installed}
use Rattle.run_model.specs.Coming.{outcome_at}
use Rattle.run_model.proofs.Ends.{set_admitted, ok_once}
use Rattle.run_model.proofs.Ready.{Below, WasReady, installed_set}

-- a source that is settled with a new set came to it, and its changes leave it
pub record LeavesSet (config : Setup) (n : ℕ) (source : Source) (old : Old) (notes : List Note) (verdict : Verdict2) (held : Held) (before after : Files) : Type 0 where
  pub set : AdmittedRelease
  pub comes : ComesTo config n source old (history_of n notes) verdict
  pub is : outcome_at config old comes.end comes.lists ≡ Ok set
  pub held_is : held ≡ held_of source set
  pub leaves : OutcomeLeaves (Ok set) source before after

stays_kept : (why : Staying) (held : Held) → staying_verdict why ≡ Installed held → ⊥
stays_kept (Older date) held is = absurd (cc)
stays_kept (Kept cause) held is = absurd (cc)

-- nothing but a whole set is installed
all_there : (source : Source) (set : AdmittedRelease) (there : Bool) (lists : List (Option Standing)) (came : Result (Unit {0}) Staying) (settled : Settled) (held : Held) → settled_lists source set there lists came ≡ settled → settled.verdict ≡ Installed held → had set came ≡ Ok set
all_there source set there lists (Ok each) settled held is installs = refl
all_there source set there lists (Err why) settled held is installs =
    absurd (stays_kept why held (ap (λ (s : Settled). s.verdict) is ∙ installs))

over_same : (p : Point) (end end' : End) → p ≡ Over end → p ≡ Over end' → end ≡ end'
over_same p end end' is is' = let both : Over end ≡ Over end' = sym is ∙ is' in cc

listed_set : Below → (config : Setup) (n : ℕ) (source : Source) (old : Old) (notes : List Note) (settled : Settled) (held : Held) (before after : Files) (set : AdmittedRelease) (there : Bool) (lists : List (Option Standing))
    → IsOpen config n source old (Listing set there lists) (history_of n notes) → is_ready (Listing set there lists) ≡ true → settled_in source (Listing set there lists) ≡ Some settled
    → settled.verdict ≡ Installed held → IsPlanned source → IsInstalled source old before → AreMade source settled before after
    → LeavesSet config n source old notes settled.verdict held before after
listed_set below config n source old notes settled held before after set there lists h ready is installs planned installed made =
    let came : HasCome config n source old (history_of n notes 0) (Ok set) = h.0 in
    let comes = below.come config n source old settled.verdict (history_of n notes) (record { slot = Listing set there lists; open_slot = h; ready = ready; settled = settled; comes_to = is; told = refl }) in
    let lists_settled : settled_lists source set there lists (all_had (ends_in lists)) ≡ settled = cc in
    let whole : had set (all_had (ends_in lists)) ≡ Ok set = all_there source set there lists (all_had (ends_in lists)) settled held lists_settled installs in
    let found = installed_set source old (outcome_at config old comes.end comes.lists) settled.verdict held comes.is installs in
    let ended : came.end ≡ comes.end = over_same _ came.end comes.end came.ends comes.release.ends in
    let first : admitted comes.end old.release config.settings config.change config.now ≡ Ok set =
    subst (λ (e : End). admitted e old.release config.settings config.change config.now ≡ Ok set) ended came.came_to in
    let same : found.0 ≡ set = ok_once (admitted comes.end old.release config.settings config.change config.now) found.0 set (set_admitted config old comes.end comes.lists found.0 found.1) first in
    record {
      set = set;
      comes = comes;
      is = found.1 ∙ ap (λ (s : AdmittedRelease). Ok s) same;
      held_is = found.2 ∙ ap (held_of source) same;
      leaves = subst (λ (o : Outcome). OutcomeLeaves o source before after) whole
          (below.leave config n source old (Listing set there lists) (history_of n notes) settled (had set (all_had (ends_in lists))) before after h ready is refl planned installed made);
    }

pub leaves_set : Below → (config : Setup) (n : ℕ) (source : Source) (old : Old) (notes : List Note) (settled : Settled) (held : Held) (before after : Files)
    → WasReady config n source old notes settled → settled.verdict ≡ Installed held → IsPlanned source → IsInstalled source old before → AreMade source settled before after
    → LeavesSet config n source old notes settled.verdict held before after
leaves_set below config n source old notes settled held before after was installs planned installed made = one was.slot was.open_slot was.ready was.comes_to
  where
    one : (slot : Slot) → IsOpen config n source old slot (history_of n notes) → is_ready slot ≡ true → settled_in source slot ≡ Some settled → LeavesSet config n source old notes settled.verdict held before after
    one (Asking kept release) h ready is = absurd (cc)
    one (Listing set there lists) h ready is = listed_set below config n source old notes settled held before after set there lists h ready is installs planned installed made
    one (Refused why) h ready is =
        let kept : unchanged (staying_verdict why) ≡ settled = cc in
        absurd (stays_kept why held (ap (λ (s : Settled). s.verdict) kept ∙ installs))
    one SettledSlot h ready is = absurd h
