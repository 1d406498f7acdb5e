-- A day of what its parts tell, and both days of theirs.
use mir.Val.{of_z, to_z}
use Rattle.std.proofs.Common.{◌≡◌, ◌∙◌, ℕ, ℤ, w64, List, length, None, Ok, sym, ap, subst}
use Rattle.std.specs.Prelude.{Result}
use Rattle.std.specs.List.{count_by}
use Rattle.acq_base.specs.Mirror.{MirrorMap}
use Rattle.configuration.specs.declared.configuring.Configured.{Configured}
use Rattle.configuration.specs.declared.error.ConfigurationError.{ConfigurationError}
use Rattle.mirror_maker.specs.Made.{first_mirror, first_moment, list_text, second_mirror, second_moment}
use Rattle.run_model.specs.Runs.{is_installed}
use Rattle.update_engine.specs.Run.{Run}
use Rattle.update_model.specs.Outcomes.{Directory}
use Rattle.update_model.specs.declared.log.RunLog.{RunLog}
use Rattle.generated_days.specs.Days.{AreDaysOf, Configures, HasBytes, IsDayOver, run_at}
use Rattle.generated_days.specs.Told.{TellsDay}
use Rattle.generated_days.specs.declared.days.Day.{Day}

pub day-of : (mirror : MirrorMap) (run : Run) (before after : Directory) (log : RunLog) (installed asks bytes : ℕ) → TellsDay mirror run before after log
    → installed ≡ count_by is_installed log.verdicts → asks ≡ length log.asks → HasBytes after bytes
    → IsDayOver mirror run before after (record { installed = installed; asks = asks; bytes = bytes })
day-of mirror run before after log installed asks bytes tells first second has = record {
  parts = tells.parts;
  none = tells.none;
  installed = first ∙ tells.installed;
  asks = second ∙ tells.asks;
  next = tells.next;
  bytes = has;
}

-- a moment that a word holds
pub held : (t m : ℤ) → t ≡ m → to_z w64 (of_z w64 m) ≡ m → to_z w64 (of_z w64 t) ≡ m
held t m is same = ap (λ (u : ℤ). to_z w64 (of_z w64 u)) is ∙ same

ok-once : (a b : Configured) → ◌≡◌ {A = Result Configured ConfigurationError} (Ok a) (Ok b) → a ≡ b
ok-once a b e = cc

pub days-of : (number : ℕ) (list other : List ℕ) (it again : Configured) (rows later : MirrorMap) (now then_now : ℤ) (before between after : Directory) (first second : Day)
    → list ≡ list_text → other ≡ list_text → Configures list it → Configures other again → rows ≡ first_mirror number → later ≡ second_mirror number → now ≡ first_moment → then_now ≡ second_moment
    → ((name : List ℕ) → before name ≡ None) → IsDayOver rows (run_at it now) before between first → IsDayOver later (run_at again then_now) between after second → AreDaysOf number first second
days-of number list other it again rows later now then_now before between after first second text same given given_again is_first is_second at at_then none one two =
    let same_it : again ≡ it = ok-once again it (sym (subst (λ (l : List ℕ). Configures l again) (same ∙ sym text) given_again) ∙ given) in record {
      it = it;
      configures = subst (λ (l : List ℕ). Configures l it) text given;
      before = before;
      none = none;
      between = between;
      after = after;
      first_day = subst (λ (m : MirrorMap). IsDayOver m (run_at it first_moment) before between first) is_first (subst (λ (t : ℤ). IsDayOver rows (run_at it t) before between first) at one);
      second_day = subst (λ (m : MirrorMap). IsDayOver m (run_at it second_moment) between after second) is_second
          (subst (λ (t : ℤ). IsDayOver later (run_at it t) between after second) at_then (subst (λ (c : Configured). IsDayOver later (run_at c then_now) between after second) same_it two));
    }
