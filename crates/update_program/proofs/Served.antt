-- The status of an update over a mirror that serves all sources whole.
use Rattle.std.proofs.Common.{◌≡◌, ◌⊎◌, ◌∙◌, ℕ, zero, suc, false, List, [], ◌∷◌, length, Option, Some, None, inl, inr, refl, sym, ap, subst}
use Rattle.std.specs.Prelude.{slice_get}
use Rattle.std.specs.List.{list_any, AllByRecursion as Each}
use Rattle.acq_base.specs.Mirror.{MirrorMap}
use Rattle.acq_base.specs.declared.plan.Source.{Source}
use Rattle.board_model.specs.RunLaws.{HasSet}
use Rattle.journal_model.specs.Reopen.{installed_now}
use Rattle.run_jobs.specs.Mirrors.{ForMirror}
use Rattle.run_model.proofs.Counting.{there_too, verdicts_count}
use Rattle.run_promises.specs.Claims.{Serves, TellsServed, TellsServedOverMirror}
use Rattle.update_engine.specs.Run.{Engine, LogIsTrue, Run}
use Rattle.update_model.specs.declared.log.RunLog.{RunLog}
use Rattle.update_model.specs.declared.settled.Held.{Held}
use Rattle.update_model.specs.declared.settled.Verdict2.{Verdict2}
use Rattle.update_program.specs.Headline.{StatusIsZeroOverMirror}
use Rattle.update_program.specs.Objects.{Output}
use Rattle.update_program.specs.Said.{Writes, WritesReportOrMemory, is_kept, status_of_verdicts}

each_there : {A : Type 0} (P : A → Type 0) (xs : List A) (n : ℕ) (x : A) → Each P xs → slice_get xs n ≡ Some x → P x
each_there P [] n x each is = absurd (cc)
each_there P (y ∷ xs) zero x each is = let same : y ≡ x = cc in subst P same each.0
each_there P (y ∷ xs) (suc n) x each is = each_there P xs n x each.1 is

-- no verdict is kept where each is not
none_kept : (verdicts : List Verdict2) → ((n : ℕ) (verdict : Verdict2) → slice_get verdicts n ≡ Some verdict → is_kept verdict ≡ false) → list_any is_kept verdicts ≡ false
none_kept [] each = refl
none_kept (verdict ∷ verdicts) each = rw (each 0 verdict refl) (none_kept verdicts (λ n other is. each (suc n) other is))

has_is_not_kept : (verdict : Verdict2) (held : Held) → HasSet verdict held → is_kept verdict ≡ false
has_is_not_kept verdict held (inl new) = rw new refl
has_is_not_kept verdict held (inr hit) = rw hit refl

all_told : (run : Run) (mirror : MirrorMap) (before after : Engine) (log : RunLog) → LogIsTrue run before after log → TellsServed run mirror (installed_now before.trace) log
    → Each (Serves run mirror (installed_now before.trace)) run.plan.sources → list_any is_kept log.verdicts ≡ false
all_told run mirror before after log logged tells serves = none_kept log.verdicts (λ n verdict is. by n verdict is (there_too log.verdicts run.plan.sources n verdict many is))
  where
    many : length log.verdicts ≡ length run.plan.sources
    many = ap length logged.tells.verdicts ∙ (verdicts_count logged.begun.config logged.begun.olds logged.heard logged.tells.board logged.tells.reached ∙ ap length logged.of_run.sources)

    by : (n : ℕ) (verdict : Verdict2) → slice_get log.verdicts n ≡ Some verdict → (source : Source) × (slice_get run.plan.sources n ≡ Some source) → is_kept verdict ≡ false
    by n verdict is there =
        let set = tells n there.0 there.1 (each_there (Serves run mirror (installed_now before.trace)) run.plan.sources n there.0 serves there.1) in
        let same : verdict ≡ set.verdict = let both : Some verdict ≡ Some set.verdict = sym is ∙ set.told in cc in
        ap is_kept same ∙ has_is_not_kept set.verdict _ set.has

-- the status beside such a log
status_for : (before after : Output) (run : Run) (log : RunLog) (status : ℕ) → list_any is_kept log.verdicts ≡ false → WritesReportOrMemory before after run.plan log status
    → (status ≡ 0) ⊎ ((status ≡ 103) ⊎ (status ≡ 105))
status_for before after run log status none (inr (inl memory)) = inr (inl memory.0)
status_for before after run log status none (inr (inr failed)) = inr (inr failed.0)
status_for before after run log status none (inl report) = by report.said
  where
    zero_is : status_of_verdicts log.verdicts ≡ 0
    zero_is = rw none refl

    by : Writes before after report.text (status_of_verdicts log.verdicts) status → (status ≡ 0) ⊎ ((status ≡ 103) ⊎ (status ≡ 105))
    by (inl said) = inl (said.0 ∙ zero_is)
    by (inr failed) = inr (inr failed.0)

-- of each mirror that all methods tell
for_each : (told : List (Option MirrorMap)) (P Q : MirrorMap → Type 0) → ForMirror told P → ((mirror : MirrorMap) → P mirror → Q mirror) → ForMirror told Q
for_each [] P Q is f = tt
for_each (None ∷ others) P Q is f = tt
for_each (Some mirror ∷ others) P Q is f = λ same. f mirror (is same)

pub ends_well : (run : Run) (before after : Engine) (out out' : Output) (log : RunLog) (status : ℕ) → LogIsTrue run before after log → TellsServedOverMirror run before log → WritesReportOrMemory out out' run.plan log status
    → StatusIsZeroOverMirror run before log status
ends_well run before after out out' log status logged tells said =
    for_each before.mirrors _ _ tells (λ mirror served synced few serves. status_for out out' run log status (all_told run mirror before after log logged (served synced few) serves) said)
