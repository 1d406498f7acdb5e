-- Rows from which no job is out any more.
use Rattle.std.proofs.Common.{◌≡◌, ◌∙◌, ◌⊎◌, ◌<◌, ◌≤◌, ◌+◌, ℕ, suc, nat_eq, false, true, List, [], ◌∷◌, length, Option, Some, None, refl, sym, ap, subst, arith, inl, inr}
use Rattle.std.specs.Prelude.{is_some, option_map, slice_get}
use Rattle.std.specs.List.{list_any}
use Rattle.std.proofs.lemmas.Bool.{cases_Bool}
use Rattle.std.proofs.lemmas.Bool.Decides.{nat_tests}
use Rattle.host_queues.proofs.Changes.{get-changed, get-other, length-changed}
use Rattle.host_queues.specs.Lanes.{changed_at}
use Rattle.lane_jobs.proofs.Over.{within_at}
use Rattle.lane_jobs.specs.JobsOut.{JobsOut, with_row}
use Rattle.lane_jobs.specs.declared.transfers.Transfer.{Transfer}

-- no job is out from the first lanes
abbrev pub NoneOutBelow : ℕ → JobsOut → Type 0
NoneOutBelow lanes jobs = (lane : ℕ) (t : Transfer) → lane < lanes → slice_get jobs.rows lane ≡ Some (Some t) → ⊥

pub none_below : (jobs : JobsOut) → NoneOutBelow 0 jobs
none_below jobs = λ lane t below at. absurd (omega (arith, below))

pub len_then : (lane : ℕ) (old new : JobsOut) → new ≡ with_row lane None old → length new.rows ≡ length old.rows
len_then lane old new is = ap (λ (jobs : JobsOut). length jobs.rows) is ∙ length-changed (λ was. None) old.rows lane

none_at : (rows : List (Option Transfer)) (lane : ℕ) (t : Transfer) → slice_get (changed_at lane (λ was. None) rows) lane ≡ Some (Some t) → ⊥
none_at rows lane t at = by (slice_get rows lane) (sym (get-changed (λ was. None) rows lane) ∙ at)
  where
    by : (o : Option (Option Transfer)) → option_map (λ (was : Option Transfer). None) o ≡ Some (Some t) → ⊥
    by None is = absurd (cc)
    by (Some row) is = absurd (cc)

-- nor from the next, once its row is none
pub below_then : (lane : ℕ) (old new : JobsOut) → new ≡ with_row lane None old → NoneOutBelow lane old → NoneOutBelow (lane + 1) new
below_then lane old new is none = λ l t below at. by l t below (subst (λ (jobs : JobsOut). slice_get jobs.rows l ≡ Some (Some t)) is at) (cases_Bool (nat_eq l lane))
  where
    by : (l : ℕ) (t : Transfer) → l < lane + 1 → slice_get (changed_at lane (λ was. None) old.rows) l ≡ Some (Some t) → (nat_eq l lane ≡ true) ⊎ (nat_eq l lane ≡ false) → ⊥
    by l t below at (inl same) =
        let here : l ≡ lane = grind (arith, nat_tests, same) in
        none_at old.rows lane t (subst (λ (n : ℕ). slice_get (changed_at lane (λ was. None) old.rows) n ≡ Some (Some t)) here at)
    by l t below at (inr apart) =
        let lower : l < lane = grind (arith, nat_tests, apart, below) in
        none l t lower (sym (get-other (λ was. None) old.rows lane l apart) ∙ at)

none_any : (rows : List (Option Transfer)) → ((lane : ℕ) (t : Transfer) → slice_get rows lane ≡ Some (Some t) → ⊥) → list_any is_some rows ≡ false
none_any [] never = refl
none_any (None ∷ rows) never = none_any rows (λ lane t at. never (suc lane) t at)
none_any (Some t ∷ rows) never = absurd (never 0 t refl)

pub none_left : (jobs : JobsOut) (lanes : ℕ) → length jobs.rows ≤ lanes → NoneOutBelow lanes jobs → list_any is_some jobs.rows ≡ false
none_left jobs lanes len none = none_any jobs.rows (λ lane t at. let within = within_at jobs.rows lane (Some t) at in none lane t (omega (arith, within, len)) at)
