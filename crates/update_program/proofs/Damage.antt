-- Damage of the journal, and what a run answers of it.
use Rattle.std.proofs.Common.{◌≡◌, ℕ, Option, Some, None, Ok, Err, refl, inl, inr}
use Rattle.run_jobs.specs.declared.error.RunError.TheVariants.{BadJournal}
use Rattle.update_engine.specs.Run.{RunFindsDamage}
use Rattle.update_model.specs.declared.log.RunLog.{RunLog}

-- the place that is told is that of the damage
pub told_at : (damage : Option ℕ) (at : ℕ) → RunFindsDamage damage (Err (BadJournal at)) → damage ≡ Some at
told_at None at finds = absurd (finds at refl)
told_at (Some place) at (inl same) = cc
told_at (Some place) at (inr (inl fault)) = absurd cc
told_at (Some place) at (inr (inr want)) = absurd cc

-- beside a log there is none
pub none_told : (damage : Option ℕ) (log : RunLog) → RunFindsDamage damage (Ok log) → damage ≡ None
none_told None log finds = refl
none_told (Some place) log (inl told) = absurd cc
none_told (Some place) log (inr (inl fault)) = absurd cc
none_told (Some place) log (inr (inr want)) = absurd cc
