-- Elements of lists, counts that stay, and a disk that tells.
use Rattle.std.proofs.Common.{◌≡◌, refl, ap, arith, ℕ, Bool, true, false, List, [], ◌∷◌, ◌++◌, Option, Some, None}
use Rattle.std.specs.Prelude.{filter, if◌then◌else◌}
use Rattle.std.specs.List.{AllByRecursion as Each}
use Rattle.acq_outside.specs.States.{IsTold}
use Rattle.acq_base.specs.Mirror.{MirrorMap}
use Rattle.board_model.specs.Agreeing.{Agrees}
use Rattle.run_jobs.specs.Mirrors.{ForMirror}
use Rattle.run_jobs.proofs.Agreed.{agrees_told}
pub use Rattle.run_jobs.proofs.Keeping.{told_on}
use Rattle.run_jobs.specs.Running.{AgreesWhereKnown}
use Rattle.acq_outside.specs.Count.{NoneFell}
use Rattle.update_engine.specs.Run.{Engine, LogIsTrue, Run}
use Rattle.update_model.specs.declared.log.RunLog.{RunLog}

-- ---- filters

pub filter_same : (p q : ℕ → Bool) (ns : List ℕ) → Each (λ n. p n ≡ q n) ns → filter p ns ≡ filter q ns
filter_same p q [] same = refl
filter_same p q (n ∷ ns) same = one (p n) (q n) same.0 (filter_same p q ns same.1)
  where
    one : (c d : Bool) → c ≡ d → filter p ns ≡ filter q ns → (if c then n ∷ filter p ns else filter p ns) ≡ (if d then n ∷ filter q ns else filter q ns)
    one c d e rest = rw (e, rest) refl

pub filter_last : (p : ℕ → Bool) (ns : List ℕ) (n : ℕ) → filter p (ns ++ n ∷ []) ≡ filter p ns ++ (if p n then n ∷ [] else [])
filter_last p [] n = one (p n)
  where
    one : (c : Bool) → (if c then n ∷ [] else []) ≡ [] ++ (if c then n ∷ [] else [])
    one c = refl
filter_last p (m ∷ ns) n = one (p m) (filter_last p ns n)
  where
    one : (c : Bool) → filter p (ns ++ n ∷ []) ≡ filter p ns ++ (if p n then n ∷ [] else [])
        → (if c then m ∷ filter p (ns ++ n ∷ []) else filter p (ns ++ n ∷ [])) ≡ (if c then m ∷ filter p ns else filter p ns) ++ (if p n then n ∷ [] else [])
    one true rest = ap (λ (xs : List ℕ). m ∷ xs) rest
    one false rest = rest

pub each_more : {A : Type 0} (P Q : A → Type 0) (xs : List A) → ((x : A) → P x → Q x) → Each P xs → Each Q xs
each_more P Q [] f each = tt
each_more P Q (x ∷ xs) f each = (f x each.0, each_more P Q xs f each.1)

-- ---- counts

pub none_fall : (counts : List ℕ) → NoneFell counts counts
none_fall [] = tt
none_fall (count ∷ counts) = (omega arith, none_fall counts)

-- ---- what a log tells of a mirror

-- of a disk that tells all of it is known
pub answers_told : (run : Run) (before after : Engine) (log : RunLog) (logged : LogIsTrue run before after log) → IsTold after.trace → ForMirror before.mirrors (λ mirror. Agrees mirror logged.begun.parts logged.begun.config.sources logged.heard)
answers_told run before after log logged told = by before.mirrors logged.answers
  where
    by : (mirrors : List (Option MirrorMap)) → ForMirror mirrors (λ mirror. AgreesWhereKnown after.trace mirror logged.begun.parts logged.begun.config.sources logged.heard)
        → ForMirror mirrors (λ mirror. Agrees mirror logged.begun.parts logged.begun.config.sources logged.heard)
    by [] answers = tt
    by (None ∷ others) answers = tt
    by (Some mirror ∷ others) answers = λ same. agrees_told after.trace mirror logged.begun.parts logged.begun.config.sources logged.heard told (answers same)
