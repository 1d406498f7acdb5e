-- One run over one method over a mirror.
use Rattle.std.proofs.Common.{◌≡◌, ◌∙◌, ℕ, ◌||◌, nat_lt, Bool, true, false, List, [], ◌∷◌, length, map, Some, refl, ap, subst, arith}
use Rattle.std.specs.List.{list_any}
use Rattle.std.proofs.lemmas.Bool.Decides.{nat_tests}
use Rattle.acq_base.specs.Mirror.{MirrorMap}
use Rattle.acq_outside.specs.Crash.{AllSound, IsShown, State}
use Rattle.acq_outside.specs.Disk.{Files}
use Rattle.acq_memory.specs.Failing.{fresh}
use Rattle.acq_memory.specs.MapMethod.{MapState, all_faults, faults_of}
use Rattle.acq_outside.specs.States.{IsTold, ToldAs}
use Rattle.acq_memory.specs.declared.failing.Failing.{Failing}
use Rattle.journal_model.specs.Reopen.{installed_now}
use Rattle.journal_model.specs.Rest.{IsAtRest, IsSynced}
use Rattle.acq_outside.specs.Count.{NoneFell}
use Rattle.update_engine.specs.Run.{Engine, KeepsMethods, LogIsTrue, Run}
use Rattle.update_model.specs.declared.log.RunLog.{RunLog}
use Rattle.generated_days.specs.Clear.{IsClear}
use Rattle.generated_days.specs.Told.{LogsTellDays, TellsDay}

pub is-told : (files : Files) (trace : List State) → IsShown true files trace → IsTold trace
is-told files [] shown = let e : true ≡ false = shown in absurd (cc)
is-told files (s ∷ past) shown = tt

-- a method that has made no call has no fault
no-fault : (failing failing_more : Failing) → failing ≡ fresh [] → failing_more ≡ fresh [] → all_faults failing failing_more ≡ 0
no-fault failing failing_more first second = ap (λ (f : Failing). all_faults f failing_more) first ∙ ap (λ (f : Failing). all_faults (fresh []) f) second

no-count : (n : ℕ) (more : Bool) → (nat_lt 0 n || more) ≡ false → n ≡ 0
no-count n more none = by (nat_lt 0 n) refl none
  where
    by : (c : Bool) → nat_lt 0 n ≡ c → (c || more) ≡ false → n ≡ 0
    by true is e = absurd (cc)
    by false is e = grind (arith, nat_tests, is)

-- nor has one behind which none is counted
still-none : (methods : List MapState) → NoneFell (0 ∷ []) (map faults_of methods) → list_any (λ m. nat_lt 0 (faults_of m)) methods ≡ false → map faults_of methods ≡ 0 ∷ []
still-none [] kept none = absurd kept
still-none (m ∷ []) kept none = ap (λ (n : ℕ). n ∷ []) (no-count (faults_of m) false none)
still-none (m ∷ (other ∷ others)) kept none = absurd kept.1

abbrev engine_of : List State → List MapState → Engine
engine_of trace methods = record { trace = trace; mirrors = map (λ m. Some m.world) methods; faults = map faults_of methods }

pub running : LogsTellDays → (mirror : MirrorMap) (run : Run) (entry now : List State) (method : MapState) (methods later : List MapState) (log : RunLog)
    → methods ≡ method ∷ [] → method.world ≡ mirror → method.failing ≡ fresh [] → method.failing_more ≡ fresh []
    → KeepsMethods (record { trace = entry; mirrors = map (λ m. Some m.world) methods; faults = map faults_of methods }) (record { trace = now; mirrors = map (λ m. Some m.world) later; faults = map faults_of later })
    → list_any (λ m. nat_lt 0 (faults_of m)) later ≡ false
    → LogIsTrue run (record { trace = entry; mirrors = map (λ m. Some m.world) methods; faults = map faults_of methods }) (record { trace = now; mirrors = map (λ m. Some m.world) later; faults = map faults_of later }) log
    → length log.verdicts ≡ length run.plan.sources → ToldAs IsSynced entry → (files : Files) → IsShown true files entry → IsClear files → IsTold now → AllSound now
    → TellsDay mirror run (installed_now entry) (installed_now now) log × ToldAs (IsAtRest (installed_now now)) now
running law mirror run entry now method methods later log one world first second kept none logged as_many settled files shown clear told sound =
    law mirror run (engine_of entry methods) (engine_of now later) log logged as_many (record {
      world = ap (λ (ms : List MapState). map (λ m. Some m.world) ms) one ∙ ap (λ (w : MirrorMap). Some w ∷ []) world;
      none = counts;
      still_none = still-none later (subst (λ (c : List ℕ). NoneFell c (map faults_of later)) counts kept.counts) none;
      synced = settled;
      files = files;
      shown = shown;
      clear = clear;
      told = told;
      sound = sound;
    })
  where
    counts : map faults_of methods ≡ 0 ∷ []
    counts = ap (λ (ms : List MapState). map faults_of ms) one ∙ ap (λ (n : ℕ). n ∷ []) (no-fault method.failing method.failing_more first second)
