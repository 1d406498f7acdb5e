-- What a refusal gives.
use Rattle.std.specs.Prelude.{◌≡◌, ◌⊎◌, ℕ, List, Option, IfSome}
use Rattle.acq_outside.specs.Count.{Rose}
use Rattle.acq_outside.specs.Sink.{Wrote, WrotePart}
use Rattle.start_values.specs.declared.refused.Refused.{Refused}
use Rattle.start_values.specs.Environment.{Known}
use Rattle.start_values.specs.Start.{IsRefusal}
use Rattle.start_values.specs.Refused.{line_of, status_of}

-- its line was written whole, the output didn't fail and the status is its own; or the output failed within the line
abbrev pub WritesRefusal : ℕ → ℕ → Option (List ℕ) → Option (List ℕ) → Refused → ℕ → Type 0
WritesRefusal faults_before faults_after before after refused result =
    ((result ≡ status_of refused) × (faults_after ≡ faults_before) × Wrote before (line_of refused) after)
    ⊎ ((result ≡ 105) × Rose faults_before faults_after × WrotePart before (line_of refused) after)

-- a refusal was told so, which has its cause in what the process was started with, where that is told
abbrev pub IsRefusalWritten : Option Known → ℕ → ℕ → Option (List ℕ) → Option (List ℕ) → ℕ → Type 0
IsRefusalWritten told faults_before faults_after before after status =
    (refused : Refused) × IfSome told (λ known. IsRefusal known refused) × WritesRefusal faults_before faults_after before after refused status
