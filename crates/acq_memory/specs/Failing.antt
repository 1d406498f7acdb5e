-- How the calls of an object in memory are counted, and which of them are to fail.
use Rattle.std.specs.Prelude.{◌≡◌, ℕ, ◌+◌, ◌-◌, ◌^◌, ◌==◌, ◌||◌, nat_lt, min, Bool, false, if◌then◌else◌, List, Option, Some, None, IsTrue, Result, IsErr, MatchResult}
use Rattle.std.specs.List.{list_any}
use Rattle.acq_outside.specs.Count.{one_more}
use Rattle.acq_memory.specs.declared.failing.Failing.{Failing}

-- before any call
abbrev pub fresh : List ℕ → Failing
fresh listed = record { listed = listed; last = None; calls = 0; faults = 0; dry = 0 }

-- so many further calls may be done, and then none
abbrev pub fused : Failing → ℕ → Failing
fused failing n = record { listed = failing.listed; last = Some (min (failing.calls + n) (2 ^ 64 - 1)); calls = failing.calls; faults = failing.faults; dry = failing.dry }

-- whether a call of this number comes behind the last that may be done
abbrev pub is_past : Option ℕ → ℕ → Bool
is_past None number = false
is_past (Some last) number = nat_lt last number

-- whether the next call is to fail
abbrev pub is_listed : Failing → Bool
is_listed failing = list_any (λ number. number == one_more failing.calls) failing.listed || is_past failing.last (one_more failing.calls)

-- after the next call, which is a fault where it is to fail
abbrev pub counted : Failing → Failing
counted failing =
    record { listed = failing.listed; last = failing.last; calls = one_more failing.calls; faults = if is_listed failing then one_more failing.faults else failing.faults; dry = failing.dry }

-- after a fault by want of memory
abbrev pub starved : Failing → Failing
starved failing = record { listed = failing.listed; last = failing.last; calls = failing.calls; faults = one_more failing.faults; dry = one_more failing.dry }

-- a listed call fails
abbrev pub FailsAsListed : {T E : Type 0} → Failing → Failing → Result T E → Type 0
FailsAsListed old new result = IsTrue (is_listed old) → IsErr result × (new ≡ counted old)

-- another one fails for want of memory alone
abbrev pub FailsDryAlone : {T E : Type 0} → Failing → Failing → Result T E → Type 0
FailsDryAlone old new result = is_listed old ≡ false → MatchResult result (λ _. new ≡ counted old) (λ _. new ≡ starved (counted old))
