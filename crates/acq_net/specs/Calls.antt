-- Which calls of a connection in memory fail, and how they are counted.
use Rattle.std.specs.Prelude.{◌≡◌, ◌≤◌, ℕ, ◌==◌, Bool, false, if◌then◌else◌, List, IsTrue, Result, IsErr, MatchResult}
use Rattle.std.specs.List.{list_any}
use Rattle.acq_outside.specs.Count.{Rose, one_more}
use Rattle.acq_net.specs.declared.calls.Calls.{Calls}

-- A fault is counted: the count didn't fall, and it rose.
pub record CountsOne (before after : ℕ) : Type 0 where
  pub count : before ≤ after
  pub fault : Rose before after

-- before any call
abbrev pub fresh_calls : List ℕ → Calls
fresh_calls listed = record { listed = listed; made = 0; faults = 0; dry = 0 }

-- whether the next call is to fail
abbrev pub is_listed : Calls → Bool
is_listed calls = list_any (λ number. number == one_more calls.made) calls.listed

-- after the next call, which is a fault where it is to fail
abbrev pub counted : Calls → Calls
counted calls = record { listed = calls.listed; made = one_more calls.made; faults = if is_listed calls then one_more calls.faults else calls.faults; dry = calls.dry }

-- after a fault by want of memory
abbrev pub starved : Calls → Calls
starved calls = record { listed = calls.listed; made = calls.made; faults = one_more calls.faults; dry = one_more calls.dry }

-- after a fault by want of a connection, or of a port number at which peers could make one
abbrev pub unconnected : Calls → Calls
unconnected calls = record { listed = calls.listed; made = calls.made; faults = one_more calls.faults; dry = calls.dry }

-- a listed call fails
abbrev pub FailsAsListed : {T E : Type 0} → Calls → Calls → Result T E → Type 0
FailsAsListed old new result = IsTrue (is_listed old) → IsErr result × (new ≡ counted old)

-- another one fails for want of memory alone
abbrev pub FailsDryAlone : {T E : Type 0} → Calls → Calls → Result T E → Type 0
FailsDryAlone old new result = is_listed old ≡ false → MatchResult result (λ _. new ≡ counted old) (λ _. new ≡ starved (counted old))

-- another one fails for want of a connection, or of a port number at which peers could make one
abbrev pub FailsUnconnected : {T E : Type 0} → Calls → Calls → Result T E → Type 0
FailsUnconnected old new result = is_listed old ≡ false → IsErr result × (new ≡ unconnected (counted old))
