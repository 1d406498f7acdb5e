-- From the end of one call to that of the call above it.
use Rattle.std.proofs.Common.{◌≡◌, ℕ, ℤ, Bool, List, Option, Some, Ok, Err, IsTrue, inl, inr}
use Rattle.acq_outside.specs.Etc.{EtcFiles}
use Rattle.command_words.specs.declared.request.Options.{Options}
use Rattle.configuration.specs.Configured.{IsAnswer}
use Rattle.configuration.specs.declared.configuring.Configured.{Configured}
use Rattle.configuration.specs.declared.error.ConfigurationError.{ConfigurationError}
use Rattle.configuration.specs.declared.error.ConfigurationError.TheVariants.{Fault, NoMemory}
use Rattle.commit_journal.specs.Opening.{damage_of}
use Rattle.report_text.specs.Refused.{line_of}
use Rattle.report_text.specs.declared.fault.FaultLine.TheVariants.{Journal}
use Rattle.run_jobs.specs.declared.error.RunError.TheVariants.{BadJournal}
use Rattle.update_engine.specs.Run.{Run, RunFindsDamage}
use Rattle.update_model.specs.declared.log.RunLog.{RunLog}
use Rattle.update_program.specs.Asked.{GivesConfiguration}
use Rattle.update_program.proofs.Damage.{told_at}
use Rattle.update_program.specs.Ending.{EndsUpdateOf, RunsAt, RunsAtClock, IsNoRun, HasNoConfiguration, WritesWhyNoLog}
use Rattle.update_program.specs.Objects.{Objects}
use Rattle.update_program.specs.Said.{WritesFault}

-- a run at this moment is one at the moment that the clock gave
pub with_time : (it : Configured) (together : Bool) (time : ℤ) (moment : Option ℤ) (before after : Objects) (log : Option RunLog) (status : ℕ)
    → moment ≡ Some time → RunsAt it together time before after log status → RunsAtClock it together moment before after log status
with_time it together time moment before after log status is (inl ran) = inl (time, is, ran)
with_time it together time moment before after log status is (inr none) = inr (none.0, inr (inr none.1))

-- what was read is what the files give
pub given : (told : Option EtcFiles) (pairs : List (List ℕ)) (it : Configured) → IsAnswer told pairs (Ok it) → GivesConfiguration told pairs (Ok it)
given told pairs it (inl never) = absurd cc
given told pairs it (inr (inl never)) = absurd cc
given told pairs it (inr (inr answer)) = record { files = answer.0; those = answer.1; give = answer.2 }

-- a configuration that was read ends the call as its run does
pub configured_ends : (told : Option EtcFiles) (options : Options) (moment : Option ℤ) (it : Configured) (before after : Objects) (log : Option RunLog) (status : ℕ)
    → IsAnswer told options.pairs (Ok it) → RunsAtClock it options.together moment before after log status → EndsUpdateOf told options moment before after log status
configured_ends told options moment it before after log status answer ends = record { way = inl (it, given told options.pairs it answer, ends) }

-- a damaged journal is told at its place
pub says_damage : (run : Run) (before after : Objects) (at status : ℕ) → (IsTrue before.tells → RunFindsDamage (damage_of before.files) (Err (BadJournal at)))
    → after.files ≡ before.files → WritesFault before.out after.out (Journal at) status → WritesWhyNoLog run before after status
says_damage run before after at status finds same said = inr (inl (at, (λ tells. told_at (damage_of before.files) at (finds tells)), same, said))

-- a configuration that wasn't read ends the call by its line
pub refusal_ends : (told : Option EtcFiles) (options : Options) (moment : Option ℤ) (refusal : ConfigurationError) (before after : Objects) (log : Option RunLog) (status : ℕ)
    → IsAnswer told options.pairs (Err refusal) → WritesFault before.out after.out (line_of refusal) status → IsNoRun before after log
    → EndsUpdateOf told options moment before after log status
refusal_ends told options moment refusal before after log status (inl want) said none = record { way = inr (none, by refusal (cc) said) }
  where
    by : (refusal : ConfigurationError) → refusal ≡ NoMemory → WritesFault before.out after.out (line_of refusal) status → HasNoConfiguration told options.pairs before after status
    by NoMemory is (inl memory) = inr (inr memory)
    by refusal is (inr memory) = inr (inr memory)
    by refusal is (inl line) = absurd cc
refusal_ends told options moment refusal before after log status (inr (inl fault)) said none = record { way = inr (none, by refusal (cc) said) }
  where
    by : (refusal : ConfigurationError) → refusal ≡ Fault → WritesFault before.out after.out (line_of refusal) status → HasNoConfiguration told options.pairs before after status
    by Fault is (inl etc) = inr (inl etc)
    by refusal is (inr memory) = inr (inr memory)
    by refusal is (inl line) = absurd cc
refusal_ends told options moment refusal before after log status (inr (inr answer)) said none =
    record { way = inr (none, inl (refusal, record { files = answer.0; those = answer.1; give = answer.2 }, said)) }
