-- What a package file that is asked for rests on.
use Rattle.std.proofs.Common.{◌≡◌, ◌∙◌, ℕ, List, [], Option, Ok, Err, inl, inr, refl}
use Rattle.acq_outside.specs.Etc.{EtcFiles}
use Rattle.acq_outside.specs.Crash.{State}
use Rattle.acq_outside.specs.States.{From, Since}
use Rattle.acq_outside.specs.declared.disk.Disk as disks
use Rattle.acq_outside.specs.declared.method.Method as methods
use Rattle.commit_journal.specs.Opening.{Recovers}
use Rattle.configuration.specs.Configured.{IsAnswer}
use Rattle.configuration.specs.declared.configuring.Configured.{Configured}
use Rattle.configuration.specs.declared.error.ConfigurationError.{ConfigurationError}
use Rattle.configuration.specs.declared.error.ConfigurationError.TheVariants.{Fault, NoMemory}
use Rattle.report_text.specs.Refused.{line_of}
use Rattle.update_program.proofs.Endings.{given}
use Rattle.update_program.specs.Downloads.{Downloads, IsUnconfigured, LooksIntoLists}
use Rattle.update_program.specs.Objects.{Output}
use Rattle.update_program.specs.Said.{WritesFault}

-- nothing was done
pub since_none : (old now : List State) → now ≡ old → Since old now (From Recovers old)
since_none old now same = record { states = []; joined = same; untold = λ none. same ∙ none; each = tt }

-- what is configured says where to look
pub configured_downloads : {D Q M : Type 0} (d : disks.Ghosts D) (q : disks.Ghosts Q) (m : methods.Ghosts M) (told : Option EtcFiles) (it : Configured) (name version : List ℕ)
    (disk disk' : D) (place place' : Q) (method method' : M) (out out' : Output) (status : ℕ)
    → IsAnswer told [] (Ok it) → LooksIntoLists d q m it name version disk disk' place place' method method' out out' status
    → Downloads d q m told name version disk disk' place place' method method' out out' status
configured_downloads d q m told it name version disk disk' place place' method method' out out' status answer looks =
    record { way = inl (it, given told [] it answer, looks) }

-- a configuration that wasn't read is told by its line
pub refusal_downloads : {D Q M : Type 0} (d : disks.Ghosts D) (q : disks.Ghosts Q) (m : methods.Ghosts M) (told : Option EtcFiles) (refusal : ConfigurationError) (name version : List ℕ)
    (disk : D) (place : Q) (method : M) (out out' : Output) (status : ℕ)
    → IsAnswer told [] (Err refusal) → WritesFault out out' (line_of refusal) status
    → Downloads d q m told name version disk disk place place method method out out' status
refusal_downloads d q m told refusal name version disk place method out out' status answer said = record { way = inr (by answer) }
  where
    memory : (refusal : ConfigurationError) → refusal ≡ NoMemory → WritesFault out out' (line_of refusal) status → IsUnconfigured told disk disk place place method method out out' status
    memory NoMemory is (inl line) = record { disk_is = refl; nothing = record { place_is = refl; method_is = refl }; said = inr (inr line) }
    memory refusal is (inr line) = record { disk_is = refl; nothing = record { place_is = refl; method_is = refl }; said = inr (inr line) }
    memory refusal is (inl line) = absurd cc

    fault : (refusal : ConfigurationError) → refusal ≡ Fault → WritesFault out out' (line_of refusal) status → IsUnconfigured told disk disk place place method method out out' status
    fault Fault is (inl line) = record { disk_is = refl; nothing = record { place_is = refl; method_is = refl }; said = inr (inl line) }
    fault refusal is (inr line) = record { disk_is = refl; nothing = record { place_is = refl; method_is = refl }; said = inr (inr line) }
    fault refusal is (inl line) = absurd cc

    by : IsAnswer told [] (Err refusal) → IsUnconfigured told disk disk place place method method out out' status
    by (inl want) = memory refusal (cc) said
    by (inr (inl failed)) = fault refusal (cc) said
    by (inr (inr answer)) = record {
      disk_is = refl;
      nothing = record { place_is = refl; method_is = refl };
      said = inl (refusal, record { files = answer.0; those = answer.1; give = answer.2 }, said);
    }
