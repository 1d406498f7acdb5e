-- Whether a Release that came may be installed, in steps.
use Rattle.std.specs.Prelude.{ℕ, ℤ, List, Option, Some, None, option_map, Result, Ok, Err}
use Rattle.acq_base.specs.declared.settings.Settings.{Settings}
use Rattle.release_file.specs.Dates.{judged}
use Rattle.release_file.specs.Release.{release_of}
use Rattle.release_file.specs.declared.changing.Change.{Change}
use Rattle.release_file.specs.declared.release.Release.{Release}
use Rattle.update_model.specs.Outcomes.{AdmittedRelease, Staying, ◌>>=◌, read, dated, headed}
use Rattle.update_model.specs.Releases.{installed_release}

abbrev pub against : Option Staying → Result (Unit {0}) Staying
against None = Ok tt
against (Some why) = Err why

-- the first reason against a Release beside the installed one
abbrev pub first_reason : Release → Option Release → Settings → Change → ℤ → Result (Unit {0}) Staying
first_reason release installed settings change now =
    dated (judged release (option_map (λ o. o.date) installed) settings.dates now) >>= (λ in_time. headed change installed release)

abbrev pub admitted_unless : AdmittedRelease → Result (Unit {0}) Staying → Result AdmittedRelease Staying
admitted_unless found (Ok each) = Ok found
admitted_unless found (Err why) = Err why

-- a Release that is read may be installed where there is no reason against it
abbrev pub admitted_release : AdmittedRelease → Option Release → Settings → Change → ℤ → Result AdmittedRelease Staying
admitted_release found installed settings change now = admitted_unless found (first_reason found.release installed settings change now)

abbrev pub admitted_bytes : List ℕ → Option (List ℕ) → Settings → Change → ℤ → Result AdmittedRelease Staying
admitted_bytes bytes old settings change now =
    read (release_of bytes) >>= (λ release. admitted_release (record { bytes = bytes; release = release }) (installed_release old) settings change now)
