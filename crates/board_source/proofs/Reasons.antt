-- Whether a Release may be installed, in steps and at once.
use Rattle.std.proofs.Common.{◌≡◌, ℕ, List, Option, refl}
use Rattle.std.specs.Prelude.{ℤ, option_map, Result, Ok, Err}
use Rattle.acq_base.specs.declared.settings.Settings.{Settings}
use Rattle.release_file.specs.Dates.{judged}
use Rattle.release_file.specs.Release.{release_of}
use Rattle.release_file.specs.declared.changing.Change.{Change}
use Rattle.release_file.specs.declared.release.Release.{Release}
use Rattle.update_model.specs.Outcomes.{AdmittedRelease, Staying, ◌>>=◌, admitted, bytes_of, dated, headed, read}
use Rattle.update_model.specs.Releases.{installed_release}
use Rattle.update_model.specs.declared.end.End.{End}
use Rattle.board_source.specs.Admitting.{admitted_bytes, admitted_release, admitted_unless}

unless : (d h : Result (Unit {0}) Staying) (found : AdmittedRelease) → (d >>= (λ in_time. h >>= (λ good_head. Ok found))) ≡ admitted_unless found (d >>= (λ in_time. h))
unless (Ok each) (Ok other) found = refl
unless (Ok each) (Err why) found = refl
unless (Err why) h found = refl

pub admitted-by : (end : End) (bytes : List ℕ) (old : Option (List ℕ)) (settings : Settings) (change : Change) (now : ℤ) → bytes_of end ≡ Ok bytes
    → admitted end old settings change now ≡ admitted_bytes bytes old settings change now
admitted-by end bytes old settings change now e = rw e (one (read (release_of bytes)))
  where
    one : (r : Result Release Staying)
        → (r >>= (λ release. dated (judged release (option_map (λ o. o.date) (installed_release old)) settings.dates now)
        >>= (λ in_time. headed change (installed_release old) release >>= (λ good_head. Ok (record { bytes = bytes; release = release })))))
        ≡ (r >>= (λ release. admitted_release (record { bytes = bytes; release = release }) (installed_release old) settings change now))
    one (Ok release) =
        unless (dated (judged release (option_map (λ o. o.date) (installed_release old)) settings.dates now)) (headed change (installed_release old) release) (record { bytes = bytes; release = release })
    one (Err why) = refl
