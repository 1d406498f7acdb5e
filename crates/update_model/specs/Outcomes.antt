-- What a source comes to: a new set of lists, or why it keeps the former one.
use Rattle.std.specs.Prelude.{ℕ, ℤ, List, [], ◌∷◌, map, Option, Some, None, option_map, Result, Ok, Err}
use Rattle.acq_base.specs.Mirror.{MirrorMap}
use Rattle.acq_base.specs.declared.plan.Source.{Source}
use Rattle.acq_base.specs.declared.settings.Settings.{Settings}
use Rattle.release_file.specs.Dates.{judged}
use Rattle.release_file.specs.Refused.{refusal_number, refusal_line}
use Rattle.release_file.specs.Release.{release_of}
use Rattle.release_file.specs.declared.error.ReleaseError.{ReleaseError}
use Rattle.release_file.specs.declared.judging.DateError.{DateError}
use Rattle.release_file.specs.declared.judging.DateError.TheVariants as dates
use Rattle.release_file.specs.declared.release.Head.{Head}
use Rattle.release_file.specs.declared.release.Release.{Release}
use Rattle.release_file.specs.Changes.{first_refused}
use Rattle.release_file.specs.declared.changing.Change.{Change}
use Rattle.release_file.specs.declared.changing.HeadField.{HeadField}
use Rattle.update_model.specs.Obtained.{obtain}
use Rattle.update_model.specs.Releases.{installed_release, obtain_release}
use Rattle.update_model.specs.Wanted.{wanted_of}
use Rattle.update_model.specs.declared.wanted.Wanted.{Wanted}
use Rattle.update_model.specs.declared.ask.Body.TheVariants.{Bytes}
use Rattle.update_model.specs.declared.cause.Cause.{Cause}
use Rattle.update_model.specs.declared.cause.Cause.TheVariants.{BadRelease, Expired, Future, Changed}
use Rattle.update_model.specs.declared.end.End.{End}
use Rattle.update_model.specs.declared.end.End.TheVariants.{Got, Ended}

-- a Release that may be installed, with its bytes
pub record AdmittedRelease : Type 0 where
  pub bytes : List ℕ
  pub release : Release

-- why a source keeps its former set: the Release is older than the installed one, or a cause
pub data Staying : Type 0 where
  Older : (date : ℤ) → Staying
  Kept : (cause : Cause) → Staying

-- the Release of the new set, or why there is none
abbrev pub Outcome : Type 0
Outcome = Result AdmittedRelease Staying

infixl 10 ◌>>=◌
abbrev pub ◌>>=◌ : {A B : Type 0} → Result A Staying → (A → Result B Staying) → Result B Staying
(Ok x) >>= f = f x
(Err why) >>= f = Err why

-- ---- the Release

-- The bytes of a Release, or the cause against it. A Release is never staged and never stands, so what is said of such an
-- end is nothing but a refusal: no bytes are no Release.
abbrev pub bytes_of : End → Result (List ℕ) Staying
bytes_of (Got (Bytes bytes)) = Ok bytes
bytes_of (Ended cause) = Err (Kept cause)
bytes_of other = Ok []

abbrev pub read : Result Release ReleaseError → Result Release Staying
read (Ok release) = Ok release
read (Err e) = Err (Kept (BadRelease (refusal_number e) (refusal_line e)))

abbrev pub dated : Result (Unit {0}) DateError → Result (Unit {0}) Staying
dated (Ok u) = Ok u
dated (Err (dates.Expired end)) = Err (Kept (Expired end))
dated (Err (dates.Future date)) = Err (Kept (Future date))
dated (Err (dates.Older date)) = Err (Older date)

abbrev pub unless_refused : Option HeadField → Head → Head → Result (Unit {0}) Staying
unless_refused None old new = Ok tt
unless_refused (Some field) old new = Err (Kept (Changed old new field))

abbrev pub headed : Change → Option Release → Release → Result (Unit {0}) Staying
headed change None release = Ok tt
headed change (Some old) release = unless_refused (first_refused change old.head release.head) old.head release.head

-- what a Release's end comes to beside the installed bytes: it may be installed, or the first cause that holds
abbrev pub admitted : End → Option (List ℕ) → Settings → Change → ℤ → Result AdmittedRelease Staying
admitted r old settings change now = do
  bytes ← bytes_of r
  release ← read (release_of bytes)
  in_time ← dated (judged release (option_map (λ o. o.date) (installed_release old)) settings.dates now)
  good_head ← headed change (installed_release old) release
  Ok (record { bytes = bytes; release = release })

-- ---- its lists

-- the lists that are asked: those that a Release that may be installed names
abbrev pub wanted_by : Source → Settings → Result AdmittedRelease Staying → List Wanted
wanted_by source settings (Ok found) = wanted_of source found.release settings
wanted_by source settings (Err why) = []

-- the cause of the first list that has no file, where there is one
abbrev pub all_had : List End → Result (Unit {0}) Staying
all_had [] = Ok tt
all_had (Ended cause ∷ ends) = Err (Kept cause)
all_had (end ∷ ends) = all_had ends

-- what a source comes to, by the Release's end and those of the lists in plan order
abbrev pub outcome : End → List End → Option (List ℕ) → Settings → Change → ℤ → Outcome
outcome r ends old settings change now = do
  found ← admitted r old settings change now
  each_list ← all_had ends
  Ok found

-- ---- over a mirror

-- a finite map from list names to bytes
abbrev pub Directory : Type 0
Directory = List ℕ → Option (List ℕ)

-- the partial files by list name; one that isn't there has no bytes
abbrev pub PartFiles : Type 0
PartFiles = List ℕ → List ℕ

abbrev pub obtained : MirrorMap → Directory → PartFiles → Wanted → End
obtained world dir parts w = obtain world (dir w.name.0) (parts w.name.0) w

-- what a mirror has for a source beside what is installed
abbrev pub new_set : MirrorMap → Directory → PartFiles → Source → Settings → Change → ℤ → Outcome
new_set world dir parts source settings change now =
    outcome (obtain_release world source)
    (map (obtained world dir parts) (wanted_by source settings (admitted (obtain_release world source) (dir source.release_name.0) settings change now)))
    (dir source.release_name.0) settings change now
