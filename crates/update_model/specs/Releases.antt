-- Where a source's Release comes from, and whether it may be installed.
use Rattle.std.specs.Prelude.{ℕ, ℤ, List, codes, Option, IfSome, option_map, option_and_then}
use Rattle.std.specs.Result.{result_ok}
use Rattle.acq_base.specs.Mirror.{MirrorMap}
use Rattle.acq_base.specs.declared.plan.Source.{Source}
use Rattle.acq_base.specs.declared.settings.Dates.{Dates}
use Rattle.acq_base.specs.declared.uri.Uri.{Uri}
use Rattle.by_hash.specs.Beside.{beside}
use Rattle.release_file.specs.Dates.{IsAdmissible as HasGoodDates}
use Rattle.release_file.specs.Release.{release_of}
use Rattle.release_file.specs.declared.release.Release.{Release}
use Rattle.release_file.specs.Changes.{IsAllowed}
use Rattle.release_file.specs.declared.changing.Change.{Change}
use Rattle.update_model.specs.Reach.{reach}
use Rattle.update_model.specs.declared.ask.Ending.{Ending}
use Rattle.update_model.specs.declared.ask.Ending.TheVariants as endings
use Rattle.update_model.specs.declared.cause.Cause.TheVariants.{NoRelease, Redirects, TooBig, Garbled, Method}
use Rattle.update_model.specs.declared.end.End.{End}
use Rattle.update_model.specs.declared.end.End.TheVariants.{Got, Ended}

-- ---- where it comes from

-- the path that stands for a Release in causes and in the log
abbrev pub release_text : List ℕ
release_text = codes "Release"

-- the most bytes that a Release may have
abbrev pub release_limit : ℕ
release_limit = 16777216

-- InRelease lies in the Release's folder
abbrev pub in_release_uri : Source → Uri
in_release_uri source = beside source.release (codes "InRelease")

-- what the trail of a Release comes to
abbrev pub release_end : Ending → End
release_end (endings.Served body) = Got body
release_end endings.TooBig = Ended (TooBig release_limit)
release_end (endings.Absent status) = Ended (NoRelease status)
release_end endings.Lost = Ended (Redirects release_text)
release_end (endings.Garbled at) = Ended (Garbled release_text at)
release_end (endings.Dead lane before after) = Ended (Method release_text lane before after)

abbrev pub served_or : Ending → Ending → Ending
served_or (endings.Served body) other = endings.Served body
served_or e other = other

-- what InRelease's URI reaches where that is a file, and else what the Release's URI reaches
abbrev pub obtain_release : MirrorMap → Source → End
obtain_release world source =
    release_end (served_or (reach world (in_release_uri source) release_limit) (reach world source.release release_limit))

-- ---- whether it may be installed

-- the Release that is installed; bytes that are refused count as none
abbrev pub installed_release : Option (List ℕ) → Option Release
installed_release bytes = option_and_then (λ b. result_ok (release_of b)) bytes

-- It isn't expired, isn't dated in the future and isn't older than the installed one, and says nothing else of itself than
-- that one but what may change.
pub record IsAdmissible (release : Release) (installed : Option Release) (dates : Dates) (change : Change) (now : ℤ) : Type 0 where
  pub in_time : HasGoodDates release (option_map (λ old. old.date) installed) dates now
  pub allowed_head : IfSome installed (λ old. IsAllowed change old.head release.head)
