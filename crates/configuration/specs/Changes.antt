-- Which fields of a Release may change (apt-secure(8), "Information changes"; apt-get(8), --allow-releaseinfo-change).
use Rattle.std.specs.Prelude.{false, List, codes, Result, Ok}
use Rattle.release_file.specs.declared.changing.Change.{Change}
use Rattle.apt_conf.specs.declared.error.ConfError.{ConfError}
use Rattle.apt_conf.specs.Keys.{Pair}
use Rattle.apt_conf.specs.Settings.{boolean}
use Rattle.apt_conf.specs.Statements.{◌>>=◌}

-- one setting for all four fields, and one for each, which counts before it
unfoldable pub change_given : List Pair → Result Change ConfError
change_given pairs = do
  all ← boolean false pairs (codes "Acquire::AllowReleaseInfoChange")
  origin ← boolean all pairs (codes "Acquire::AllowReleaseInfoChange::Origin")
  label ← boolean all pairs (codes "Acquire::AllowReleaseInfoChange::Label")
  suite ← boolean all pairs (codes "Acquire::AllowReleaseInfoChange::Suite")
  codename ← boolean all pairs (codes "Acquire::AllowReleaseInfoChange::Codename")
  Ok (record { origin = origin; label = label; suite = suite; codename = codename })
