-- What is installed of a source, where it may have been read anew since it was summed.
use Rattle.std.specs.Prelude.{◌≡◌, ℕ, Bool, IsTrue, List, map, Option, option_map, Some}
use Rattle.acq_base.specs.Sum.{sum_of}
use Rattle.acq_base.specs.declared.installed.Old.{Old}
use Rattle.acq_base.specs.declared.plan.Source.{Source}
use Rattle.acq_base.specs.declared.plan.Target.{Target}
use Rattle.acq_outside.specs.Disk.{Files}
use Rattle.board_model.specs.Keys.{named}
use Rattle.board_model.specs.Slots.{Setup, Standing, begun, first_list, is_there, stands_there}
use Rattle.lists_dir.specs.Installed.{installed_of}
use Rattle.release_file.specs.declared.release.Release.{Release}
use Rattle.update_model.specs.Next.{same_sums}
use Rattle.update_model.specs.Outcomes.{AdmittedRelease}
use Rattle.update_model.specs.Walks.{target_walk}
use Rattle.update_model.specs.declared.wanted.Wanted.{Wanted}

-- So it is beside these files, with the Release that was known: just what was known, where the disk tells and has that.
pub record Anew (tells : Bool) (files : Files) (source : Source) (kept : Old) (P : Old → Type 0) : Type 0 where
  pub old : Old
  pub release : old.release ≡ kept.release
  pub same : IsTrue tells → kept ≡ installed_of files source → old ≡ kept
  pub is : P old

-- the lists of a source, as they begin beside what is installed, and whether just this set is
pub record AreFirst (config : Setup) (source : Source) (found : AdmittedRelease) (begins : List (Option Standing)) (had : Bool) (old : Old) : Type 0 where
  pub lists : begins ≡ map (first_list config source found.release (named old.lists)) source.targets
  pub there : had ≡ is_there source old found

-- ---- one list

abbrev pub wanted_start : Setup → Target → Wanted → Option (List ℕ) → Option Standing
wanted_start config target w file = Some (begun config (target_walk file (config.sizes target.name.0) w))

abbrev pub is_wanted : Wanted → Option (List ℕ) → Bool
is_wanted w file = same_sums (option_map sum_of file) (Some w.sum)

-- a list begins beside a file: the one that was known, where the disk tells and has that
pub record IsFirst (tells : Bool) (files : Files) (config : Setup) (source : Source) (release : Release) (target : Target) (kept : Option (List ℕ))
    (begins : Option Standing) (had : Bool) : Type 0 where
  pub file : Option (List ℕ)
  pub same : IsTrue tells → kept ≡ files target.name.0 → file ≡ kept
  pub item : (installed : List ℕ → Option (List ℕ)) → installed target.name.0 ≡ file → begins ≡ first_list config source release installed target
  pub there : (installed : List ℕ → Option (List ℕ)) → installed target.name.0 ≡ file → had ≡ stands_there release installed target
