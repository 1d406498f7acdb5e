-- How much is asked of a mirror where no method fails.
use Rattle.std.specs.Prelude.{ℕ, ℤ, ◌+◌, List, [], length}
use Rattle.std.specs.List.{sum_by}
use Rattle.acq_base.specs.Mirror.{MirrorMap}
use Rattle.acq_base.specs.declared.plan.Source.{Source}
use Rattle.acq_base.specs.declared.settings.Settings.{Settings}
use Rattle.release_file.specs.declared.changing.Change.{Change}
use Rattle.update_model.specs.Mirrored.{trails_over}
use Rattle.update_model.specs.Outcomes.{Directory, PartFiles, admitted, wanted_by}
use Rattle.update_model.specs.Releases.{obtain_release}
use Rattle.update_model.specs.Walks.{Walk, release_walk, target_walk}
use Rattle.update_model.specs.declared.wanted.Wanted.{Wanted}

-- one ask for each position of the walk's route over the mirror
abbrev pub asks_along : MirrorMap → List ℕ → Walk → ℕ
asks_along mirror part walk = sum_by (λ trail. length trail.positions) (trails_over mirror part walk)

-- a list's, beside the installed file and the one on its way
abbrev pub asks_for_list : MirrorMap → Directory → PartFiles → Wanted → ℕ
asks_for_list mirror dir parts w = asks_along mirror (parts w.name.0) (target_walk (dir w.name.0) (length (parts w.name.0)) w)

-- a source's: its Release's, and those of each list that this names, where it may be installed
abbrev pub asks_for : MirrorMap → Directory → PartFiles → Settings → Change → ℤ → Source → ℕ
asks_for mirror dir parts settings change now source =
    asks_along mirror [] (release_walk source)
    + sum_by (asks_for_list mirror dir parts) (wanted_by source settings (admitted (obtain_release mirror source) (dir source.release_name.0) settings change now))
