-- How much is asked.
use Rattle.std.specs.Prelude.{◌≡◌, ◌≤◌, ◌<◌, ◌+◌, ◌*◌, ◌^◌, ℕ, List, [], ◌∷◌, length, Some, Ok}
use Rattle.acq_base.specs.declared.installed.Old.{Old}
use Rattle.acq_base.specs.declared.plan.Source.{Source}
use Rattle.acq_base.specs.declared.plan.Target.{Target}
use Rattle.acq_base.specs.declared.sum.Sum.{Sum}
use Rattle.pdiff_index.specs.declared.index.Step.{Step}
use Rattle.release_file.specs.Release.{listed_sum, release_of}
use Rattle.release_file.specs.declared.release.Release.{Release}
use Rattle.update_model.specs.Wanted.{chain}
use Rattle.update_model.specs.declared.wanted.Wanted.{Wanted}
use Rattle.board_model.specs.Boards.{Board}
use Rattle.board_model.specs.Reached.{Reached}
use Rattle.board_model.specs.Runs.{Note}
use Rattle.board_model.specs.Slots.{Setup}

-- the most entries that the log has of a Release, and of a list: a patch Index of fewer than 2^64 bytes leads by at most as
-- many patches
abbrev pub most_of_release : ℕ → ℕ
most_of_release retries = 11 * (retries + 1) * 2

abbrev pub most_of_list : ℕ → ℕ
most_of_list retries = 11 * (retries + 1) * (4 + 2 ^ 64)

abbrev pub most_of_lists : ℕ → List Target → ℕ
most_of_lists retries [] = 0
most_of_lists retries (target ∷ targets) = most_of_list retries + most_of_lists retries targets

abbrev pub most_of : ℕ → List Source → ℕ
most_of retries [] = 0
most_of retries (source ∷ sources) = most_of_release retries + most_of_lists retries source.targets + most_of retries sources

-- the most entries that the log of a whole run has
abbrev pub most_asks : Setup → ℕ
most_asks config = most_of config.settings.retries config.sources

-- a patch Index of fewer than 2^64 bytes leads by at most as many patches
abbrev pub ChainsAreShort : Type 0
ChainsAreShort = (w : Wanted) (file bytes : List ℕ) (steps : List Step) → length bytes < 2 ^ 64 → chain w file bytes ≡ Some steps → length steps ≤ 2 ^ 64

-- the sizes that a Release lists are below 2^64
abbrev pub ListedSizesFit : Type 0
ListedSizesFit = (bytes path : List ℕ) (release : Release) (sum : Sum) → release_of bytes ≡ Ok release → listed_sum release path ≡ Some sum → sum.size < 2 ^ 64

-- whatever is answered, the log has no more entries than that
abbrev pub AsksAreFew : Type 0
AsksAreFew = (config : Setup) (olds : List Old) (notes : List Note) (b : Board) → Reached config olds notes b → length b.asks ≤ most_asks config

-- so it has, where patch Indexes and Releases are read as they are
abbrev pub AsksAreFewByReading : Type 0
AsksAreFewByReading = ChainsAreShort → ListedSizesFit → AsksAreFew
