-- How updates over the mirror of a number go on its first day, and then on its second.
use Rattle.std.specs.Prelude.{◌≡◌, ◌≢◌, ℕ, ℤ, not, Bool, false, List, [], ◌∷◌, length, AllPairs, Contains, None, IsSome, unwrap_or, Ok, Err}
use Rattle.std.specs.List.{count_by, flat_map, sum_by}
use Rattle.acq_base.specs.Mirror.{MirrorMap}
use Rattle.acq_base.specs.declared.plan.Source.{Source}
use Rattle.acq_outside.specs.Etc.{EtcFiles}
use Rattle.acq_outside.specs.declared.etc.Place.TheVariants.{SourcesList}
use Rattle.configuration.specs.Configured.{configured}
use Rattle.configuration.specs.Folder.{folder_of}
use Rattle.configuration.specs.declared.configuring.Configured.{Configured}
use Rattle.mirror_maker.specs.Made.{first_mirror, first_moment, list_text, second_mirror, second_moment}
use Rattle.update_engine.specs.Run.{Run, run_of, target_names}
use Rattle.update_model.specs.Next.{IsNext, has_whole_set}
use Rattle.update_model.specs.Outcomes.{Directory, Outcome, PartFiles, new_set}
use Rattle.generated_days.specs.Asks.{asks_for}
use Rattle.generated_days.specs.declared.days.Day.{Day}

-- ---- one update

-- whether a source gets a set that the directory doesn't hold
abbrev pub is_gotten : Directory → Source → Outcome → Bool
is_gotten dir source (Ok set) = not (has_whole_set dir source set)
is_gotten dir source (Err why) = false

-- how many bytes the lists of a directory have: these are names, each once, and all under which it has a list
pub record HasBytes (dir : Directory) (bytes : ℕ) : Type 0 where
  pub names : List (List ℕ)
  pub once : AllPairs (λ a b. a ≢ b) names
  pub all : (name : List ℕ) → IsSome (dir name) → Contains names name
  pub is : bytes ≡ sum_by (λ name. length (unwrap_or (dir name) [])) names

-- An update over a mirror from this directory, in which no method fails and no list of the plan is on its way: how many sources
-- get a new set, how much is asked, and how many bytes are in the directory that is next.
pub record IsDayOver (mirror : MirrorMap) (run : Run) (before after : Directory) (day : Day) : Type 0 where
  pub parts : PartFiles
  pub none : (name : List ℕ) → Contains (flat_map target_names run.plan.sources) name → parts name ≡ []
  pub installed : day.installed ≡ count_by (λ source. is_gotten before source (new_set mirror before parts source run.settings run.change run.moment)) run.plan.sources
  pub asks : day.asks ≡ sum_by (asks_for mirror before parts run.settings run.change run.moment) run.plan.sources
  pub next : IsNext mirror before parts run.plan run.settings run.change run.moment after
  pub bytes : HasBytes after day.bytes

-- ---- both

-- a configuration folder with a sources list and nothing else
abbrev pub folder_with : List ℕ → EtcFiles
folder_with list = (SourcesList, [], list) ∷ []

-- a sources list configures this under the default settings (sources.list(5), apt.conf(5))
abbrev pub Configures : List ℕ → Configured → Type 0
Configures list it = configured (folder_of (folder_with list)) [] ≡ Ok it

-- a run by a configuration at a moment, which commits source by source
abbrev pub run_at : Configured → ℤ → Run
run_at it moment = run_of it.plan it.settings it.change moment false

-- The first day begins with no list, the second with those that are there after the first.
pub record AreDaysOf (number : ℕ) (first second : Day) : Type 0 where
  pub it : Configured
  pub configures : Configures list_text it
  pub before : Directory
  pub none : (name : List ℕ) → before name ≡ None
  pub between : Directory
  pub after : Directory
  pub first_day : IsDayOver (first_mirror number) (run_at it first_moment) before between first
  pub second_day : IsDayOver (second_mirror number) (run_at it second_moment) between after second
