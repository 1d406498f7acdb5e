-- How much is asked of one source.
use Rattle.std.specs.Prelude.{◌≡◌, ◌≤◌, ℕ, suc, ◌+◌, ◌*◌, ◌==◌, max, List, [], ◌∷◌, length, filter, slice_get, Option, Some, None, option_map, option_and_then}
use Rattle.std.specs.Option.{option_map_or}
use Rattle.std.specs.Result.{result_ok}
use Rattle.acq_base.specs.declared.installed.Old.{Old}
use Rattle.acq_base.specs.declared.plan.Source.{Source}
use Rattle.acq_base.specs.declared.plan.Target.{Target}
use Rattle.release_file.specs.Release.{listed_sum}
use Rattle.release_file.specs.declared.release.Release.{Release}
use Rattle.update_model.specs.Files.{fitting}
use Rattle.update_model.specs.Outcomes.{admitted}
use Rattle.update_model.specs.Points.{Point, Over, At, run, start}
use Rattle.update_model.specs.Walks.{release_walk}
use Rattle.update_model.specs.Wanted.{chain, want}
use Rattle.update_model.specs.declared.ask.Body.TheVariants.{Bytes}
use Rattle.update_model.specs.declared.ask.Closed.{Closed}
use Rattle.update_model.specs.declared.ask.Closed.TheVariants.{Served}
use Rattle.update_model.specs.declared.log.Asked.{Asked}
use Rattle.update_model.specs.declared.wanted.Wanted.{Wanted}
use Rattle.board_model.specs.Boards.{Board}
use Rattle.board_model.specs.Keys.{named}
use Rattle.board_model.specs.Reached.{Reached}
use Rattle.board_model.specs.Runs.{Note}
use Rattle.board_model.specs.Slots.{Setup}
use Rattle.board_model.specs.Stands.{History, history_of, lane_answers}

-- the entries of a source in a log
abbrev pub asks_of : ℕ → List Asked → List Asked
asks_of n asks = filter (λ asked. asked.source == n) asks

-- ---- the length of a list's chain

-- how many patches an answer leads by: none where it isn't the listed patch Index, or leads nowhere
abbrev pub links_by : Option (List ℕ) → Wanted → Closed → ℕ
links_by (Some file) w (Served (Bytes bytes)) = option_map_or length (option_and_then (λ sum. option_and_then (chain w file) (fitting sum (Some bytes))) w.index) 0
links_by installed w answer = 0

-- the most by which one of these answers leads
abbrev pub links_among : Option (List ℕ) → Wanted → List Note → ℕ
links_among installed w [] = 0
links_among installed w (note ∷ notes) = max (links_by installed w note.told.closed) (links_among installed w notes)

-- the Release that the source's first item came to, where it may be installed
abbrev pub release_at : Setup → Old → Point → Option Release
release_at config old (Over end) = option_map (λ set. set.release) (result_ok (admitted end old.release config.settings config.change config.now))
release_at config old (At ask left retries next) = None

abbrev pub release_heard : Setup → Source → Old → List Note → Option Release
release_heard config source old heard = release_at config old (run config.settings.retries (start config.settings.retries (release_walk source)) (lane_answers heard))

-- by how many patches the Index leads that a list heard: none where no Release names the list, or no Index came
abbrev pub links_of : Setup → Source → Old → Option Release → Target → List Note → ℕ
links_of config source old None target heard = 0
links_of config source old (Some release) target heard =
    option_map_or (λ sum. links_among (named old.lists target.name.0) (want source release config.settings target sum) heard) (listed_sum release target.path) 0

-- ---- the bound

-- the sum over these lists, whose items have the places from this one on, of 4 and the length of the list's chain
abbrev pub trails_of : Setup → Source → Old → Option Release → History → ℕ → List Target → ℕ
trails_of config source old release history place [] = 0
trails_of config source old release history place (target ∷ targets) =
    (4 + links_of config source old release target (history place)) + trails_of config source old release history (suc place) targets

-- Of one source the log has at most so many entries: one trail for InRelease and one for Release; for each list one for its
-- patch Index and each patch, one that resumes, one under its digest and one under its own name; and of a trail 11 places,
-- each asked once and again after as many faults as are retried.
abbrev pub SourceAsksAreFew : Type 0
SourceAsksAreFew =
    (config : Setup) (olds : List Old) (notes : List Note) (b : Board) (n : ℕ) (source : Source) (old : Old)
    → Reached config olds notes b → slice_get config.sources n ≡ Some source → slice_get olds n ≡ Some old
    → length (asks_of n b.asks)
    ≤ 11 * (config.settings.retries + 1) * (2 + trails_of config source old (release_heard config source old (history_of n notes 0)) (history_of n notes) 1 source.targets)
