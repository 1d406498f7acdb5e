-- What a board in code stands for.
use Rattle.std.specs.Prelude.{ℕ, ℤ, List, unwrap_or}
use Rattle.acq_base.specs.declared.plan.Plan.{Plan}
use Rattle.acq_base.specs.declared.settings.Settings.{Settings}
use Rattle.acq_base.specs.declared.uri.ListName.{ListName}
use Rattle.board_model.specs.Boards as model
use Rattle.board_model.specs.Keys.{named}
use Rattle.board_model.specs.Slots.{Setup}
use Rattle.board_source.specs.Refinement.{config_of}
use Rattle.host_queues.specs.Refinement.{lanes_of}
use Rattle.release_file.specs.declared.changing.Change.{Change}
use Rattle.update_core.specs.Refinement.{slots_of}
use Rattle.update_core.specs.declared.board.Board.{Board}

-- what a run is begun with; a list without a row has no partial file
abbrev pub config_for : Plan → List (ListName × ℕ) → Settings → Change → ℤ → Setup
config_for plan parts settings change now = record {
  sources = plan.sources;
  sizes = λ name. unwrap_or (named parts name) 0;
  settings = settings;
  change = change;
  now = now;
}

unfoldable pub board_of : Board → model.Board
board_of b = record {
  config = config_of b.setup;
  slots = slots_of b.sources.slots.items;
  lanes = lanes_of b.queues;
  out = b.out.items;
  asks = b.asks;
  settled = b.settled;
  verdicts = b.verdicts.items;
}
