use Rattle.board_bounds.proofs.Theorems.{planned_names_are_put_names}
use Rattle.board_model.proofs.Theorems.{finished_boards_tell, finished_boards_tell_mirrors, sets_there_are_held}
use Rattle.generated_days.proofs.Telling.{tells-day}
use Rattle.generated_days.proofs.laws.logs_tell_days.Goals as goal
use Rattle.run_model.proofs.Theorems.{logs_tell_notes, notes_are_of_items, others_hear_nothing, runs_lead_to_next}
use Rattle.update_model.proofs.Theorems.{releases_end_as_obtained}

pub returns : goal.returns
returns c = λ mirror run before after log logged as_many quiet.
    tells-day finished_boards_tell finished_boards_tell_mirrors notes_are_of_items logs_tell_notes others_hear_nothing
    releases_end_as_obtained sets_there_are_held runs_lead_to_next planned_names_are_put_names mirror run before after log logged as_many quiet
