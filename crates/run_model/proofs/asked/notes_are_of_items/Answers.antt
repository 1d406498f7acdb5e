use Rattle.run_model.proofs.Theorems.{logs_tell_notes, notes_are_of_items, others_hear_nothing}
use Rattle.run_model.proofs.asked.notes_are_of_items.Goals as goal

pub returns : goal.returns
returns c = record { items = notes_are_of_items; log = logs_tell_notes; others = others_hear_nothing }
