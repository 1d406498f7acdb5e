use Rattle.run_model.proofs.Theorems.{runs_are_complete, runs_hold_mirrored, runs_lead_to_next, runs_leave_alike, runs_leave_mirrored, runs_tell_the_same}
use Rattle.run_model.proofs.mirrored.runs_lead_to_next.Goals as goal

pub returns : goal.returns
returns c = record { sets = runs_hold_mirrored; mirrored = runs_leave_mirrored; complete = runs_are_complete; next = runs_lead_to_next; alike = runs_leave_alike; same = runs_tell_the_same }
