use Rattle.run_promises.proofs.Theorems.{logs_show_runs, runs_end_as_served, runs_end_as_told, runs_stop_as_served, runs_stop_on_same_lists, runs_stop_undamaged, runs_stop_with_sets, runs_tell_served}
use Rattle.update_program.proofs.Promised.{promised}
use Rattle.update_program.proofs.top.update_call.Goals as goal

pub returns-in-Ok-Some-Update-clause-headline : goal.returns-in-Ok-Some-Update-clause-headline
returns-in-Ok-Some-Update-clause-headline g c =
    let by = c.run_options.ensures in
    let asked = rw (c.in-Ok-Some-Update.field-0-is, c.in-Ok-Some-Update.field-0-0-is) at c.in-Ok-Some-Update.ensures in
    rw (← asked) (promised runs_end_as_served runs_end_as_told runs_stop_as_served runs_stop_with_sets logs_show_runs runs_tell_served runs_stop_undamaged runs_stop_on_same_lists _ _ _ _ _ _ by.methods _ by.ended)

pub returns-in-Ok-Some-Update-clause-unconfigured : goal.returns-in-Ok-Some-Update-clause-unconfigured
returns-in-Ok-Some-Update-clause-unconfigured g c =
    let asked = rw (c.in-Ok-Some-Update.field-0-is, c.in-Ok-Some-Update.field-0-0-is) at c.in-Ok-Some-Update.ensures in
    rw (← asked) c.run_options.ensures.unconfigured
