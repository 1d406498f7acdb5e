use Rattle.std.proofs.Common.{◌<◌, ◌∙◌, length, None, ap, arith}
use Rattle.lane_jobs.specs.JobsOut.{JobsOut, with_row}
use Rattle.lane_jobs.proofs.OneRow.{no_row, none_there, row_set}
use Rattle.lane_jobs.proofs.transfers.Transfers.take.Goals as goal

pub returns-then-lane-len-clause-rows : goal.returns-then-lane-len-clause-rows
returns-then-lane-len-clause-rows c =
    let rows = c.self.inside.rows.items in
    let within : c.args.lane < length rows = omega (arith, c.self.inside.rows.ok.0) in
    row_set rows c.self.inside.alone c.args.lane c.index_mut.result.now c.replace.new.dest None within c.index_mut.ensures.value c.replace.ensures.after
    ∙ ap (λ (jobs : JobsOut). with_row c.args.lane None jobs) c.self.view_is

pub returns-else-lane-len-clause-transfer : goal.returns-else-lane-len-clause-transfer
returns-else-lane-len-clause-transfer c =
    rw (← c.self.view_is) (none_there c.self.inside.rows.items c.args.lane (omega (arith, c.self.inside.rows.ok.0)))

pub returns-else-lane-len-clause-rows : goal.returns-else-lane-len-clause-rows
returns-else-lane-len-clause-rows c =
    rw (← c.self.view_is) (no_row c.self.inside.rows.items c.self.inside.alone c.args.lane None (omega (arith, c.self.inside.rows.ok.0)))
