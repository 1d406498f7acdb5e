use Rattle.std.proofs.Common.{◌<◌, ◌∙◌, length, Some, refl, ap, arith}
use Rattle.lane_jobs.specs.JobsOut.{JobsOut, with_row}
use Rattle.lane_jobs.proofs.OneRow.{no_row, row_set}
use Rattle.lane_jobs.proofs.transfers.Transfers.put.Goals as goal

pub returns-then-lane-len : goal.returns-then-lane-len
returns-then-lane-len c =
    let row = Some c.args.transfer in
    let rows = c.self.inside.rows.items in
    let within : c.args.lane < length rows = omega (arith, c.self.inside.rows.ok.0) in
    let is = row_set rows c.self.inside.alone c.args.lane c.index_mut.result.now row row within c.index_mut.ensures.value refl
    ∙ ap (λ (jobs : JobsOut). with_row c.args.lane row jobs) c.self.view_is in
    grind (arith, is)

pub returns-else-lane-len : goal.returns-else-lane-len
returns-else-lane-len c =
    rw (← c.self.view_is) (no_row c.self.inside.rows.items c.self.inside.alone c.args.lane (Some c.args.transfer) (omega (arith, c.self.inside.rows.ok.0)))
