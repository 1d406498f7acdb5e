use Rattle.std.proofs.Common.{◌≤◌, arith}
use Rattle.crossbeam_channel.specs.Claims.{view}
use Rattle.lane_pool.proofs.Counted.{begun_within}
use Rattle.lane_pool.proofs.worker.Worker.join.Goals as goal

pub returns-clause-begins : goal.returns-clause-begins
returns-clause-begins g c =
    let back = c.handed_back-returned.result in
    let within : (view c.handed_back-returned.result.jobs).received ≤ (view c.self.inside.jobs.pass).handed = let s = c.settle.ensures in let e = c.end.ensures.handed in omega arith in
    rw (← c.self.view_is)
    (begun_within (g.M.Method.begins c.self.inside.promise.method.value) (g.M.Method.begins back.method) (view back.jobs).received (view c.self.inside.jobs.pass).handed within c.handed_back-returned.ensures.begun)
