use Rattle.std.proofs.Common.{◌<◌, length, List, sym, ap, rules, arith}
use Rattle.host_queues.specs.Lanes.{Queue, freed}
use Rattle.host_queues.specs.Refinement.{lanes_of}
use Rattle.host_queues.proofs.Changes.{changed-set, changed-past}
use Rattle.host_queues.proofs.queues.Queues.done.Goals as goal

pub returns-then-lane-len : goal.returns-then-lane-len
unfolding lanes_of
returns-then-lane-len c =
    let lanes = c.args.self.now.lanes.items in
    let within : c.args.lane < length lanes = search (rules, arith) in
    ap (λ (qs : List Queue). record (lanes_of c.args.self.now) { queues = qs }) (changed-set freed lanes c.args.lane c.index_mut.result.now c.done.new.self within c.index_mut.ensures.value c.done.ensures)

pub returns-else-lane-len : goal.returns-else-lane-len
unfolding lanes_of
returns-else-lane-len c =
    let lanes = c.args.self.now.lanes.items in
    ap (λ (qs : List Queue). record (lanes_of c.args.self.now) { queues = qs }) (sym (changed-past freed lanes c.args.lane (search (rules, arith))))
