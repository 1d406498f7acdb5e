use Rattle.std.proofs.Common.{◌≡◌, ◌<◌, ◌∙◌, ◌%◌, length, List, ℕ, ap, rules, arith}
use Rattle.host_queues.specs.Lanes.{Queue, Lanes, with_last, place_for, changed_at}
use Rattle.host_queues.specs.Refinement.{lanes_of}
use Rattle.host_queues.proofs.Changes.{changed-set}
use Rattle.host_queues.proofs.queues.Queues.put.Goals as goal

pub returns : goal.returns
unfolding lanes_of
returns c =
    let lanes = lanes_of c.place.new.self in
    let at = c.in_ok-place.place % c.len.result in
    let f = with_last c.args.no in
    let within : at < length lanes.queues = search (rules, arith) in
    let count : c.len.result ≡ length lanes.queues = search (rules, arith) in
    ap (λ (qs : List Queue). record lanes { queues = qs }) (changed-set f lanes.queues at c.index_mut.result.now c.put.new.self within c.index_mut.ensures.value c.in_ok-put.ensures)
    ∙ ap (λ (p : ℕ). record lanes { queues = changed_at (p % c.len.result) f lanes.queues }) c.in_ok-place.ensures.place
    ∙ ap (λ (n : ℕ). record lanes { queues = changed_at (place_for (lanes_of c.args.self.now) c.args.host.now % n) f lanes.queues }) count
    ∙ ap (λ (l : Lanes). record l { queues = changed_at (place_for (lanes_of c.args.self.now) c.args.host.now % length l.queues) f l.queues }) c.in_ok-place.ensures.hosts
