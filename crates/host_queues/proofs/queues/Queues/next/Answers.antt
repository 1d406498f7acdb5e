use Rattle.std.proofs.Common.{◌<◌, ◌∙◌, length, List, Option, sym, ap, rules, arith}
use Rattle.std.specs.Prelude.{option_and_then}
use Rattle.host_queues.specs.Lanes.{Queue, first, without_first}
use Rattle.host_queues.specs.Refinement.{lanes_of}
use Rattle.host_queues.proofs.Changes.{changed-set, changed-past, get-past, get-within}
use Rattle.host_queues.proofs.queues.Queues.next.Goals as goal

pub returns-then-lane-len-clause-first : goal.returns-then-lane-len-clause-first
unfolding lanes_of
returns-then-lane-len-clause-first c =
    let lanes = c.args.self.now.lanes.items in
    sym (ap (λ (q : Option Queue). option_and_then first q) (get-past lanes c.args.lane (search (rules, arith))))

pub returns-then-lane-len-clause-left : goal.returns-then-lane-len-clause-left
unfolding lanes_of
returns-then-lane-len-clause-left c =
    let lanes = c.args.self.now.lanes.items in
    ap (λ (qs : List Queue). record (lanes_of c.args.self.now) { queues = qs }) (sym (changed-past without_first lanes c.args.lane (search (rules, arith))))

pub returns-clause-first : goal.returns-clause-first
unfolding lanes_of
returns-clause-first c =
    let lanes = c.args.self.now.lanes.items in
    let within : c.args.lane < length lanes = search (rules, arith) in
    c.next.ensures.first ∙ ap (λ (q : Option Queue). option_and_then first q) (sym (get-within lanes c.args.lane c.index_mut.result.now within c.index_mut.ensures.value))

pub returns-clause-left : goal.returns-clause-left
unfolding lanes_of
returns-clause-left c =
    let lanes = c.args.self.now.lanes.items in
    let within : c.args.lane < length lanes = search (rules, arith) in
    ap (λ (qs : List Queue). record (lanes_of c.args.self.now) { queues = qs }) (changed-set without_first lanes c.args.lane c.index_mut.result.now c.next.new.self within c.index_mut.ensures.value c.next.ensures.left)
