use Rattle.std.proofs.Common.{◌≡◌, ◌∙◌, ℕ, List, length, ap, rules, arith}
use Rattle.std.specs.Prelude.{replicate}
use Rattle.std.specs.BTreeMap.{is_at}
use Rattle.std.specs.Map.{lookup}
use Rattle.std.specs.Cmp.Lexicographic.{slice_cmp}
use Rattle.std.specs.Ordering.{nat_cmp}
use Rattle.host_queues.specs.Lanes.{Queue, empty_queue, no_hosts}
use Rattle.host_queues.specs.Refinement.{lanes_of}
use Rattle.host_queues.proofs.queues.Queues.new.Goals as goal

pub returns : goal.returns
unfolding lanes_of
returns c =
    let all : c.loop.counter ≡ c.args.lanes = search (rules, arith) in
    ap (λ (es : List _). record { places = λ host. lookup (is_at (slice_cmp nat_cmp host)) es; seen = length es; queues = c.loop.empty.items }) c.new-2.ensures.empty
    ∙ ap (λ (qs : List Queue). record (no_hosts c.args.lanes) { queues = qs }) (c.loop.invariant ∙ ap (λ (n : ℕ). replicate n empty_queue) all)
