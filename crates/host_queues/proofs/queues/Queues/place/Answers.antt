use Rattle.std.proofs.Common.{◌≡◌, ◌∙◌, ℕ, ◌+◌, List, Option, Some, None, sym, ap, rules}
use Rattle.std.specs.Prelude.{unwrap_or, bytes_eq, if◌then◌else◌}
use Rattle.std.specs.BTreeMap.{get, btree_map_len}
use Rattle.std.specs.Cmp.Lexicographic.{slice_cmp}
use Rattle.std.specs.Ordering.{nat_cmp}
use Rattle.std.proofs.Math.Path.{fun_ext}
use Rattle.host_queues.specs.Lanes.{seen_with}
use Rattle.host_queues.specs.Refinement.{lanes_of}
use Rattle.host_queues.proofs.Places.{same-places, inserted}
use Rattle.host_queues.proofs.queues.Queues.place.Goals as goal

pub returns-in-Some-clause-place : goal.returns-in-Some-clause-place
unfolding lanes_of
returns-in-Some-clause-place c =
    let map = c.args.self.now.places in
    let host = c.args.host.now in
    let there : get (slice_cmp nat_cmp) map host ≡ Some c.in-Some.place.now = search rules in
    ap (λ (p : Option ℕ). unwrap_or p (btree_map_len map)) (sym there)

pub returns-in-Some-clause-hosts : goal.returns-in-Some-clause-hosts
unfolding lanes_of
returns-in-Some-clause-hosts c =
    let map = c.args.self.now.places in
    let host = c.args.host.now in
    let there : get (slice_cmp nat_cmp) map host ≡ Some c.in-Some.place.now = search rules in
    let lanes = lanes_of c.args.self.now in
    ap (λ (ps : List ℕ → Option ℕ). record lanes { places = ps }) (same-places lanes.places lanes.seen c.in-Some.place.now host there)
    ∙ ap (λ (s : ℕ). record lanes { places = λ other. if bytes_eq host other then Some (unwrap_or (lanes.places host) lanes.seen) else lanes.places other; seen = s }) (sym (ap (λ (p : Option ℕ). seen_with p lanes.seen) there))

pub returns-clause-place : goal.returns-clause-place
unfolding lanes_of
returns-clause-place c =
    let map = c.args.self.now.places in
    let host = c.args.host.now in
    let absent : get (slice_cmp nat_cmp) map host ≡ None = search rules in
    c.len-place.ensures.len ∙ ap (λ (p : Option ℕ). unwrap_or p (btree_map_len map)) (sym absent)

pub returns-clause-hosts : goal.returns-clause-hosts
unfolding lanes_of
returns-clause-hosts c =
    let map = c.args.self.now.places in
    let new = c.insert.new.self in
    let host = c.args.host.now in
    let lanes = lanes_of c.args.self.now in
    let absent : get (slice_cmp nat_cmp) map host ≡ None = search rules in
    let place : c.len-place.result ≡ unwrap_or (lanes.places host) lanes.seen = c.len-place.ensures.len ∙ ap (λ (p : Option ℕ). unwrap_or p lanes.seen) (sym absent) in
    let count : btree_map_len new ≡ lanes.seen + 1 = search rules in
    let at : (other : List ℕ) → get (slice_cmp nat_cmp) new other ≡ (if bytes_eq host other then Some (unwrap_or (lanes.places host) lanes.seen) else lanes.places other) =
    λ other. inserted (lanes.places other) host other c.in_ok-copy.field-0 c.len-place.result (unwrap_or (lanes.places host) lanes.seen) c.in_ok-copy.ensures place (c.in_ok-insert.ensures.updates.0 other) in
    ap (λ (ps : List ℕ → Option ℕ). record lanes { places = ps; seen = btree_map_len new }) (fun_ext at)
    ∙ ap (λ (s : ℕ). record lanes { places = λ other. if bytes_eq host other then Some (unwrap_or (lanes.places host) lanes.seen) else lanes.places other; seen = s })
    (count ∙ sym (ap (λ (p : Option ℕ). seen_with p lanes.seen) absent))
