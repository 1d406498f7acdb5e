use Rattle.std.proofs.Common.{◌≡◌, ◌+◌, drop, Option, ℕ, ap, sym, ◌∙◌, rules}
use Rattle.deb822_text.specs.Names.{lesser, next_place, least_place}
use Rattle.deb822_text.proofs.Repeats.{lesser-assoc}
use Rattle.deb822_text.proofs.Keys.{least_on}
use Rattle.deb822_text.proofs.repeated.first_place.Goals as goal

pub loop-at-preserved : goal.loop-at-preserved
loop-at-preserved c =
    let keys = c.args.keys.now in
    let rest : c.split_at.result.1.now ≡ drop c.loop-at.at keys = c.split_at.ensures.back in
    ap (λ (least : Option ℕ). lesser least (least_place (drop (c.loop-at.at + 1) keys))) (c.lesser-least.ensures ∙ ap (lesser c.loop-at.least) (c.next_place.ensures ∙ ap next_place rest))
    ∙ lesser-assoc c.loop-at.least (next_place (drop c.loop-at.at keys)) (least_place (drop (c.loop-at.at + 1) keys))
    ∙ ap (lesser c.loop-at.least) (sym (least_on keys c.loop-at.at (search rules)))
    ∙ c.loop-at.invariant
