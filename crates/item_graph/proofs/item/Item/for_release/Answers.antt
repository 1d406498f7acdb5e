use Rattle.std.proofs.Common.{◌≤◌, List, ℕ, [], length, subst, refl, arith}
use Rattle.item_graph.specs.Refinement.{point_of, retries_of}
use Rattle.item_graph.proofs.item.Item.for_release.Goals as goal

pub returns-clause-walk : goal.returns-clause-walk
unfolding point_of
returns-clause-walk c = c.in_ok-release.ensures.walk

pub returns-clause-retries : goal.returns-clause-retries
unfolding retries_of
returns-clause-retries c = refl

pub returns-clause-sound : goal.returns-clause-sound
unfolding point_of
returns-clause-sound c = λ planned. c.in_ok-release.ensures.sound planned.sound.release (subst (λ (name : List ℕ). length name ≤ 240) planned.sound.named (planned.short 0 [] (omega arith)))
