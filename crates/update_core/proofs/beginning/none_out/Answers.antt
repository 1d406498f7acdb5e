use Rattle.std.proofs.Common.{◌≡◌, ◌∙◌, ℕ, None, ap, rules, arith}
use Rattle.std.specs.Prelude.{replicate}
use Rattle.update_core.proofs.beginning.none_out.Goals as goal

pub returns : goal.returns
returns c =
    let all : c.loop.counter ≡ c.args.lanes = search (rules, arith) in
    c.loop.invariant ∙ ap (λ (n : ℕ). replicate n None) all
