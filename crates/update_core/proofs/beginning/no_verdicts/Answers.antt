use Rattle.std.proofs.Common.{◌≡◌, ◌∙◌, ℕ, ap, rules, arith}
use Rattle.std.specs.Prelude.{replicate}
use Rattle.board_model.specs.Boards as model
use Rattle.update_core.proofs.beginning.no_verdicts.Goals as goal

pub returns : goal.returns
returns c =
    let all : c.loop.counter ≡ c.args.count = search (rules, arith) in
    c.loop.invariant ∙ ap (λ (n : ℕ). replicate n model.no_verdict) all
