use Rattle.std.proofs.Common.{◌≡◌, ◌∙◌, sym, ap, rules, arith, List, [], ◌∷◌, ◌++◌, ◌+◌, drop, Option, None, ℕ, append_assoc}
use Rattle.acq_outside.specs.Crash.{all_any}
use Rattle.acq_memory.proofs.Cells.{any_step}
use Rattle.acq_memory.proofs.replay.any_row.Goals as goal

pub loop-byte-preserved : goal.loop-byte-preserved
loop-byte-preserved c =
    let i = c.loop-byte.byte-index in
    let pushed : c.push.new.self ≡ c.loop-byte.new ++ None ∷ [] = search rules in
    let later : List (Option ℕ) = all_any (drop (i + 1) c.args.bytes.now) in
    c.loop-byte.invariant ∙ ap (λ (l : List (Option ℕ)). c.loop-byte.new ++ l) (any_step c.args.bytes.now i (omega arith)) ∙ sym (append_assoc c.loop-byte.new (None ∷ []) later) ∙ ap (λ (l : List (Option ℕ)). l ++ later) (sym pushed)
