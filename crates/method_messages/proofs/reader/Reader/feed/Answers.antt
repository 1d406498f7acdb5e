use Rattle.std.proofs.Common.{rules, ◌∙◌, ap, Err, inl, inr, ⊎_elim, ◌++◌}
use Rattle.method_messages.proofs.Going.{piece_within}
use Rattle.method_messages.proofs.OneReading.{one_of_both, certain}
use Rattle.method_messages.proofs.reader.Reader.feed.Goals as goal

pub returns-in-Ok-clause-certain : goal.returns-in-Ok-clause-certain
returns-in-Ok-clause-certain c stream before fault h refused =
    let within = piece_within stream c.args.piece.now before c.args.self.now c.self.inside.begins c.self.inside.held.items c.as_slice.result.now c.len-before.result
    c.self.view_is (c.as_slice.ensures.value ∙ c.in_ok-append.ensures) (search rules) h in
    absurd (one_of_both (stream ++ c.args.piece.now) _ _ fault (c.in-Ok.ensures.told (stream ++ c.args.piece.now) before within) refused)

pub returns-in-Err-clause-only : goal.returns-in-Err-clause-only
returns-in-Err-clause-only c stream before h =
    let within = piece_within stream c.args.piece.now before c.args.self.now c.self.inside.begins c.self.inside.held.items c.as_slice.result.now c.len-before.result
    c.self.view_is (c.as_slice.ensures.value ∙ c.in_ok-append.ensures) (search rules) h in
    c.in-Err.ensures.told (stream ++ c.args.piece.now) before within

pub returns-in-Err-clause-certain : goal.returns-in-Err-clause-certain
returns-in-Err-clause-certain c stream before fault h refused =
    let within = piece_within stream c.args.piece.now before c.args.self.now c.self.inside.begins c.self.inside.held.items c.as_slice.result.now c.len-before.result
    c.self.view_is (c.as_slice.ensures.value ∙ c.in_ok-append.ensures) (search rules) h in
    ⊎_elim (λ e. inl (ap Err e)) (λ e. inr (ap Err e))
    (certain (stream ++ c.args.piece.now) fault c.in-Err.fault (c.in-Err.ensures.told (stream ++ c.args.piece.now) before within) refused)
