use Rattle.std.proofs.Common.{◌∙◌, ◌≤◌, ℕ, length, sym, ap, subst}
use Rattle.host_queues.proofs.Changes.{length-changed}
use Rattle.update_core.proofs.board.Board.issue.Goals as goal

pub invariant_of-self-2-clause-few : goal.invariant_of-self-2-clause-few
invariant_of-self-2-clause-few c =
    subst (λ (n : ℕ). n ≤ 4294967295) (sym (ap length c.put_out.ensures ∙ length-changed _ c.args.self.now.out.items c.args.lane)) c.args.self.now.few
