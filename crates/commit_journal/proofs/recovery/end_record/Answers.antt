use Rattle.std.proofs.Common.{◌∙◌, sym, ap, subst, IsTrue, Bool}
use Rattle.commit_journal.specs.Phases.{IsOfCommit, shut_files}
use Rattle.commit_journal.proofs.Lists.{anyhow}
use Rattle.commit_journal.proofs.Moved.{recovers_on}
use Rattle.commit_journal.proofs.recovery.end_record.Goals as goal

pub returns-clause-told : goal.returns-clause-told
returns-clause-told g c = λ told.
    anyhow c.sync_shut_gate.result (c.sync_shut_gate.ensures.same ∙ c.in_ok-write_shut_gate.ensures.told (subst (λ (b : Bool). IsTrue b) (sym c.sync_renames.ensures.frame.telling) told) ∙ ap shut_files c.sync_renames.ensures.same)

pub returns-clause-moves : goal.returns-clause-moves
returns-clause-moves g c =
    recovers_on (IsOfCommit c.args.steps.now) _ _ _ _ _ c.write_shut_gate.result c.sync_shut_gate.result (recovers_on (IsOfCommit c.args.steps.now) _ _ _ _ _ c.sync_renames.result c.write_shut_gate.result c.sync_renames.ensures.moves c.write_shut_gate.ensures.moves) c.sync_shut_gate.ensures.moves
