use Rattle.std.proofs.Common.{◌∙◌, ap, subst, List}
use Rattle.journal_model.specs.Spelling.{all_steps}
use Rattle.commit_journal.specs.Changes.{CanRecord, steps_in}
use Rattle.commit_journal.specs.Commits.{PreparedOf}
use Rattle.commit_journal.specs.declared.changing.Change.{Change}
use Rattle.commit_journal.proofs.Dropped.{none_left}
use Rattle.commit_journal.proofs.committing.carry_out.Goals as goal

pub returns-clause-gone : goal.returns-clause-gone
returns-clause-gone g c =
    let groups = ap (λ (p : PreparedOf). p.groups) c.prepared.view_is in
    none_left c.args.prepared.now.groups _ _ _ _ _ c.recover.result c.as_slice.result.now (g.met.D.Disk.shown c.recover.new.disk) (subst CanRecord groups c.prepared.invariant.1)
    (c.as_slice.ensures ∙ (c.prepared.invariant.0 ∙ ap (λ (gs : List (List Change)). all_steps (steps_in gs)) groups)) c.recover.ensures.frame.telling c.recover.ensures.told
