use Rattle.std.proofs.Common.{◌∙◌, sym, ap, subst, IsTrue, Bool}
use Rattle.acq_outside.specs.Disk.{Files}
use Rattle.commit_journal.proofs.Lists.{anyhow}
use Rattle.std.proofs.Common.{[], ◌∷◌}
use Rattle.acq_outside.specs.Disk.{after_write}
use Rattle.journal_model.specs.Names.{new_journal}
use Rattle.commit_journal.specs.Phases.{IsOfMaking}
use Rattle.commit_journal.proofs.Moved.{recovers_on}
use Rattle.commit_journal.proofs.making.make_beside.Goals as goal

pub returns-clause-told : goal.returns-clause-told
returns-clause-told g c = λ told.
    anyhow c.sync_beside.result (c.sync_beside.ensures.same ∙ c.in_ok-write_beside.ensures.told (subst (λ (b : Bool). IsTrue b) (sym c.cut_beside.ensures.frame.telling) told) ∙ ap (λ (f : Files). after_write f new_journal 0 (0 ∷ [])) (c.in_ok-cut_beside.ensures.told told))

pub returns-clause-moves : goal.returns-clause-moves
returns-clause-moves g c =
    recovers_on IsOfMaking _ _ _ _ _ c.write_beside.result c.sync_beside.result (recovers_on IsOfMaking _ _ _ _ _ c.cut_beside.result c.write_beside.result c.cut_beside.ensures.moves c.write_beside.ensures.moves) c.sync_beside.ensures.moves
