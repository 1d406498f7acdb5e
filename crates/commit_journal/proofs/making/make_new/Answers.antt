use Rattle.std.proofs.Common.{◌∙◌, sym, ap, subst, IsTrue, Bool}
use Rattle.acq_outside.specs.Disk.{Files}
use Rattle.commit_journal.proofs.Lists.{anyhow}
use Rattle.acq_outside.specs.Disk.{after_rename}
use Rattle.journal_model.specs.Names.{new_journal, journal}
use Rattle.commit_journal.specs.Phases.{IsOfMaking}
use Rattle.commit_journal.proofs.Moved.{recovers_on}
use Rattle.commit_journal.proofs.making.make_new.Goals as goal

pub returns-clause-told : goal.returns-clause-told
returns-clause-told g c = λ told.
    anyhow c.name_lastingly.result (c.name_lastingly.ensures.same ∙ c.in_ok-name_it.ensures.told (subst (λ (b : Bool). IsTrue b) (sym c.make_beside.ensures.frame.telling) told) ∙ ap (λ (f : Files). after_rename f new_journal journal) (c.in_ok-make_beside.ensures.told told))

pub returns-clause-moves : goal.returns-clause-moves
returns-clause-moves g c =
    recovers_on IsOfMaking _ _ _ _ _ c.name_it.result c.name_lastingly.result (recovers_on IsOfMaking _ _ _ _ _ c.make_beside.result c.name_it.result c.make_beside.ensures.moves c.name_it.ensures.moves) c.name_lastingly.ensures.moves
