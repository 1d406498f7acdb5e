use Rattle.journal_model.proofs.Literals as literals
use Rattle.commit_journal.proofs.Besides.{name_goes}
use Rattle.std.proofs.Common.{◌≡◌, subst, List, ℕ, OnOk}
use Rattle.acq_outside.specs.Disk.{after_rename}
use Rattle.journal_model.specs.Names.{new_journal}
use Rattle.commit_journal.proofs.Others.{beside_named}
use Rattle.commit_journal.proofs.making.name_it.Goals as goal

pub rename-requires-clause-from : goal.rename-requires-clause-from
rename-requires-clause-from g c = literals.beside_named _ c.as_slice.ensures

pub rename-requires-clause-to : goal.rename-requires-clause-to
rename-requires-clause-to g c = literals.journal_named _ c.as_slice-2.ensures

pub returns-clause-told : goal.returns-clause-told
returns-clause-told g c = λ told.
    subst (λ (n : List ℕ). OnOk c.rename.result (g.D.Disk.files c.rename.new.self ≡ after_rename (g.D.Disk.files c.args.disk.now) new_journal n)) c.as_slice-2.ensures
    (subst (λ (n : List ℕ). OnOk c.rename.result (g.D.Disk.files c.rename.new.self ≡ after_rename (g.D.Disk.files c.args.disk.now) n c.as_slice-2.result.now)) c.as_slice.ensures (c.rename.ensures.ok told))

pub returns-clause-moves : goal.returns-clause-moves
returns-clause-moves g c =
    let goes = name_goes _ _ _ _ c.rename.result c.as_slice.ensures c.as_slice-2.ensures (g.met.D.Disk.sound c.args.disk.now) c.requires c.rename.ensures.step in
    record { moments = goes.0; others = beside_named _ _ _ _ c.rename.result c.as_slice.ensures c.as_slice-2.ensures (g.met.D.Disk.sound c.args.disk.now) c.rename.ensures.step; done = goes.1 }
