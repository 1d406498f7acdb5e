use Rattle.journal_model.proofs.Literals.{beside_named}
use Rattle.commit_journal.proofs.Besides.{cut_goes}
use Rattle.std.proofs.Common.{◌≡◌, subst, List, ℕ, OnOk}
use Rattle.acq_outside.specs.Disk.{after_cut}
use Rattle.commit_journal.proofs.Others.{beside_cut}
use Rattle.commit_journal.proofs.making.cut_beside.Goals as goal

pub cut-requires-clause-name : goal.cut-requires-clause-name
cut-requires-clause-name g c = beside_named _ c.as_slice.ensures

pub returns-clause-told : goal.returns-clause-told
returns-clause-told g c = λ told. subst (λ (n : List ℕ). OnOk c.cut.result (g.D.Disk.files c.cut.new.self ≡ after_cut (g.D.Disk.files c.args.disk.now) n 0)) c.as_slice.ensures (c.cut.ensures.ok told)

pub returns-clause-moves : goal.returns-clause-moves
returns-clause-moves g c =
    let goes = cut_goes _ _ _ c.cut.result c.as_slice.ensures (g.met.D.Disk.sound c.args.disk.now) c.requires c.cut.ensures.step in
    record { moments = goes.0; others = beside_cut _ 0 _ _ c.cut.result c.as_slice.ensures (g.met.D.Disk.sound c.args.disk.now) c.cut.ensures.step; done = goes.1 }
