use Rattle.journal_model.proofs.Literals.{journal_named}
use Rattle.commit_journal.proofs.Carries.{shut_goes}
use Rattle.std.proofs.Common.{◌≡◌, subst, List, ℕ, [], ◌∷◌, OnOk}
use Rattle.acq_outside.specs.Disk.{after_write}
use Rattle.commit_journal.proofs.Others.{journal_write}
use Rattle.commit_journal.proofs.recovery.write_shut_gate.Goals as goal

pub write_at-requires-clause-name : goal.write_at-requires-clause-name
write_at-requires-clause-name g c = journal_named _ c.as_slice.ensures

pub returns-clause-told : goal.returns-clause-told
returns-clause-told g c = λ told. subst (λ (n : List ℕ). OnOk c.write_at.result (g.D.Disk.files c.write_at.new.self ≡ after_write (g.D.Disk.files c.args.disk.now) n 0 (0 ∷ []))) c.as_slice.ensures (c.write_at.ensures.ok told)

pub returns-clause-moves : goal.returns-clause-moves
returns-clause-moves g c =
    let goes = shut_goes c.args.steps.now _ _ _ c.write_at.result c.as_slice.ensures (g.met.D.Disk.sound c.args.disk.now) c.requires c.write_at.ensures.step in
    record { moments = goes.0; others = journal_write c.args.steps.now _ 0 (0 ∷ []) _ _ c.write_at.result c.as_slice.ensures (g.met.D.Disk.sound c.args.disk.now) c.write_at.ensures.step; done = goes.1 }
