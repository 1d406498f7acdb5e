use Rattle.std.proofs.Common.{[], ◌∷◌, ◌≤◌, List, ℕ, length, subst, sym, IsSomeAnd}
use Rattle.acq_outside.specs.Disk.{Files}
use Rattle.journal_model.specs.Names.{journal}
use Rattle.journal_model.proofs.Literals.{journal_named}
use Rattle.commit_journal.specs.Laying.{HasRecordWritten}
use Rattle.commit_journal.proofs.Others.{journal_write}
use Rattle.commit_journal.proofs.Notes.{write_noted, told_in, noted_there}
use Rattle.commit_journal.proofs.noting.write_journal.Goals as goal

pub write_at-requires-clause-name : goal.write_at-requires-clause-name
write_at-requires-clause-name g c = journal_named _ c.as_slice.ensures

pub write_at-requires-clause-there : goal.write_at-requires-clause-there
write_at-requires-clause-there g c = λ told.
    subst (λ (n : List ℕ). IsSomeAnd (g.D.Disk.files c.args.disk.now n) (λ content. 1 ≤ length content)) (sym c.as_slice.ensures)
    (told_in (HasRecordWritten (0 ∷ [])) (λ (f : Files). IsSomeAnd (f journal) (λ content. 1 ≤ length content)) noted_there (g.D.Disk.tells c.args.disk.now) (g.D.Disk.files c.args.disk.now) (g.D.Disk.trace c.args.disk.now) (g.met.D.Disk.shown c.args.disk.now) (g.met.D.Disk.sound c.args.disk.now) c.requires told)

pub returns-clause-moves : goal.returns-clause-moves
returns-clause-moves g c =
    let goes = write_noted _ c.args.body.now _ _ c.write_at.result c.as_slice.ensures (g.met.D.Disk.sound c.args.disk.now) c.requires c.write_at.ensures.step in
    record { moments = goes.0; others = journal_write [] _ 1 c.args.body.now _ _ c.write_at.result c.as_slice.ensures (g.met.D.Disk.sound c.args.disk.now) c.write_at.ensures.step; done = goes.1 }
