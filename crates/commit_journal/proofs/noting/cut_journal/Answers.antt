use Rattle.std.proofs.Common.{[], ◌≤◌, List, ℕ, length, subst, sym, unwrap_or}
use Rattle.acq_outside.specs.Disk.{Files}
use Rattle.journal_model.specs.Names.{journal}
use Rattle.journal_model.proofs.Literals.{journal_named}
use Rattle.commit_journal.specs.Laying.{IsIdleUnmoved}
use Rattle.commit_journal.proofs.Others.{journal_cut}
use Rattle.commit_journal.proofs.Notes.{cut_noted, told_in, long_enough}
use Rattle.commit_journal.proofs.noting.cut_journal.Goals as goal

pub cut-requires-clause-name : goal.cut-requires-clause-name
cut-requires-clause-name g c = journal_named _ c.as_slice.ensures

pub cut-requires-clause-within : goal.cut-requires-clause-within
cut-requires-clause-within g c = λ told.
    subst (λ (n : List ℕ). 1 ≤ length (unwrap_or (g.D.Disk.files c.args.disk.now n) [])) (sym c.as_slice.ensures)
    (told_in IsIdleUnmoved (λ (f : Files). 1 ≤ length (unwrap_or (f journal) [])) long_enough (g.D.Disk.tells c.args.disk.now) (g.D.Disk.files c.args.disk.now) (g.D.Disk.trace c.args.disk.now) (g.met.D.Disk.shown c.args.disk.now) (g.met.D.Disk.sound c.args.disk.now) c.requires told)

pub returns-clause-moves : goal.returns-clause-moves
returns-clause-moves g c =
    let goes = cut_noted _ _ _ c.cut.result c.as_slice.ensures (g.met.D.Disk.sound c.args.disk.now) c.requires c.cut.ensures.step in
    record { moments = goes.0; others = journal_cut [] _ 1 _ _ c.cut.result c.as_slice.ensures (g.met.D.Disk.sound c.args.disk.now) c.cut.ensures.step; done = goes.1 }
