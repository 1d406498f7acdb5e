use Rattle.journal_model.proofs.Literals.{beside_named}
use Rattle.std.proofs.Common.{◌≡◌, subst, sym, ℕ, ◌≤◌, List, [], ◌∷◌, length, IsSomeAnd, OnOk}
use Rattle.journal_model.specs.Names.{new_journal}
use Rattle.commit_journal.specs.Phases.{HasNewJournal}
use Rattle.commit_journal.proofs.Besides.{beside_there}
use Rattle.commit_journal.proofs.Looks.{there_in}
use Rattle.commit_journal.proofs.Besides.{write_goes}
use Rattle.acq_outside.specs.Disk.{after_write}
use Rattle.commit_journal.proofs.Others.{beside_write}
use Rattle.commit_journal.proofs.making.write_beside.Goals as goal

pub write_at-requires-clause-name : goal.write_at-requires-clause-name
write_at-requires-clause-name g c = beside_named _ c.as_slice.ensures

pub write_at-requires-clause-there : goal.write_at-requires-clause-there
write_at-requires-clause-there g c = λ told.
    subst (λ (n : List ℕ). IsSomeAnd (g.D.Disk.files c.args.disk.now n) (λ content. 0 ≤ length content)) (sym c.as_slice.ensures)
    (there_in (HasNewJournal []) new_journal 0 beside_there (g.D.Disk.tells c.args.disk.now) (g.D.Disk.files c.args.disk.now) (g.D.Disk.trace c.args.disk.now) (g.met.D.Disk.shown c.args.disk.now) c.requires told)

pub returns-clause-told : goal.returns-clause-told
returns-clause-told g c = λ told. subst (λ (n : List ℕ). OnOk c.write_at.result (g.D.Disk.files c.write_at.new.self ≡ after_write (g.D.Disk.files c.args.disk.now) n 0 (0 ∷ []))) c.as_slice.ensures (c.write_at.ensures.ok told)

pub returns-clause-moves : goal.returns-clause-moves
returns-clause-moves g c =
    let goes = write_goes _ _ _ c.write_at.result c.as_slice.ensures (g.met.D.Disk.sound c.args.disk.now) c.requires c.write_at.ensures.step in
    record { moments = goes.0; others = beside_write _ 0 (0 ∷ []) _ _ c.write_at.result c.as_slice.ensures (g.met.D.Disk.sound c.args.disk.now) c.write_at.ensures.step; done = goes.1 }
