use Rattle.std.proofs.Common.{subst, sym, ℕ, ◌≤◌, List, [], ◌∷◌, length, IsSomeAnd}
use Rattle.journal_model.specs.Names.{journal}
use Rattle.journal_model.proofs.Literals.{journal_named}
use Rattle.journal_model.specs.Spelling.{all_steps}
use Rattle.acq_outside.specs.declared.change.DiskCall.TheVariants.{Write}
use Rattle.commit_journal.specs.Changes.{steps_in}
use Rattle.commit_journal.specs.Commits.{IsPrepared}
use Rattle.commit_journal.proofs.Looks.{there_in}
use Rattle.commit_journal.proofs.Others.{journal_write}
use Rattle.commit_journal.proofs.Opens.{write_keeps, write_over, write_ready, ticks_once, ready_there}
use Rattle.commit_journal.proofs.Turned.{settled_first}
use Rattle.commit_journal.proofs.committing.write_gate.Goals as goal

pub write_at-requires-clause-name : goal.write_at-requires-clause-name
write_at-requires-clause-name g c = journal_named _ c.as_slice.ensures

pub write_at-requires-clause-there : goal.write_at-requires-clause-there
write_at-requires-clause-there g c = λ told.
    subst (λ (n : List ℕ). IsSomeAnd (g.D.Disk.files c.args.disk.now n) (λ content. 0 ≤ length content)) (sym c.as_slice.ensures)
    (there_in (IsPrepared c.args.prepared.now.groups) journal 0 (ready_there c.args.prepared.now.groups) (g.D.Disk.tells c.args.disk.now) (g.D.Disk.files c.args.disk.now) (g.D.Disk.trace c.args.disk.now) (g.met.D.Disk.shown c.args.disk.now) c.requires told)

pub returns-clause-moments : goal.returns-clause-moments
returns-clause-moments g c = write_keeps c.args.prepared.now.groups _ _ _ c.write_at.result c.as_slice.ensures (g.met.D.Disk.sound c.args.disk.now) c.requires c.write_at.ensures.step

pub returns-clause-once : goal.returns-clause-once
returns-clause-once g c = (ticks_once (Write c.as_slice.result.now 0 (1 ∷ [])) _ _ c.write_at.result c.write_at.ensures.step).0

pub returns-clause-later : goal.returns-clause-later
returns-clause-later g c = (ticks_once (Write c.as_slice.result.now 0 (1 ∷ [])) _ _ c.write_at.result c.write_at.ensures.step).1

pub returns-clause-synced : goal.returns-clause-synced
returns-clause-synced g c = settled_first _ _ (write_ready c.args.prepared.now.groups _ _ _ c.write_at.result c.as_slice.ensures (g.met.D.Disk.sound c.args.disk.now) c.requires c.write_at.ensures.step).0

pub returns-clause-others : goal.returns-clause-others
returns-clause-others g c = journal_write (all_steps (steps_in c.args.prepared.now.groups)) _ 0 (1 ∷ []) _ _ c.write_at.result c.as_slice.ensures (g.met.D.Disk.sound c.args.disk.now) c.write_at.ensures.step

pub returns-clause-over : goal.returns-clause-over
returns-clause-over g c = write_over c.args.prepared.now.groups _ _ _ c.write_at.result c.as_slice.ensures (g.met.D.Disk.sound c.args.disk.now) c.write_at.ensures.step

pub returns-clause-done : goal.returns-clause-done
returns-clause-done g c = (write_ready c.args.prepared.now.groups _ _ _ c.write_at.result c.as_slice.ensures (g.met.D.Disk.sound c.args.disk.now) c.requires c.write_at.ensures.step).1
