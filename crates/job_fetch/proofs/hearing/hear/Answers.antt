use Rattle.std.specs.Prelude.{is_some}
use Rattle.std.proofs.Common.{refl, subst, IfSome}
use Rattle.acq_base.specs.Mirror.{answer_at}
use Rattle.acq_outside.specs.Word.{HasSize}
use Rattle.job_fetch.specs.Hearing.{name_of}
use Rattle.job_fetch.proofs.Ends.{no_file, not_answer, not_counted, not_sound, on_err}
use Rattle.job_fetch.proofs.Hears.{still_keeps}
use Rattle.job_fetch.proofs.hearing.hear.Goals as goal

pub returns-in_err-next-in-Piece-clause-dry : goal.returns-in_err-next-in-Piece-clause-dry
returns-in_err-next-in-Piece-clause-dry g c = λ before after world under word. let piece = rw c.in-Piece.is at word in on_err _ piece.quiet

pub returns-in_ok-next-in-Piece-clause-ends : goal.returns-in_ok-next-in-Piece-clause-ends
returns-in_ok-next-in-Piece-clause-ends g c = λ before after world under word. let piece = rw c.in-Piece.is at word in piece.quiet

pub returns-in_ok-next-in-Piece-clause-hears : goal.returns-in_ok-next-in-Piece-clause-hears
returns-in_ok-next-in-Piece-clause-hears g c = λ before after world part under word come. let piece = rw c.in-Piece.is at word in c.in_ok-next-in-Piece.ensures.come world part piece.told come

pub returns-in_err-body-in-Done-clause-dry : goal.returns-in_err-body-in-Done-clause-dry
returns-in_err-body-in-Done-clause-dry g c = λ before after world under word. let done = rw c.in-Done.is at word in on_err _ done.quiet

pub returns-in_ok-body-in-Done-clause-ends : goal.returns-in_ok-body-in-Done-clause-ends
returns-in_ok-body-in-Done-clause-ends g c = λ before after world under word. let done = rw c.in-Done.is at word in (c.in_ok-body-in-Done.ensures.comes, done.quiet)

pub returns-in_ok-body-in-Done-clause-hears : goal.returns-in_ok-body-in-Done-clause-hears
returns-in_ok-body-in-Done-clause-hears g c = λ before after world part under word come.
    let done = rw c.in-Done.is at word in
    c.in_ok-body-in-Done.ensures.all world part (subst (λ n. IfSome world (λ entries. HasSize (answer_at entries c.args.job.now.uri) c.args.job.now n)) done.reached done.told) come

pub returns-in-Not-clause-kept : goal.returns-in-Not-clause-kept
returns-in-Not-clause-kept g c = still_keeps c.args.job.now c.args.intake (g.D.Disk.trace c.args.disk.now) (g.D.Disk.trace c.args.disk.now) refl c.requires.can

pub returns-in-Not-clause-leads : goal.returns-in-Not-clause-leads
returns-in-Not-clause-leads g c = rw c.in-Not.is (refl, refl, λ sound. not_sound c.in-Not.end sound)

pub returns-in-Not-clause-ends : goal.returns-in-Not-clause-ends
returns-in-Not-clause-ends g c = λ before after world under word.
    let other = rw c.in-Not.is at word in (no_file (name_of c.args.intake) (g.D.Disk.trace c.args.disk.now) c.in-Not.end, not_counted before after c.in-Not.end other.counted)

pub returns-in-Not-clause-hears : goal.returns-in-Not-clause-hears
returns-in-Not-clause-hears g c = λ before after world part under word come known.
    let other = rw c.in-Not.is at word in not_answer world part (is_some (name_of c.args.intake)) c.args.job.now c.in-Not.end c.requires.begin other.told

pub returns-in-NoMemory-clause-dry : goal.returns-in-NoMemory-clause-dry
returns-in-NoMemory-clause-dry g c = λ before after world under word. let other = rw c.in-NoMemory.is at word in other.counted
