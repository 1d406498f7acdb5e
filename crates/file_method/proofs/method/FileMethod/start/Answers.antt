use Rattle.std.proofs.Common.{refl}
use Rattle.acq_base.specs.declared.fetch.NotServed.TheVariants.{Absent, TooBig}
use Rattle.acq_outside.specs.declared.word.Word.TheVariants.{Not}
use Rattle.acq_outside.specs.Word.{begun}
use Rattle.file_method.proofs.Words.{idle_word, long_word, short_word}
use Rattle.file_method.proofs.method.FileMethod.start.Goals as goal

pub returns-then-size-job-clause-word : goal.returns-then-size-job-clause-word
returns-then-size-job-clause-word g c =
    let files = g.T.Tree.files c.args.self.now.tree in
    idle_word c.args.self.now.faults c.args.self.now.faults files (begun c.args.job.now) c.args.self.now.under (Not TooBig) refl c.requires.idle
    (long_word c.args.self.now.faults c.args.size files c.args.job.now c.requires.sound c.requires.file c.if-size-job.true c.requires.told)

pub returns-then-size-job-2-clause-word : goal.returns-then-size-job-2-clause-word
returns-then-size-job-2-clause-word g c =
    let files = g.T.Tree.files c.args.self.now.tree in
    idle_word c.args.self.now.faults c.args.self.now.faults files (begun c.args.job.now) c.args.self.now.under (Not (Absent 416)) refl c.requires.idle
    (short_word c.args.self.now.faults c.args.size files c.args.job.now c.requires.sound c.requires.file c.if-job-gt0.true c.if-size-job-2.true c.requires.told)
