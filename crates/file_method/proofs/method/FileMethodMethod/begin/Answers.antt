use Rattle.std.proofs.Common.{None, refl}
use Rattle.acq_outside.specs.Word.{begun}
use Rattle.acq_base.specs.declared.fetch.NotServed.TheVariants.{Absent}
use Rattle.acq_outside.specs.declared.word.Word.TheVariants.{Not}
use Rattle.file_method.proofs.Words.{elsewhere_word, faults_same, idle_word}
use Rattle.file_method.proofs.method.FileMethodMethod.begin.Goals as goal

pub returns-in-Http-clause-word : goal.returns-in-Http-clause-word
returns-in-Http-clause-word g c =
    let files = g.T.Tree.files c.args.self.now.tree in
    idle_word c.args.self.now.faults c.self.inside.faults files (begun c.args.job.now) None (Not (Absent 404)) (faults_same c.self.view_is) refl
    (elsewhere_word c.args.self.now.faults files c.args.job.now c.in-Http.is)
