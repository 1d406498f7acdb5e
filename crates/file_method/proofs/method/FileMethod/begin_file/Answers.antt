use Rattle.std.proofs.Common.{◌∙◌}
use Rattle.file_method.proofs.Words.{absent_said, faults_same, files_same, under_same}
use Rattle.file_method.proofs.method.FileMethod.begin_file.Goals as goal

pub returns-in-Ok-None-clause-word : goal.returns-in-Ok-None-clause-word
returns-in-Ok-None-clause-word g c =
    let files = g.T.Tree.files in
    absent_said c.args.self.now.faults c.self.inside.faults (files c.args.self.now.tree) (files c.self.inside.tree) c.args.job.now c.self.inside.under c.in-Ok-None.field-0
    (faults_same c.self.view_is) (under_same c.self.view_is ∙ c.requires.idle)
    (files_same files c.self.view_is) c.in-Ok-None.field-0-is c.requires.sound c.requires.file c.in-Ok-None.ensures.told
