use Rattle.std.proofs.Common.{◌-◌}
use Rattle.file_method.proofs.Words.{faults_same, files_same, left_same, said}
use Rattle.file_method.proofs.method.FileMethod.next_word.Goals as goal

pub returns-in-Ok-clause-word : goal.returns-in-Ok-clause-word
returns-in-Ok-clause-word g c =
    let files = g.T.Tree.files in
    said c.args.self.now.faults c.self.inside.faults (c.self.inside.size - c.args.fetch.now.at) c.args.self.now.size (files c.args.self.now.tree) (files c.self.inside.tree) c.args.fetch.now c.in-Ok.bytes c.word_of.result
    (faults_same c.self.view_is) (files_same files c.self.view_is)
    (left_same c.args.fetch.now.at c.self.view_is) c.word_of.ensures c.requires.fetch c.in-Ok.ensures.small c.in-Ok.ensures.within c.in-Ok.ensures.told
