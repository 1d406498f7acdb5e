use Rattle.std.proofs.Common.{ap, Some}
use Rattle.acq_outside.specs.Word.{begun}
use Rattle.both_method.proofs.Own.{faults_same, file_word, files_same, http_word, peers_same}
use Rattle.both_method.proofs.method.BothMethodMethod.begin.Goals as goal

pub returns-in-File-clause-word : goal.returns-in-File-clause-word
returns-in-File-clause-word g c =
    let f = g.F.Method in
    let h = g.H.Method in
    file_word (f.faults c.self.inside.files) (f.faults c.begin-word.new.self) c.args.self.now.faults c.self.inside.faults c.own.new.faults (f.world c.self.inside.files) (f.world c.args.self.now.files) (h.world c.args.self.now.peers) (begun c.args.job.now)
    (f.under c.begin-word.new.self) (h.under c.self.inside.peers) (Some c.args.job.now.uri.scheme) c.begin-word.result c.own.result
    (faults_same c.self.view_is) (files_same f.world c.self.view_is) (ap Some c.in-File.is) c.in-File.is c.begin-word.ensures.word c.own.ensures.word c.own.ensures.counted

pub returns-in-Http-clause-word : goal.returns-in-Http-clause-word
returns-in-Http-clause-word g c =
    let f = g.F.Method in
    let h = g.H.Method in
    http_word (h.faults c.self.inside.peers) (h.faults c.begin-word-in-Http.new.self) c.args.self.now.faults c.self.inside.faults c.own-in-Http.new.faults (h.world c.self.inside.peers) (f.world c.args.self.now.files) (h.world c.args.self.now.peers) (begun c.args.job.now)
    (h.under c.begin-word-in-Http.new.self) (f.under c.self.inside.files) (Some c.args.job.now.uri.scheme) c.begin-word-in-Http.result c.own-in-Http.result
    (faults_same c.self.view_is) (peers_same h.world c.self.view_is) (ap Some c.in-Http.is) c.in-Http.is c.begin-word-in-Http.ensures.word c.own-in-Http.ensures.word c.own-in-Http.ensures.counted
