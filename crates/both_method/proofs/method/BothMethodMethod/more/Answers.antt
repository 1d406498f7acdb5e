use Rattle.std.proofs.Common.{◌≡◌, ◌∙◌, ap, Some}
use Rattle.acq_base.specs.declared.uri.Scheme.{Scheme}
use Rattle.acq_base.specs.declared.uri.Scheme.TheVariants.{Http, File}
use Rattle.both_method.proofs.Own.{faults_same, file_more, files_same, http_more, peers_same, turn_same}
use Rattle.both_method.proofs.method.BothMethodMethod.more.Goals as goal

pub returns-in-File-clause-word : goal.returns-in-File-clause-word
returns-in-File-clause-word g c =
    let turn_is : c.self.inside.turn ≡ Some File = c.in-Some.is ∙ ap (λ (s : Scheme). Some s) c.in-File.is in
    let f = g.F.Method in
    let h = g.H.Method in
    file_more (f.faults c.self.inside.files) (f.faults c.more-word.new.self) c.args.self.now.faults c.self.inside.faults c.own.new.faults (f.world c.self.inside.files) (f.world c.args.self.now.files) (h.world c.args.self.now.peers) c.args.self.now.turn c.self.inside.turn
    (f.under c.args.self.now.files) (f.under c.self.inside.files) (h.under c.args.self.now.peers) (h.under c.self.inside.peers) (f.under c.more-word.new.self) (h.under c.self.inside.peers) c.more-word.result c.own.result
    (faults_same c.self.view_is) (files_same f.world c.self.view_is) (turn_same c.self.view_is) turn_is (files_same f.under c.self.view_is) c.self.invariant
    c.more-word.ensures.word c.own.ensures.word c.own.ensures.counted

pub returns-in-Http-clause-word : goal.returns-in-Http-clause-word
returns-in-Http-clause-word g c =
    let turn_is : c.self.inside.turn ≡ Some Http = c.in-Some.is ∙ ap (λ (s : Scheme). Some s) c.in-Http.is in
    let f = g.F.Method in
    let h = g.H.Method in
    http_more (h.faults c.self.inside.peers) (h.faults c.more-word-in-Http.new.self) c.args.self.now.faults c.self.inside.faults c.own-in-Http.new.faults (h.world c.self.inside.peers) (f.world c.args.self.now.files) (h.world c.args.self.now.peers) c.args.self.now.turn c.self.inside.turn
    (h.under c.args.self.now.peers) (h.under c.self.inside.peers) (f.under c.args.self.now.files) (f.under c.self.inside.files) (h.under c.more-word-in-Http.new.self) (f.under c.self.inside.files) c.more-word-in-Http.result c.own-in-Http.result
    (faults_same c.self.view_is) (peers_same h.world c.self.view_is) (turn_same c.self.view_is) turn_is (peers_same h.under c.self.view_is) c.self.invariant
    c.more-word-in-Http.ensures.word c.own-in-Http.ensures.word c.own-in-Http.ensures.counted
