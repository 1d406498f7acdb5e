use Rattle.std.proofs.Common.{◌≡◌, ◌⊎◌, ◌∙◌, None, ap, arith, refl, subst, sym, true}
use Rattle.acq_outside.specs.Count.{Rose}
use Rattle.acq_outside.specs.Word.{IsWord, begun}
use Rattle.http_method.specs.Reading.{under_of, world_of}
use Rattle.http_method.proofs.Settled.{faults_same, file_word, heard_so, link_same, narrowed, settled_link, settled_word}
use Rattle.http_method.proofs.method.HttpMethodMethod.begin.Goals as goal

pub returns-in-Http-clause-word : goal.returns-in-Http-clause-word
returns-in-Http-clause-word g c =
    let world = g.L.Link.world in
    let same = link_same world c.self.view_is in
    subst (λ w. IsWord c.args.self.now.faults c.record_step.new.self.faults (world_of w) (begun c.args.job.now) (under_of c.record_step.new.self.reading) c.record_step.result) same
    (narrowed c.args.self.now.faults c.record_step.new.self.faults (world c.self.inside.link) (begun c.args.job.now) (under_of c.record_step.new.self.reading) c.record_step.result
    (settled_word (world c.self.inside.link) c.args.self.now.faults c.self.inside.faults c.record_step.new.self.faults (begun c.args.job.now) c.ask-said.result c.record_step.result c.record_step.new.self.reading
    (faults_same c.self.view_is) c.ask-said.ensures.told c.record_step.ensures.word c.record_step.ensures.reading c.record_step.ensures.frame.quiet c.record_step.ensures.fault c.record_step.ensures.over c.record_step.ensures.counted))

pub returns-in-Http-clause-frame : goal.returns-in-Http-clause-frame
returns-in-Http-clause-frame g c =
    let faults = g.L.Link.faults in
    let world = g.L.Link.world in
    let before = link_same faults c.self.view_is in
    let after = ap faults c.record_step.ensures.link in
    record {
      fetches = record {
        count = omega (arith, faults_same c.self.view_is, c.record_step.ensures.frame.count);
        same = ap world_of (ap world c.record_step.ensures.link ∙ c.ask-said.ensures.frame.same ∙ link_same world c.self.view_is);
      };
      link_count = omega (arith, before, after, c.ask-said.ensures.frame.count);
      link_fault = settled_link (world c.self.inside.link) (faults c.args.self.now.link) (faults c.self.inside.link) (faults c.record_step.new.self.link) (faults c.ask-said.new.link) c.self.inside.faults c.record_step.new.self.faults (begun c.args.job.now) c.ask-said.result c.record_step.result
          before after c.ask-said.ensures.told c.ask-said.ensures.frame.fault c.ask-said.ensures.frame.quiet c.record_step.ensures.word c.record_step.ensures.fault;
    }

pub returns-in-File-clause-word : goal.returns-in-File-clause-word
returns-in-File-clause-word g c = file_word c.args.self.now.faults c.self.inside.faults (g.L.Link.world c.args.self.now.link) c.args.job.now None (faults_same c.self.view_is) refl c.in-File.is

pub returns-in-Http-clause-heard : goal.returns-in-Http-clause-heard
returns-in-Http-clause-heard g c = λ http from_peer.
    let made = g.L.Link.made in
    let answered = g.L.Link.answered in
    let last = c.ask-said.new.link in
    subst (λ l. Rose (made c.args.self.now.link) (made l) ⊎ (answered l ≡ true)) (sym c.record_step.ensures.link)
    (subst (λ n. Rose n (made last) ⊎ (answered last ≡ true)) (link_same made c.self.view_is)
    (heard_so (Rose (made c.self.inside.link) (made last) ⊎ (answered last ≡ true)) c.self.inside.faults c.record_step.new.self.faults c.ask-said.result c.record_step.result c.ask-said.ensures.heard c.record_step.ensures.word c.record_step.ensures.fault from_peer))
