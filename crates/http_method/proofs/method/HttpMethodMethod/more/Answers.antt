use Rattle.std.proofs.Common.{◌∙◌, IfSome, ap, arith, subst, sym}
use Rattle.acq_outside.specs.declared.word.Fetch.{Fetch}
use Rattle.acq_outside.specs.Word.{IsWord}
use Rattle.http_method.specs.declared.reading.Reading.{Reading}
use Rattle.http_method.specs.HttpMethod.{said_of}
use Rattle.http_method.specs.Line.{line_of}
use Rattle.http_method.specs.Reading.{SaysOn, under_of, world_of}
use Rattle.http_method.proofs.Settled.{faults_same, link_same, narrowed, of_fetch, of_reading, reading_same, settled_link, settled_says, settled_word}
use Rattle.http_method.proofs.method.HttpMethodMethod.more.Goals as goal

pub returns-clause-word : goal.returns-clause-word
returns-clause-word g c =
    let world = g.L.Link.world in
    let same = link_same world c.self.view_is in
    let was = sym (reading_same c.self.view_is) ∙ sym c.take.ensures.value ∙ c.in-Some.is in
    subst (λ w. IfSome (under_of c.args.self.now.reading) (λ (fetch : Fetch). IsWord c.args.self.now.faults c.record_step.new.self.faults (world_of w) fetch (under_of c.record_step.new.self.reading) c.record_step.result)) same
    (of_fetch c.args.self.now.reading c.in-Some.reading (λ (fetch : Fetch). IsWord c.args.self.now.faults c.record_step.new.self.faults (world_of (world c.self.inside.link)) fetch (under_of c.record_step.new.self.reading) c.record_step.result) was
    (narrowed c.args.self.now.faults c.record_step.new.self.faults (world c.self.inside.link) c.in-Some.reading.fetch (under_of c.record_step.new.self.reading) c.record_step.result
    (settled_word (world c.self.inside.link) c.args.self.now.faults c.self.inside.faults c.record_step.new.self.faults c.in-Some.reading.fetch c.next_word-said.result c.record_step.result c.record_step.new.self.reading
    (faults_same c.self.view_is) c.next_word-said.ensures.told c.record_step.ensures.word c.record_step.ensures.reading c.record_step.ensures.frame.quiet c.record_step.ensures.fault c.record_step.ensures.over c.record_step.ensures.counted)))

pub returns-clause-frame : goal.returns-clause-frame
returns-clause-frame g c =
    let faults = g.L.Link.faults in
    let world = g.L.Link.world in
    let before = link_same faults c.self.view_is in
    let after = ap faults c.record_step.ensures.link in
    record {
      fetches = record {
        count = omega (arith, faults_same c.self.view_is, c.record_step.ensures.frame.count);
        same = ap world_of (ap world c.record_step.ensures.link ∙ c.next_word-said.ensures.frame.same ∙ link_same world c.self.view_is);
      };
      link_count = omega (arith, before, after, c.next_word-said.ensures.frame.count);
      link_fault = settled_link (world c.self.inside.link) (faults c.args.self.now.link) (faults c.self.inside.link) (faults c.record_step.new.self.link) (faults c.next_word-said.new.link) c.self.inside.faults c.record_step.new.self.faults c.in-Some.reading.fetch c.next_word-said.result c.record_step.result
          before after c.next_word-said.ensures.told c.next_word-said.ensures.frame.fault c.next_word-said.ensures.frame.quiet c.record_step.ensures.word c.record_step.ensures.fault;
    }

pub returns-clause-says : goal.returns-clause-says
returns-clause-says g c =
    let line = line_of g.L.Link in
    let was = sym (reading_same c.self.view_is) ∙ sym c.take.ensures.value ∙ c.in-Some.is in
    of_reading c.args.self.now.reading c.in-Some.reading (λ (reading : Reading). SaysOn (line c.args.self.now.link) reading (line c.record_step.new.self.link) (said_of c.record_step.result c.record_step.new.self)) was
    (settled_says (line c.args.self.now.link) (line c.self.inside.link) (line c.next_word-said.new.link) (line c.record_step.new.self.link) c.in-Some.reading c.next_word-said.result c.record_step.result c.record_step.new.self.kept c.record_step.new.self.reading
    c.self.inside.faults c.record_step.new.self.faults (link_same line c.self.view_is) (ap line c.record_step.ensures.link) c.next_word-said.ensures.says c.record_step.ensures.word c.record_step.ensures.kept c.record_step.ensures.reading c.record_step.ensures.fault)
