use Rattle.std.proofs.Common.{◌∙◌, ap, sym}
use Rattle.acq_memory.specs.declared.failing.Failing.{Failing}
use Rattle.acq_memory.specs.MapMethod.{MapState, faults_of}
use Rattle.acq_memory.proofs.MapWords.{some_word, same_second, quiet_of}
use Rattle.acq_memory.proofs.map_method.MapMethodMethod.more.Goals as goal

pub returns-clause-word : goal.returns-clause-word
returns-clause-word c =
    some_word (faults_of c.args.self.now) (faults_of c.go_on.new.self) c.self.inside.mirror.rows c.args.self.now.world c.in-Some.fetch c.args.self.now.under _ _
    (sym (ap (λ (method : MapState). method.under) c.self.view_is) ∙ sym c.take.ensures.value ∙ c.in-Some.is)
    (same_second c.self.inside.failing_more c.go_on.new.self.failing_more c.self.inside.failing c.go_on.new.self.failing
    (ap (λ (calls : Failing). calls.faults) c.go_on.ensures.failing_more ∙ quiet_of c.call.result c.self.inside.failing_more c.call.new.self (sym c.is_err.ensures.value ∙ c.if-is_err.false) c.call.ensures.frame.quiet)
    c.go_on.ensures.failing ∙ ap faults_of c.self.view_is)
    (ap (λ (method : MapState). method.world) c.self.view_is) (c.go_on.ensures.word (faults_of c.args.self.now))
