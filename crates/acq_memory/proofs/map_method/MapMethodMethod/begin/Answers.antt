use Rattle.std.proofs.Common.{◌∙◌, ap, sym}
use Rattle.acq_memory.specs.declared.failing.Failing.{Failing}
use Rattle.acq_memory.specs.MapMethod.{MapState, faults_of}
use Rattle.acq_outside.specs.Word.{begun}
use Rattle.acq_memory.proofs.MapWords.{same_word, same_first, quiet_of}
use Rattle.acq_memory.proofs.map_method.MapMethodMethod.begin.Goals as goal

pub returns-in-Ok-clause-word : goal.returns-in-Ok-clause-word
returns-in-Ok-clause-word c =
    same_word (faults_of c.args.self.now) (faults_of c.go_on.new.self) c.self.inside.mirror.rows c.args.self.now.world _ (begun c.args.job.now) c.go_on.new.self.under c.go_on.result
    (same_first c.self.inside.failing c.go_on.new.self.failing c.self.inside.failing_more c.go_on.new.self.failing_more
    (ap (λ (calls : Failing). calls.faults) c.go_on.ensures.failing ∙ quiet_of c.call.result c.self.inside.failing c.call.new.self (sym c.is_err.ensures.value ∙ c.if-is_err.false) c.call.ensures.frame.quiet) c.go_on.ensures.failing_more ∙ ap faults_of c.self.view_is)
    (ap (λ (method : MapState). method.world) c.self.view_is) (ap begun c.in-Ok.ensures) (c.go_on.ensures.word (faults_of c.args.self.now))
