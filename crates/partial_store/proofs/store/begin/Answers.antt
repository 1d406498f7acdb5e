use Rattle.std.proofs.Common.{sym, ap, ◌∙◌, subst, take}
use Rattle.acq_outside.specs.Disk.{IsName}
use Rattle.journal_model.specs.Names.{partial}
use Rattle.journal_model.specs.Rest.{part_bytes}
use Rattle.partial_store.proofs.PartNames.{partial_name, kept}
use Rattle.partial_store.proofs.PartCalls.{Ends, cut_goes, at_ok}
use Rattle.partial_store.proofs.store.begin.Goals as goal

pub cut-requires-clause-name : goal.cut-requires-clause-name
cut-requires-clause-name g c =
    subst (λ p. IsName p) (sym (c.as_bytes-2.ensures ∙ c.new-path.ensures ∙ ap partial c.as_bytes.ensures)) (partial_name c.args.name.now.0 c.requires.name)

pub returns-in_err-cut-clause-moments : goal.returns-in_err-cut-clause-moments
returns-in_err-cut-clause-moments g c = (cut_goes c.args.name.now.0 c.as_bytes-2.result.now c.args.keep (g.D.Disk.trace c.args.disk.now) (g.D.Disk.trace c.cut.new.self) c.cut.result (c.as_bytes-2.ensures ∙ c.new-path.ensures ∙ ap partial c.as_bytes.ensures) (g.met.D.Disk.sound c.args.disk.now) c.cut.ensures.step).0

pub returns-in_err-cut-clause-others : goal.returns-in_err-cut-clause-others
returns-in_err-cut-clause-others g c = (cut_goes c.args.name.now.0 c.as_bytes-2.result.now c.args.keep (g.D.Disk.trace c.args.disk.now) (g.D.Disk.trace c.cut.new.self) c.cut.result (c.as_bytes-2.ensures ∙ c.new-path.ensures ∙ ap partial c.as_bytes.ensures) (g.met.D.Disk.sound c.args.disk.now) c.cut.ensures.step).1

pub invariant_of-result : goal.invariant_of-result
invariant_of-result g c = kept c.args.name.now.0 c.new-path.result c.requires.name (c.new-path.ensures ∙ ap partial c.as_bytes.ensures)

pub returns-clause-moments : goal.returns-clause-moments
returns-clause-moments g c = (cut_goes c.args.name.now.0 c.as_bytes-2.result.now c.args.keep (g.D.Disk.trace c.args.disk.now) (g.D.Disk.trace c.cut.new.self) c.cut.result (c.as_bytes-2.ensures ∙ c.new-path.ensures ∙ ap partial c.as_bytes.ensures) (g.met.D.Disk.sound c.args.disk.now) c.cut.ensures.step).0

pub returns-clause-others : goal.returns-clause-others
returns-clause-others g c = (cut_goes c.args.name.now.0 c.as_bytes-2.result.now c.args.keep (g.D.Disk.trace c.args.disk.now) (g.D.Disk.trace c.cut.new.self) c.cut.result (c.as_bytes-2.ensures ∙ c.new-path.ensures ∙ ap partial c.as_bytes.ensures) (g.met.D.Disk.sound c.args.disk.now) c.cut.ensures.step).1

pub returns-clause-there : goal.returns-clause-there
returns-clause-there g c =
    (at_ok c.cut.result c.in_ok-cut.field-0 (Ends c.args.name.now.0 (take c.args.keep (part_bytes (g.D.Disk.trace c.args.disk.now) c.args.name.now.0)) (g.D.Disk.trace c.cut.new.self)) c.in_ok-cut.was
    (cut_goes c.args.name.now.0 c.as_bytes-2.result.now c.args.keep (g.D.Disk.trace c.args.disk.now) (g.D.Disk.trace c.cut.new.self) c.cut.result (c.as_bytes-2.ensures ∙ c.new-path.ensures ∙ ap partial c.as_bytes.ensures) (g.met.D.Disk.sound c.args.disk.now) c.cut.ensures.step).2).0

pub returns-clause-bytes : goal.returns-clause-bytes
returns-clause-bytes g c =
    (at_ok c.cut.result c.in_ok-cut.field-0 (Ends c.args.name.now.0 (take c.args.keep (part_bytes (g.D.Disk.trace c.args.disk.now) c.args.name.now.0)) (g.D.Disk.trace c.cut.new.self)) c.in_ok-cut.was
    (cut_goes c.args.name.now.0 c.as_bytes-2.result.now c.args.keep (g.D.Disk.trace c.args.disk.now) (g.D.Disk.trace c.cut.new.self) c.cut.result (c.as_bytes-2.ensures ∙ c.new-path.ensures ∙ ap partial c.as_bytes.ensures) (g.met.D.Disk.sound c.args.disk.now) c.cut.ensures.step).2).1
