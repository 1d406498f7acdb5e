use Rattle.std.proofs.Common.{sym, ap, ◌∙◌, subst}
use Rattle.acq_outside.specs.Disk.{IsName}
use Rattle.journal_model.specs.Names.{partial}
use Rattle.partial_store.proofs.PartNames.{partial_name}
use Rattle.partial_store.proofs.store.resume_from.Goals as goal

pub size-requires : goal.size-requires
size-requires g c = subst (λ p. IsName p) (sym (c.as_bytes-2.ensures ∙ c.new-path.ensures ∙ ap partial c.as_bytes.ensures)) (partial_name c.args.name.now.0 c.requires)
