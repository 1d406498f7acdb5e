use Rattle.std.proofs.Common.{sym, ◌∙◌, subst}
use Rattle.acq_outside.specs.Disk.{IsName}
use Rattle.partial_store.proofs.PartNames.{kept_name, part_path}
use Rattle.partial_store.proofs.PartCalls.{sync_moments, sync_others}
use Rattle.partial_store.proofs.store.finish.Goals as goal

pub sync-requires : goal.sync-requires
sync-requires g c = subst (λ p. IsName p) (sym c.as_bytes.ensures) (kept_name c.part.inside.path c.part.invariant)

pub returns-in_err-sync-clause-moments : goal.returns-in_err-sync-clause-moments
returns-in_err-sync-clause-moments g c = sync_moments c.args.part.name c.as_bytes.result.now (g.D.Disk.trace c.args.disk.now) (g.D.Disk.trace c.sync.new.self) c.sync.result (c.as_bytes.ensures ∙ part_path c.part.inside.path c.part.inside.len c.args.part c.part.view_is c.part.invariant) (g.met.D.Disk.sound c.args.disk.now) c.sync.ensures.step

pub returns-in_err-sync-clause-others : goal.returns-in_err-sync-clause-others
returns-in_err-sync-clause-others g c = sync_others c.args.part.name c.as_bytes.result.now (g.D.Disk.trace c.args.disk.now) (g.D.Disk.trace c.sync.new.self) c.sync.result (c.as_bytes.ensures ∙ part_path c.part.inside.path c.part.inside.len c.args.part c.part.view_is c.part.invariant) (g.met.D.Disk.sound c.args.disk.now) c.sync.ensures.step

pub returns-clause-moments : goal.returns-clause-moments
returns-clause-moments g c = sync_moments c.args.part.name c.as_bytes.result.now (g.D.Disk.trace c.args.disk.now) (g.D.Disk.trace c.sync.new.self) c.sync.result (c.as_bytes.ensures ∙ part_path c.part.inside.path c.part.inside.len c.args.part c.part.view_is c.part.invariant) (g.met.D.Disk.sound c.args.disk.now) c.sync.ensures.step

pub returns-clause-others : goal.returns-clause-others
returns-clause-others g c = sync_others c.args.part.name c.as_bytes.result.now (g.D.Disk.trace c.args.disk.now) (g.D.Disk.trace c.sync.new.self) c.sync.result (c.as_bytes.ensures ∙ part_path c.part.inside.path c.part.inside.len c.args.part c.part.view_is c.part.invariant) (g.met.D.Disk.sound c.args.disk.now) c.sync.ensures.step
