use Rattle.std.proofs.Common.{refl, sym}
use Rattle.acq_outside.specs.declared.change.DiskCall.TheVariants.{Sync}
use Rattle.journal_model.specs.Names.{partial}
use Rattle.journal_model.specs.Rest.{part_bytes}
use Rattle.job_fetch.proofs.Fillings.{lasts_as, told_before}
use Rattle.job_fetch.proofs.Others.{call_stages}
use Rattle.job_fetch.proofs.filling.finish_file.Goals as goal

pub returns-clause-lasts : goal.returns-clause-lasts
returns-clause-lasts g c told =
    lasts_as (g.D.Disk.trace c.finish.new.disk) c.args.filling.part.name (part_bytes (g.D.Disk.trace c.args.disk.now) c.args.filling.part.name) _ told c.in_ok-_size.ensures.synced
    (sym (c.sum.ensures _ (c.requires.summed (told_before _ _ c.finish.ensures.moments told))))

pub returns-in_err-_size-clause-only : goal.returns-in_err-_size-clause-only
returns-in_err-_size-clause-only g c = (call_stages c.args.filling.part.name (Sync (partial c.args.filling.part.name)) (g.D.Disk.trace c.args.disk.now) (g.D.Disk.trace c.finish.new.disk) c.finish.result refl (g.met.D.Disk.sound c.args.disk.now) c.finish.ensures.step).only

pub returns-clause-only : goal.returns-clause-only
returns-clause-only g c = (call_stages c.args.filling.part.name (Sync (partial c.args.filling.part.name)) (g.D.Disk.trace c.args.disk.now) (g.D.Disk.trace c.finish.new.disk) c.finish.result refl (g.met.D.Disk.sound c.args.disk.now) c.finish.ensures.step).only
