use Rattle.std.proofs.Common.{refl, sym, subst}
use Rattle.acq_outside.specs.declared.change.DiskCall.TheVariants.{Cut}
use Rattle.journal_model.specs.Names.{partial}
use Rattle.job_fetch.specs.Fetched.{Staging}
use Rattle.job_fetch.proofs.Fillings.{begun}
use Rattle.job_fetch.proofs.Others.{call_stages}
use Rattle.job_fetch.proofs.filling.open.Goals as goal

pub returns-clause-filling : goal.returns-clause-filling
returns-clause-filling g c =
    begun (g.D.Disk.trace c.args.disk.now) (g.D.Disk.trace c.begin.new.disk) (g.D.Disk.trace c.sum_front.new.disk) c.args.name.now.0 c.args.keep
    record { part = c.in_ok-part.part; total = c.in_ok-total.total }
    c.requires.keep c.begin.ensures.moments c.in_ok-part.ensures.part c.in_ok-part.ensures.there c.in_ok-part.ensures.bytes
    c.sum_front.ensures.still c.in_ok-total.ensures.small c.in_ok-total.ensures.sum

pub returns-in_err-part-clause-staging : goal.returns-in_err-part-clause-staging
returns-in_err-part-clause-staging g c = call_stages c.args.name.now.0 (Cut (partial c.args.name.now.0) c.args.keep) (g.D.Disk.trace c.args.disk.now) (g.D.Disk.trace c.begin.new.disk) c.begin.result refl (g.met.D.Disk.sound c.args.disk.now) c.begin.ensures.step

pub returns-in_err-total-clause-staging : goal.returns-in_err-total-clause-staging
returns-in_err-total-clause-staging g c =
    subst (λ t. Staging c.args.name.now.0 (g.D.Disk.trace c.args.disk.now) t) (sym c.sum_front.ensures.still)
    (call_stages c.args.name.now.0 (Cut (partial c.args.name.now.0) c.args.keep) (g.D.Disk.trace c.args.disk.now) (g.D.Disk.trace c.begin.new.disk) c.begin.result refl (g.met.D.Disk.sound c.args.disk.now) c.begin.ensures.step)

pub returns-clause-staging : goal.returns-clause-staging
returns-clause-staging g c =
    subst (λ t. Staging c.args.name.now.0 (g.D.Disk.trace c.args.disk.now) t) (sym c.sum_front.ensures.still)
    (call_stages c.args.name.now.0 (Cut (partial c.args.name.now.0) c.args.keep) (g.D.Disk.trace c.args.disk.now) (g.D.Disk.trace c.begin.new.disk) c.begin.result refl (g.met.D.Disk.sound c.args.disk.now) c.begin.ensures.step)
