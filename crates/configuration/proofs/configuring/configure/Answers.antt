use Rattle.std.proofs.Common.{Ok, Err}
use Rattle.std.proofs.lemmas.Result.{err_from_is_err_and}
use Rattle.configuration.proofs.Answering.{pairs_fail, settings_fail, change_fail, entries_fail, plan_fail, plan_ends}
use Rattle.configuration.proofs.Steps.{conf_given}
use Rattle.configuration.proofs.configuring.configure.Goals as goal

pub returns-in_err-conf-clause-answer : goal.returns-in_err-conf-clause-answer
returns-in_err-conf-clause-answer g c =
    let p = err_from_is_err_and c.from_residual.result c.from_residual.ensures.1 in
    rw (p.1, p.2) (pairs_fail (g.E.Etc.files c.args.etc.now) c.args.options.now c.in_err-conf.field-0.0 (conf_given (g.E.Etc.files c.args.etc.now) c.as_slice.result.now c.args.options.now (Err c.in_err-conf.field-0.0) c.as_slice.ensures c.in_err-conf.ensures.read))

pub returns-in_err-settings-clause-answer : goal.returns-in_err-settings-clause-answer
returns-in_err-settings-clause-answer g c =
    let p = err_from_is_err_and c.from_residual-in_err-settings.result c.from_residual-in_err-settings.ensures.1 in
    rw (p.1, p.2) (settings_fail (g.E.Etc.files c.args.etc.now) c.args.options.now c.in_ok-conf.conf c.in_err-settings.field-0.0 (conf_given (g.E.Etc.files c.args.etc.now) c.as_slice.result.now c.args.options.now (Ok c.in_ok-conf.conf) c.as_slice.ensures c.in_ok-conf.ensures.read) c.in_err-settings.ensures.read)

pub returns-in_err-change-clause-answer : goal.returns-in_err-change-clause-answer
returns-in_err-change-clause-answer g c =
    let p = err_from_is_err_and c.from_residual-in_err-change.result c.from_residual-in_err-change.ensures.1 in
    rw (p.1, p.2) (change_fail (g.E.Etc.files c.args.etc.now) c.args.options.now c.in_ok-conf.conf c.in_ok-settings.settings c.in_err-change.field-0.0 (conf_given (g.E.Etc.files c.args.etc.now) c.as_slice.result.now c.args.options.now (Ok c.in_ok-conf.conf) c.as_slice.ensures c.in_ok-conf.ensures.read) c.in_ok-settings.ensures.read c.in_err-change.ensures.read)

pub returns-in_err-entries-clause-answer : goal.returns-in_err-entries-clause-answer
returns-in_err-entries-clause-answer g c =
    let p = err_from_is_err_and c.from_residual-in_err-entries.result c.from_residual-in_err-entries.ensures.1 in
    rw (p.1, p.2) (entries_fail (g.E.Etc.files c.args.etc.now) c.args.options.now (g.E.Etc.files c.read_pairs.new.etc) c.in_ok-conf.conf c.in_ok-settings.settings c.in_ok-change.change c.in_ok-conf.ensures.frame.same (conf_given (g.E.Etc.files c.args.etc.now) c.as_slice.result.now c.args.options.now (Ok c.in_ok-conf.conf) c.as_slice.ensures c.in_ok-conf.ensures.read) c.in_ok-settings.ensures.read c.in_ok-change.ensures.read
    c.in_err-entries.field-0.0 c.in_err-entries.ensures.read)

pub returns-in_err-plan-clause-answer : goal.returns-in_err-plan-clause-answer
returns-in_err-plan-clause-answer g c =
    let p = err_from_is_err_and c.from_residual-in_err-plan.result c.from_residual-in_err-plan.ensures.1 in
    rw (p.1, p.2) (plan_fail (g.E.Etc.files c.args.etc.now) c.args.options.now (g.E.Etc.files c.read_pairs.new.etc) c.in_ok-conf.conf c.in_ok-settings.settings c.in_ok-change.change c.in_ok-conf.ensures.frame.same (conf_given (g.E.Etc.files c.args.etc.now) c.as_slice.result.now c.args.options.now (Ok c.in_ok-conf.conf) c.as_slice.ensures c.in_ok-conf.ensures.read) c.in_ok-settings.ensures.read c.in_ok-change.ensures.read
    c.in_ok-entries.entries c.in_err-plan.field-0.0 c.in_ok-entries.ensures.read c.in_err-plan.ensures.read)

pub returns-clause-answer : goal.returns-clause-answer
returns-clause-answer g c =
    plan_ends (g.E.Etc.files c.args.etc.now) c.args.options.now (g.E.Etc.files c.read_pairs.new.etc) c.in_ok-conf.conf c.in_ok-settings.settings c.in_ok-change.change c.in_ok-conf.ensures.frame.same (conf_given (g.E.Etc.files c.args.etc.now) c.as_slice.result.now c.args.options.now (Ok c.in_ok-conf.conf) c.as_slice.ensures c.in_ok-conf.ensures.read) c.in_ok-settings.ensures.read c.in_ok-change.ensures.read
    c.in_ok-entries.entries c.in_ok-plan.plan c.in_ok-entries.ensures.read c.in_ok-plan.ensures.read
