use Rattle.std.proofs.lemmas.Result.{err_from_is_err_and}
use Rattle.configuration.proofs.Fields.{origin_fails, label_fails, suite_fails, codename_fails, changed}
use Rattle.configuration.proofs.change.change_of.Goals as goal

pub returns-in_err-origin : goal.returns-in_err-origin
returns-in_err-origin c =
    let p = err_from_is_err_and c.from_residual-in_err-origin.result c.from_residual-in_err-origin.ensures.1 in
    rw (p.1, p.2) (origin_fails c.args.conf.now c.in_ok-all.all c.in_ok-all.ensures c.in_err-origin.field-0.0 c.in_err-origin.ensures)

pub returns-in_err-label : goal.returns-in_err-label
returns-in_err-label c =
    let p = err_from_is_err_and c.from_residual-in_err-label.result c.from_residual-in_err-label.ensures.1 in
    rw (p.1, p.2) (label_fails c.args.conf.now c.in_ok-all.all c.in_ok-all.ensures c.in_ok-origin.origin c.in_ok-origin.ensures c.in_err-label.field-0.0 c.in_err-label.ensures)

pub returns-in_err-suite : goal.returns-in_err-suite
returns-in_err-suite c =
    let p = err_from_is_err_and c.from_residual-in_err-suite.result c.from_residual-in_err-suite.ensures.1 in
    rw (p.1, p.2) (suite_fails c.args.conf.now c.in_ok-all.all c.in_ok-all.ensures c.in_ok-origin.origin c.in_ok-origin.ensures c.in_ok-label.label c.in_ok-label.ensures c.in_err-suite.field-0.0 c.in_err-suite.ensures)

pub returns-in_err-codename : goal.returns-in_err-codename
returns-in_err-codename c =
    let p = err_from_is_err_and c.from_residual-in_err-codename.result c.from_residual-in_err-codename.ensures.1 in
    rw (p.1, p.2) (codename_fails c.args.conf.now c.in_ok-all.all c.in_ok-all.ensures c.in_ok-origin.origin c.in_ok-origin.ensures c.in_ok-label.label c.in_ok-label.ensures c.in_ok-suite.suite c.in_ok-suite.ensures c.in_err-codename.field-0.0 c.in_err-codename.ensures)

pub returns : goal.returns
returns c = changed c.args.conf.now c.in_ok-all.all c.in_ok-all.ensures c.in_ok-origin.origin c.in_ok-origin.ensures c.in_ok-label.label c.in_ok-label.ensures c.in_ok-suite.suite c.in_ok-suite.ensures c.in_ok-codename.codename c.in_ok-codename.ensures
