use Rattle.std.proofs.lemmas.Result.{err_from_is_err_and}
use Rattle.configuration.specs.Configured.{option_pair}
use Rattle.configuration.proofs.Parts.{said_begins, said_goes, said_stops, said_ends}
use Rattle.configuration.proofs.conf.add_options.Goals as goal

pub loop-option-init : goal.loop-option-init
loop-option-init c = said_begins option_pair c.args.conf.now

pub loop-option-preserved : goal.loop-option-preserved
loop-option-preserved c = said_goes option_pair c.args.options.now c.loop-option.option-index c.option-item.result c.args.conf.now c.loop-option.conf c.add_option.new.conf c.in_ok-add_option.field-0 c.loop-option.invariant c.loop-option-test.true c.option-item.is c.in_ok-add_option.ensures.read

pub returns-in_err-add_option-clause-read : goal.returns-in_err-add_option-clause-read
returns-in_err-add_option-clause-read c =
    let p = err_from_is_err_and c.from_residual.result c.from_residual.ensures.1 in
    rw (p.1, p.2) (said_stops option_pair c.args.options.now c.loop-option.option-index c.option-item.result c.args.conf.now c.loop-option.conf c.add_option.new.conf c.add_option.new.conf c.in_err-add_option.field-0.0 c.loop-option.invariant c.loop-option-test.true c.option-item.is c.in_err-add_option.ensures.read)

pub returns-clause-read : goal.returns-clause-read
returns-clause-read c = said_ends option_pair c.args.options.now c.loop-option.option-index c.args.conf.now c.loop-option.conf _ c.loop-option.invariant c.loop-option-test.false
