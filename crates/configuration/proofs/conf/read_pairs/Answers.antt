use Rattle.std.proofs.Common.{◌∙◌, Ok, Err}
use Rattle.std.proofs.lemmas.Result.{err_from_is_err_and}
use Rattle.configuration.proofs.Steps.{conf_outside, conf_parts_stop, conf_single_stop, conf_options_stop, conf_ends, conf_parts_from}
use Rattle.configuration.proofs.conf.read_pairs.Goals as goal

pub returns-in_err-names-clause-read : goal.returns-in_err-names-clause-read
returns-in_err-names-clause-read g c =
    let p = err_from_is_err_and c.from_residual.result c.from_residual.ensures.1 in
    rw (p.1, p.2) (conf_outside (g.E.Etc.files c.args.etc.now) c.args.options.now c.in_err-names.field-0.0 c.in_err-names.ensures.outside)

pub returns-in_err-add_parts-clause-read : goal.returns-in_err-add_parts-clause-read
returns-in_err-add_parts-clause-read g c =
    let p = err_from_is_err_and c.from_residual-in_err-add_parts.result c.from_residual-in_err-add_parts.ensures.1 in
    rw (p.1, p.2) (conf_parts_stop (g.E.Etc.files c.args.etc.now) c.args.options.now (g.E.Etc.files c.counted_names.new.etc) c.in_ok-names.names.items c.add_parts.new.conf c.in_err-add_parts.field-0.0 c.in_ok-names.ensures.frame.same c.in_ok-names.ensures.names
    (conf_parts_from (g.E.Etc.files c.counted_names.new.etc) c.as_slice.result.now c.in_ok-names.names.items c.new-conf.result c.add_parts.new.conf (Err c.in_err-add_parts.field-0.0) c.as_slice.ensures.value c.new-conf.ensures c.in_err-add_parts.ensures.read))

pub returns-in_err-add_single-clause-read : goal.returns-in_err-add_single-clause-read
returns-in_err-add_single-clause-read g c =
    let p = err_from_is_err_and c.from_residual-in_err-add_single.result c.from_residual-in_err-add_single.ensures.1 in
    rw (p.1, p.2) (conf_single_stop (g.E.Etc.files c.args.etc.now) c.args.options.now (g.E.Etc.files c.counted_names.new.etc) (g.E.Etc.files c.add_parts.new.etc) c.in_ok-names.names.items c.add_parts.new.conf c.in_ok-add_parts.field-0 c.in_ok-names.ensures.frame.same (c.in_ok-add_parts.ensures.frame.same ∙ c.in_ok-names.ensures.frame.same) c.in_ok-names.ensures.names
    c.add_single.new.conf c.in_err-add_single.field-0.0
    (conf_parts_from (g.E.Etc.files c.counted_names.new.etc) c.as_slice.result.now c.in_ok-names.names.items c.new-conf.result c.add_parts.new.conf (Ok c.in_ok-add_parts.field-0) c.as_slice.ensures.value c.new-conf.ensures c.in_ok-add_parts.ensures.read)
    c.in_err-add_single.ensures.read)

pub returns-in_err-add_options-clause-read : goal.returns-in_err-add_options-clause-read
returns-in_err-add_options-clause-read g c =
    let p = err_from_is_err_and c.from_residual-in_err-add_options.result c.from_residual-in_err-add_options.ensures.1 in
    rw (p.1, p.2) (conf_options_stop (g.E.Etc.files c.args.etc.now) c.args.options.now (g.E.Etc.files c.counted_names.new.etc) (g.E.Etc.files c.add_parts.new.etc) c.in_ok-names.names.items c.add_parts.new.conf c.in_ok-add_parts.field-0 c.in_ok-names.ensures.frame.same (c.in_ok-add_parts.ensures.frame.same ∙ c.in_ok-names.ensures.frame.same) c.in_ok-names.ensures.names
    c.add_single.new.conf c.add_options.new.conf c.in_ok-add_single.field-0 c.in_err-add_options.field-0.0
    (conf_parts_from (g.E.Etc.files c.counted_names.new.etc) c.as_slice.result.now c.in_ok-names.names.items c.new-conf.result c.add_parts.new.conf (Ok c.in_ok-add_parts.field-0) c.as_slice.ensures.value c.new-conf.ensures c.in_ok-add_parts.ensures.read)
    c.in_ok-add_single.ensures.read c.in_err-add_options.ensures.read)

pub returns-clause-read : goal.returns-clause-read
returns-clause-read g c =
    conf_ends (g.E.Etc.files c.args.etc.now) c.args.options.now (g.E.Etc.files c.counted_names.new.etc) (g.E.Etc.files c.add_parts.new.etc) c.in_ok-names.names.items c.add_parts.new.conf c.in_ok-add_parts.field-0 c.in_ok-names.ensures.frame.same (c.in_ok-add_parts.ensures.frame.same ∙ c.in_ok-names.ensures.frame.same) c.in_ok-names.ensures.names
    c.add_single.new.conf c.add_options.new.conf c.in_ok-add_single.field-0 c.in_ok-add_options.field-0
    (conf_parts_from (g.E.Etc.files c.counted_names.new.etc) c.as_slice.result.now c.in_ok-names.names.items c.new-conf.result c.add_parts.new.conf (Ok c.in_ok-add_parts.field-0) c.as_slice.ensures.value c.new-conf.ensures c.in_ok-add_parts.ensures.read)
    c.in_ok-add_single.ensures.read c.in_ok-add_options.ensures.read
