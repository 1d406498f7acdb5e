use Rattle.std.proofs.Common.{◌∙◌, Ok, Err}
use Rattle.std.proofs.lemmas.Result.{err_from_is_err_and}
use Rattle.configuration.proofs.Steps.{list_ends, list_from, list_names_stop, list_parts_from, list_parts_stop, list_single_stop}
use Rattle.configuration.proofs.lists.read_entries.Goals as goal

pub returns-in_err-add_single-clause-read : goal.returns-in_err-add_single-clause-read
returns-in_err-add_single-clause-read g c =
    let p = err_from_is_err_and c.from_residual.result c.from_residual.ensures.1 in
    rw (p.1, p.2) (list_single_stop (g.E.Etc.files c.args.etc.now) c.args.arch.now c.add_single.new.entries c.in_err-add_single.field-0.0 (list_from (g.E.Etc.files c.args.etc.now) c.args.arch.now c.new-entries.result c.add_single.new.entries (Err c.in_err-add_single.field-0.0) c.new-entries.ensures c.in_err-add_single.ensures.read))

pub returns-in_err-names-clause-read : goal.returns-in_err-names-clause-read
returns-in_err-names-clause-read g c =
    let p = err_from_is_err_and c.from_residual-in_err-names.result c.from_residual-in_err-names.ensures.1 in
    rw (p.1, p.2) (list_names_stop (g.E.Etc.files c.args.etc.now) c.args.arch.now c.add_single.new.entries c.in_ok-add_single.field-0 c.in_err-names.field-0.0 (list_from (g.E.Etc.files c.args.etc.now) c.args.arch.now c.new-entries.result c.add_single.new.entries (Ok c.in_ok-add_single.field-0) c.new-entries.ensures c.in_ok-add_single.ensures.read) c.in_err-names.ensures.outside)

pub returns-in_err-add_parts-clause-read : goal.returns-in_err-add_parts-clause-read
returns-in_err-add_parts-clause-read g c =
    let p = err_from_is_err_and c.from_residual-in_err-add_parts.result c.from_residual-in_err-add_parts.ensures.1 in
    rw (p.1, p.2) (list_parts_stop (g.E.Etc.files c.args.etc.now) c.args.arch.now (g.E.Etc.files c.add_single.new.etc) (g.E.Etc.files c.counted_names.new.etc) c.in_ok-names.names.items c.add_single.new.entries c.in_ok-add_single.field-0 c.in_ok-add_single.ensures.frame.same (c.in_ok-names.ensures.frame.same ∙ c.in_ok-add_single.ensures.frame.same) c.in_ok-names.ensures.names
    c.add_parts.new.entries c.in_err-add_parts.field-0.0
    (list_from (g.E.Etc.files c.args.etc.now) c.args.arch.now c.new-entries.result c.add_single.new.entries (Ok c.in_ok-add_single.field-0) c.new-entries.ensures c.in_ok-add_single.ensures.read)
    (list_parts_from (g.E.Etc.files c.counted_names.new.etc) c.args.arch.now c.as_slice.result.now c.in_ok-names.names.items c.add_single.new.entries c.add_parts.new.entries (Err c.in_err-add_parts.field-0.0) c.as_slice.ensures.value c.in_err-add_parts.ensures.read))

pub returns-clause-read : goal.returns-clause-read
returns-clause-read g c =
    list_ends (g.E.Etc.files c.args.etc.now) c.args.arch.now (g.E.Etc.files c.add_single.new.etc) (g.E.Etc.files c.counted_names.new.etc) c.in_ok-names.names.items c.add_single.new.entries c.in_ok-add_single.field-0 c.in_ok-add_single.ensures.frame.same (c.in_ok-names.ensures.frame.same ∙ c.in_ok-add_single.ensures.frame.same) c.in_ok-names.ensures.names
    c.add_parts.new.entries c.in_ok-add_parts.field-0
    (list_from (g.E.Etc.files c.args.etc.now) c.args.arch.now c.new-entries.result c.add_single.new.entries (Ok c.in_ok-add_single.field-0) c.new-entries.ensures c.in_ok-add_single.ensures.read)
    (list_parts_from (g.E.Etc.files c.counted_names.new.etc) c.args.arch.now c.as_slice.result.now c.in_ok-names.names.items c.add_single.new.entries c.add_parts.new.entries (Ok c.in_ok-add_parts.field-0) c.as_slice.ensures.value c.in_ok-add_parts.ensures.read)
