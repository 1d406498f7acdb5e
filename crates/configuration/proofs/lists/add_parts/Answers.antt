use Rattle.std.proofs.Common.{rules}
use Rattle.std.proofs.lemmas.Result.{err_from_is_err_and}
use Rattle.acq_outside.specs.declared.etc.Place.TheVariants.{SourcesParts}
use Rattle.configuration.specs.Configured.{list_part}
use Rattle.configuration.proofs.Parts.{begins_at, goes_at, stops_at, ends}
use Rattle.configuration.proofs.lists.add_parts.Goals as goal

pub loop-name-init : goal.loop-name-init
loop-name-init g c = record {
  quiet = search rules;
  same = search rules;
  read = begins_at (g.E.Etc.files c.args.etc.now) SourcesParts (list_part c.args.arch.now) c.args.names.now c.args.entries.now;
  sound = λ all. all;
}

pub loop-name-preserved : goal.loop-name-preserved
loop-name-preserved g c = record {
  quiet = search rules;
  same = search rules;
  read = goes_at (g.E.Etc.files c.args.etc.now) SourcesParts (list_part c.args.arch.now) (g.E.Etc.files c.loop-name.etc) c.loop-name.invariant.same c.args.names.now c.loop-name.name-index c.name-item.result c.args.entries.now c.loop-name.entries c.add_part.new.entries c.in_ok-add_part.field-0 c.loop-name.invariant.read c.loop-name-test.true c.name-item.is c.in_ok-add_part.ensures.read;
  sound = λ all. c.in_ok-add_part.ensures.sound (c.loop-name.invariant.sound all);
}

pub returns-in_err-add_part-clause-read : goal.returns-in_err-add_part-clause-read
returns-in_err-add_part-clause-read g c =
    let p = err_from_is_err_and c.from_residual.result c.from_residual.ensures.1 in
    rw (p.1, p.2) (stops_at (g.E.Etc.files c.args.etc.now) SourcesParts (list_part c.args.arch.now) (g.E.Etc.files c.loop-name.etc) c.loop-name.invariant.same c.args.names.now c.loop-name.name-index c.name-item.result c.args.entries.now c.loop-name.entries c.add_part.new.entries c.add_part.new.entries c.in_err-add_part.field-0.0 c.loop-name.invariant.read c.loop-name-test.true c.name-item.is c.in_err-add_part.ensures.read)

pub returns-clause-read : goal.returns-clause-read
returns-clause-read g c = ends (g.E.Etc.files c.args.etc.now) SourcesParts (list_part c.args.arch.now) c.args.names.now c.loop-name.name-index c.args.entries.now c.loop-name.entries _ c.loop-name.invariant.read c.loop-name-test.false
