use Rattle.std.proofs.lemmas.Result.{err_from_is_err_and}
use Rattle.journal_model.specs.Reading.{groups_at}
use Rattle.journal_model.proofs.Loops.{group_goes_on, group_ends, groups_done}
use Rattle.journal_model.proofs.record.groups.Goals as goal

pub returns-in_err-more : goal.returns-in_err-more
returns-in_err-more c =
    let p = err_from_is_err_and c.from_residual.result c.from_residual.ensures.1 in
    rw (p.1, p.2) (group_ends c.in_err-more.field-0.0 c.loop.seen c.args.count c.loop.counter c.loop.rest.now (groups_at c.args.count c.args.before c.args.bytes.now) c.loop-test.true c.in_err-more.ensures c.loop.invariant)

pub loop-preserved : goal.loop-preserved
loop-preserved c = group_goes_on c.loop.seen c.in_ok-more.more c.args.count c.loop.counter c.loop.rest.now c.in_ok-more.after.now (groups_at c.args.count c.args.before c.args.bytes.now) c.loop-test.true c.in_ok-more.ensures c.loop.invariant

pub returns : goal.returns
returns c = groups_done c.loop.seen c.args.count c.loop.counter c.loop.rest.now (groups_at c.args.count c.args.before c.args.bytes.now) c.loop-test.false c.loop.invariant
