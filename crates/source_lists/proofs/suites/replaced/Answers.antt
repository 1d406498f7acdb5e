use Rattle.std.proofs.Common.{refl}
use Rattle.source_lists.proofs.Replaced.{name-step, byte-step, ended}
use Rattle.source_lists.proofs.suites.replaced.Goals as goal

pub loop-rest-preserved-in-Some : goal.loop-rest-preserved-in-Some
loop-rest-preserved-in-Some c =
    let cases = c.in-Some.ensures.cases in
    name-step c.args.arch.now c.loop-rest.rest.now c.in-Some.behind.now c.loop-rest.whole c.append.new.self _ c.loop-rest.invariant c.in-len1-up.len_at_least cases.0 cases.1 c.in_ok-append-in-Some.ensures

pub loop-rest-preserved : goal.loop-rest-preserved
loop-rest-preserved c =
    byte-step c.args.arch.now c.loop-rest.rest.now c.loop-rest.whole c.push.new.self _ _ c.loop-rest.invariant c.in-len1-up.len_at_least c.in-None.ensures.cases c.in_ok-push-in-None.ensures refl

pub returns : goal.returns
returns c = ended c.args.arch.now c.loop-rest.rest.now c.loop-rest.whole _ c.loop-rest.invariant c.in_default.len_below
