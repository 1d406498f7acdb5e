use Rattle.apt_conf.specs.Keys.{has_empty_part}
use Rattle.apt_conf.proofs.KeyLemmas.{parted_step, plain_step}
use Rattle.apt_conf.proofs.key.has_empty_part.Goals as goal

pub loop-rest-preserved-then-is_parting : goal.loop-rest-preserved-then-is_parting
loop-rest-preserved-then-is_parting c =
    parted_step c.loop-rest.begins c.loop-rest.rest.now c.is_parting.result (has_empty_part c.args.key.now) c.in-len2-up.len_at_least c.is_parting.ensures c.if-is_parting.true c.if-begins.false c.loop-rest.invariant

pub loop-rest-preserved : goal.loop-rest-preserved
loop-rest-preserved c =
    plain_step c.loop-rest.begins c.loop-rest.rest.now c.is_parting.result (has_empty_part c.args.key.now) c.in-len2-up.len_at_least c.is_parting.ensures c.if-is_parting.false c.loop-rest.invariant
