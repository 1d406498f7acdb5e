use Rattle.byte_vectors.proofs.scripts.put_edited.Goals as goal

pub loop-text-preserved : goal.loop-text-preserved
loop-text-preserved c = c.then.ensures.of c.args.old.now c.loop-text.invariant
