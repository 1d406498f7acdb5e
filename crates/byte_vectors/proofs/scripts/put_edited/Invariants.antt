use Rattle.ed_apply.specs.Files.{IsOf}
use Rattle.byte_vectors.proofs.scripts.put_edited.Given as goal

abbrev pub invariant-loop-text : goal.invariant-loop-text
invariant-loop-text l = IsOf l.edit l.old
