use Rattle.tree_serve.proofs.Streams.{cut_is_front}
use Rattle.tree_serve.proofs.laws.cuts_are_fronts.Goals as goal

pub returns : goal.returns
returns c = cut_is_front
