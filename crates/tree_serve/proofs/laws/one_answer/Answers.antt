use Rattle.tree_serve.proofs.Streams.{one_answer}
use Rattle.tree_serve.proofs.laws.one_answer.Goals as goal

pub returns : goal.returns
returns c = one_answer
