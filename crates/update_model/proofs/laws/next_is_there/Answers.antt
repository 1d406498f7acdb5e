use Rattle.update_model.proofs.Theorems.{next_is_there}
use Rattle.update_model.proofs.laws.next_is_there.Goals as goal

pub returns : goal.returns
returns c = next_is_there
