use Rattle.journal_model.proofs.Places.{within_file}
use Rattle.journal_model.proofs.laws.damage_is_within.Goals as goal

pub returns : goal.returns
returns c = within_file
