use Rattle.update_model.proofs.Theorems.{deeds_lead_to_next}
use Rattle.update_model.proofs.laws.deeds_lead_to_next.Goals as goal

pub returns : goal.returns
returns c = deeds_lead_to_next
