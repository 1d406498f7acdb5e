use Rattle.ed_apply.proofs.EditLaws.{agree}
use Rattle.ed_apply.proofs.laws.applied_is_edited.Goals as goal

pub returns : goal.returns
returns c = λ old script new. agree old script new
