use Rattle.acq_outside.proofs.Choices.{image_of-is, every_image}
use Rattle.acq_outside.proofs.crash.choices_leave.Goals as goal

pub returns : goal.returns
returns c = λ s sound. ((λ choice. image_of-is s choice sound), every_image s)
