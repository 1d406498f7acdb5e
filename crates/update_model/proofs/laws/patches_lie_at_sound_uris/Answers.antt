use Rattle.std.proofs.Common.{refl}
use Rattle.update_model.proofs.Theorems.{asks_are_sound, patch_uris_are_short, patch_uris_are_sound}
use Rattle.update_model.proofs.laws.patches_lie_at_sound_uris.Goals as goal

pub returns-clause-sound : goal.returns-clause-sound
returns-clause-sound c = patch_uris_are_sound

pub returns-clause-short : goal.returns-clause-short
returns-clause-short c = patch_uris_are_short

pub returns-clause-index : goal.returns-clause-index
returns-clause-index c = refl

pub returns-clause-asks : goal.returns-clause-asks
returns-clause-asks c = asks_are_sound
