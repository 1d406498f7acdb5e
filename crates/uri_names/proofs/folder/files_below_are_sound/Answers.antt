use Rattle.uri_names.proofs.NamedSound.{named_sound}
use Rattle.uri_names.proofs.folder.files_below_are_sound.Goals as goal

pub returns : goal.returns
returns c = named_sound
