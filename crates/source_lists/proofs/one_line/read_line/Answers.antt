use Rattle.source_lists.proofs.SoundEntries.{line_sound}
use Rattle.source_lists.proofs.one_line.read_line.Goals as goal

pub returns-clause-sound : goal.returns-clause-sound
returns-clause-sound c = line_sound c.args.file.now c.args.arch.now c.args.at c.uncommented-text.result.now c.in_ok-read_entry.field-0 c.in_ok-read_entry.ensures.value c.in_ok-read_entry.ensures.base
