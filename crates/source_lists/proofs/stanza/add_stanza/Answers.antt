use Rattle.source_lists.proofs.SoundEntries.{more_sound}
use Rattle.source_lists.proofs.stanza.add_stanza.Goals as goal

pub returns-clause-sound : goal.returns-clause-sound
returns-clause-sound c = λ all.
    more_sound c.args.file.now c.first_at.result c.args.arch.now c.args.paragraph.now.fields c.in_ok-stanza.stanza c.args.entries.now c.add_entries.new.entries c.in_ok-stanza.ensures.value c.in_ok-stanza.ensures.sound all c.in_ok-add_entries.ensures
