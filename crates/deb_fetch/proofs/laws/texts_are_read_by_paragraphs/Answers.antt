use Rattle.deb_fetch.proofs.Readings.{reads_by_paragraphs}
use Rattle.deb_fetch.proofs.laws.texts_are_read_by_paragraphs.Goals as goal

pub returns : goal.returns
returns c = reads_by_paragraphs
