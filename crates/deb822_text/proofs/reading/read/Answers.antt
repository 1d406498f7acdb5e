use Rattle.std.proofs.Common.{inl, inr, ◌∙◌}
use Rattle.deb822_text.specs.Control.{paragraphs_of, lines_of}
use Rattle.deb822_text.proofs.Groups.{scan-start}
use Rattle.deb822_text.proofs.Faults.{explains}
use Rattle.deb822_text.proofs.reading.read.Goals as goal

pub returns-clause-value : goal.returns-clause-value
unfolding paragraphs_of
returns-clause-value c = elim c.scanned.ensures [ inl memory ↦ inl memory | inr read ↦ inr (read ∙ scan-start (lines_of c.args.comments c.args.bytes.now)) ]

pub returns-clause-allowed : goal.returns-clause-allowed
returns-clause-allowed c = (explains c.scanned.result (lines_of c.args.comments c.args.bytes.now) c.scanned.ensures).0

pub returns-clause-refused : goal.returns-clause-refused
returns-clause-refused c = (explains c.scanned.result (lines_of c.args.comments c.args.bytes.now) c.scanned.ensures).1
