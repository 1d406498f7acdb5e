use Rattle.std.proofs.Common.{◌≡◌, drop}
use Rattle.std.specs.List.{list_all}
use Rattle.deb822_text.specs.Written.{is_writable_paragraph}
use Rattle.deb822_text.proofs.judging.can_write.Given as goal

abbrev pub invariant-loop-paragraph : goal.invariant-loop-paragraph
invariant-loop-paragraph l = list_all is_writable_paragraph (drop l.paragraph-index l.paragraph-items) ≡ list_all is_writable_paragraph l.fn.paragraphs
