use Rattle.std.proofs.Common.{◌≡◌, ◌++◌, take}
use Rattle.std.specs.List.{flat_map}
use Rattle.deb822_text.specs.Written.{next_paragraph_text}
use Rattle.deb822_text.proofs.writing.put_more.Given as goal

abbrev pub invariant-loop-paragraph : goal.invariant-loop-paragraph
invariant-loop-paragraph l = l.text ≡ l.fn.text ++ flat_map next_paragraph_text (take l.paragraph-index l.more)
