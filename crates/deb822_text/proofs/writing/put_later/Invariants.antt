use Rattle.std.proofs.Common.{◌≡◌, ◌++◌, take}
use Rattle.std.specs.List.{flat_map}
use Rattle.deb822_text.specs.Written.{later_line_text}
use Rattle.deb822_text.proofs.writing.put_later.Given as goal

abbrev pub invariant-loop-line : goal.invariant-loop-line
invariant-loop-line l = l.text ≡ l.fn.text ++ flat_map later_line_text (take l.line-index l.later)
