use Rattle.std.proofs.Common.{ℕ, ◌+◌, ◌-◌, ◌≤◌, ◌++◌, List, length, drop}
use Rattle.method_messages.specs.declared.message.Message.{Message}
use Rattle.method_messages.specs.Within.{Within}
use Rattle.method_messages.proofs.progress.read_messages.Given as goal

abbrev pub invariant-lines : goal.invariant-lines
invariant-lines l =
    (l.progress.start + l.progress.seen ≤ length l.text)
    × ((stream : List ℕ) (before : List Message) → Within stream before l.text l.fn.seen l.fn.begins
    → Within stream (before ++ l.progress.messages) (drop l.progress.start l.text) l.progress.seen l.progress.begins)

abbrev pub decreases-lines : goal.decreases-lines
decreases-lines l = length l.text - (l.progress.start + l.progress.seen)
