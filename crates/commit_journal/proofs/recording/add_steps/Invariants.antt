use Rattle.std.proofs.Common.{◌≡◌, ◌++◌, take}
use Rattle.commit_journal.specs.Changes.{steps_of}
use Rattle.commit_journal.proofs.recording.add_steps.Given as goal

abbrev pub invariant-loop-change : goal.invariant-loop-change
invariant-loop-change l = l.steps ≡ l.fn.steps ++ steps_of (take l.change-index l.changes)
