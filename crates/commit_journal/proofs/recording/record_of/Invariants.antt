use Rattle.std.proofs.Common.{◌≡◌, take}
use Rattle.commit_journal.specs.Changes.{steps_in}
use Rattle.commit_journal.proofs.recording.record_of.Given as goal

abbrev pub invariant-loop-group : goal.invariant-loop-group
invariant-loop-group l = l.rows ≡ steps_in (take l.group-index l.groups)
