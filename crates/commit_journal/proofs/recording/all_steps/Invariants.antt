use Rattle.std.proofs.Common.{◌≡◌, take}
use Rattle.journal_model.specs.Spelling.{all_steps}
use Rattle.commit_journal.specs.Changes.{steps_in}
use Rattle.commit_journal.proofs.recording.all_steps.Given as goal

abbrev pub invariant-loop-group : goal.invariant-loop-group
invariant-loop-group l = l.steps ≡ all_steps (steps_in (take l.group-index l.groups))
