use Rattle.std.proofs.Common.{rules, ◌≡◌, ◌++◌, ◌∷◌, []}
use Rattle.acq_outside.specs.Crash.{all_renamed}
use Rattle.acq_memory.specs.Replay.{names_in}
use Rattle.acq_memory.specs.Replay.{nowhere}
use Rattle.acq_memory.proofs.Replaying.{pushed}
use Rattle.acq_memory.proofs.replay.Replay.rename_pending.Goals as goal

pub returns-clause-standing : goal.returns-clause-standing
returns-clause-standing c =
    let more : c.push.new.self.items ≡ c.args.self.now.pending.items ++ c.args.change ∷ [] = search rules in
    pushed (all_renamed nowhere c.args.self.now.settled.items) (names_in c.args.self.now.names) (names_in c.rename_one.new.names) c.args.self.now.pending.items c.push.new.self.items c.args.change c.requires c.in_ok-rename_one.ensures more
