use Rattle.list_commits.proofs.Begins.{has_committed, is_ready}
use Rattle.list_commits.proofs.committing.commit_groups.Goals as goal

pub prepare-requires : goal.prepare-requires
prepare-requires g c = record { changes = c.requires.changes; staged = c.requires.staged; idle = c.requires.idle }

pub commit-requires : goal.commit-requires
commit-requires g c = record { ready = is_ready c.args.groups _ _ c.in_ok-prepared.ensures.record c.in_ok-prepared.ensures.can_commit }

pub returns-clause-done : goal.returns-clause-done
returns-clause-done g c =
    has_committed c.args.groups c.in_ok-prepared.prepared.groups (g.D.Disk.trace c.args.disk.now) (g.D.Disk.trace c.prepare.new.disk) (g.D.Disk.trace c.commit.new.disk) c.in_ok-prepared.ensures.record c.prepare.ensures.moments
    c.in_ok-prepared.ensures.ready c.in_ok-prepared.ensures.bytes c.commit.ensures.moments c.in_ok-commit.ensures.rests c.in_ok-commit.ensures.later
