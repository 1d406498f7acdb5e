use Rattle.journal_model.specs.Rest.{part_bytes}
use Rattle.commit_journal.specs.Changes.{filled_all}
use Rattle.commit_journal.specs.Turning.{CommitsOnceSynced}
use Rattle.commit_journal.proofs.Lists.{anyhow}
use Rattle.commit_journal.proofs.Turned.{turns_first, turns_second, keeps_second, opens_over, settled_on, later_on}
use Rattle.commit_journal.proofs.committing.open_gate.Goals as goal

pub returns-in_err-write_gate-clause-turns : goal.returns-in_err-write_gate-clause-turns
returns-in_err-write_gate-clause-turns g c =
    turns_first c.args.prepared.now.groups (filled_all (part_bytes (g.D.Disk.trace c.args.disk.now)) c.args.prepared.now.groups) _ _ c.write_gate.ensures.moments c.write_gate.ensures.once

pub returns-clause-moments : goal.returns-clause-moments
returns-clause-moments g c =
    keeps_second c.args.prepared.now.groups (filled_all (part_bytes (g.D.Disk.trace c.args.disk.now)) c.args.prepared.now.groups) _ _ _ c.write_gate.ensures.moments c.in_ok-write_gate.ensures.over c.sync_open_gate.ensures.opens

pub returns-clause-turns : goal.returns-clause-turns
returns-clause-turns g c =
    turns_second c.args.prepared.now.groups (filled_all (part_bytes (g.D.Disk.trace c.args.disk.now)) c.args.prepared.now.groups) _ _ _ c.write_gate.ensures.moments c.write_gate.ensures.once c.in_ok-write_gate.ensures.over c.sync_open_gate.ensures.opens

pub returns-clause-later : goal.returns-clause-later
returns-clause-later g c = anyhow c.sync_open_gate.result (later_on (CommitsOnceSynced c.args.prepared.now.groups (g.D.Disk.trace c.write_gate.new.disk)) _ _ _ c.in_ok-write_gate.ensures.later c.sync_open_gate.ensures.opens)

pub returns-clause-synced : goal.returns-clause-synced
returns-clause-synced g c = λ settled. settled_on _ _ _ c.write_gate.ensures.synced c.sync_open_gate.ensures.moves.moments settled

pub returns-clause-over : goal.returns-clause-over
returns-clause-over g c =
    opens_over c.args.prepared.now.groups (filled_all (part_bytes (g.D.Disk.trace c.args.disk.now)) c.args.prepared.now.groups) _ _ _ c.sync_open_gate.result c.in_ok-write_gate.ensures.over c.sync_open_gate.ensures.new
