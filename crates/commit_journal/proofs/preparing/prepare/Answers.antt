use Rattle.std.proofs.Common.{◌∙◌, ap}
use Rattle.journal_model.specs.Spelling.{body_of}
use Rattle.journal_model.specs.Rest.{part_bytes}
use Rattle.commit_journal.specs.Changes.{all_changes, steps_in}
use Rattle.commit_journal.proofs.Prepares.{record_few, keeps_lists, settled_kept, is_ready, ready_after, bytes_same}
use Rattle.commit_journal.proofs.preparing.prepare.Goals as goal

pub body_bytes-requires-clause-few : goal.body_bytes-requires-clause-few
body_bytes-requires-clause-few g c = (record_few c.args.groups c.as_slice.result.now c.in_ok-rows.rows c.as_slice-2.result.now c.requires.changes c.as_slice.ensures c.in_ok-rows.ensures c.as_slice-2.ensures).0

pub body_bytes-requires-clause-short : goal.body_bytes-requires-clause-short
body_bytes-requires-clause-short g c = (record_few c.args.groups c.as_slice.result.now c.in_ok-rows.rows c.as_slice-2.result.now c.requires.changes c.as_slice.ensures c.in_ok-rows.ensures c.as_slice-2.ensures).1.0

pub body_bytes-requires-clause-allowed : goal.body_bytes-requires-clause-allowed
body_bytes-requires-clause-allowed g c = (record_few c.args.groups c.as_slice.result.now c.in_ok-rows.rows c.as_slice-2.result.now c.requires.changes c.as_slice.ensures c.in_ok-rows.ensures c.as_slice-2.ensures).1.1

pub returns-in_err-write_parts_and_record-clause-moments : goal.returns-in_err-write_parts_and_record-clause-moments
returns-in_err-write_parts_and_record-clause-moments g c = keeps_lists _ _ c.requires.idle c.write_parts_and_record.ensures.moves.moments

pub returns-in_err-write_parts_and_record-clause-synced : goal.returns-in_err-write_parts_and_record-clause-synced
returns-in_err-write_parts_and_record-clause-synced g c = λ settled. settled_kept _ _ c.write_parts_and_record.ensures.moves.moments c.requires.idle settled

pub returns-clause-moments : goal.returns-clause-moments
returns-clause-moments g c = keeps_lists _ _ c.requires.idle c.write_parts_and_record.ensures.moves.moments

pub returns-clause-synced : goal.returns-clause-synced
returns-clause-synced g c = λ settled. settled_kept _ _ c.write_parts_and_record.ensures.moves.moments c.requires.idle settled

pub returns-clause-can_commit : goal.returns-clause-can_commit
returns-clause-can_commit g c =
    is_ready c.args.groups (part_bytes (g.D.Disk.trace c.args.disk.now)) c.as_slice-5.result.now c.in_ok-body.body (all_changes c.as_slice-4.result.now) (g.D.Disk.trace c.write_parts_and_record.new.disk) c.requires.changes
    (c.in_ok-body.ensures ∙ ap body_of (c.as_slice-2.ensures ∙ c.in_ok-rows.ensures ∙ ap steps_in c.as_slice.ensures)) c.as_slice-5.ensures (ap all_changes c.as_slice-4.ensures) c.in_ok-write_parts_and_record.ensures.moves.done c.in_ok-write_parts_and_record.ensures.filled

pub returns-clause-ready : goal.returns-clause-ready
returns-clause-ready g c = ready_after c.args.groups _ _ c.requires.idle c.write_parts_and_record.ensures.moves.moments (is_ready c.args.groups (part_bytes (g.D.Disk.trace c.args.disk.now)) c.as_slice-5.result.now c.in_ok-body.body (all_changes c.as_slice-4.result.now) (g.D.Disk.trace c.write_parts_and_record.new.disk) c.requires.changes
    (c.in_ok-body.ensures ∙ ap body_of (c.as_slice-2.ensures ∙ c.in_ok-rows.ensures ∙ ap steps_in c.as_slice.ensures)) c.as_slice-5.ensures (ap all_changes c.as_slice-4.ensures) c.in_ok-write_parts_and_record.ensures.moves.done c.in_ok-write_parts_and_record.ensures.filled)

pub returns-clause-bytes : goal.returns-clause-bytes
returns-clause-bytes g c = bytes_same c.args.groups (all_changes c.as_slice-4.result.now) (g.D.Disk.trace c.args.disk.now) (g.D.Disk.trace c.write_parts_and_record.new.disk) (ap all_changes c.as_slice-4.ensures) c.write_parts_and_record.ensures.moves.moments c.in_ok-write_parts_and_record.ensures.filled
