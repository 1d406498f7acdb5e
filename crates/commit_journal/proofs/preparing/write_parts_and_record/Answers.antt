use Rattle.std.proofs.Common.{rules}
use Rattle.journal_model.specs.Rest.{part_bytes}
use Rattle.commit_journal.specs.Changes.{all_changes}
use Rattle.commit_journal.proofs.Fills.{rests_on, idle_on}
use Rattle.commit_journal.proofs.Prepares.{filled_at, unnamed_on}
use Rattle.commit_journal.proofs.preparing.write_parts_and_record.Goals as goal

pub fill_all-requires : goal.fill_all-requires
fill_all-requires g c = record { allowed = c.requires.changes.allowed; apart = c.requires.changes.apart; staged = c.requires.staged; idle = c.requires.idle }

pub write_record-requires : goal.write_record-requires
write_record-requires g c = idle_on _ _ c.fill_all.ensures.fills.moments c.requires.idle

pub returns-in_err-fill_all-clause-moves : goal.returns-in_err-fill_all-clause-moves
returns-in_err-fill_all-clause-moves g c = record { moments = c.fill_all.ensures.fills.moments; others = λ other journals none. c.fill_all.ensures.fills.others other none; done = search rules }

pub returns-clause-moves : goal.returns-clause-moves
returns-clause-moves g c = record {
  moments = rests_on _ _ _ c.fill_all.ensures.fills.moments c.write_record.ensures.moves.moments;
  others = unnamed_on c.args.groups.now (g.D.Disk.trace c.args.disk.now) (g.D.Disk.trace c.fill_all.new.disk) (g.D.Disk.trace c.write_record.new.disk) c.fill_all.ensures.fills.others c.write_record.ensures.moves.others;
  done = c.write_record.ensures.moves.done;
}

pub returns-clause-filled : goal.returns-clause-filled
returns-clause-filled g c = filled_at c.write_record.result (part_bytes (g.D.Disk.trace c.args.disk.now)) (all_changes c.args.groups.now) _ _ c.write_record.ensures.moves.moments.untold c.write_record.ensures.moves.others c.in_ok-fill_all.ensures.fills.done
