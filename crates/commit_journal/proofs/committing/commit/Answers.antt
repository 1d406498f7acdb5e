use Rattle.journal_model.specs.Rest.{part_bytes}
use Rattle.commit_journal.specs.Changes.{filled_all}
use Rattle.commit_journal.proofs.Others.{others_on}
use Rattle.commit_journal.proofs.Turned.{turns_third, keeps_third, settled_on, rests_after, unnamed_stay}
use Rattle.commit_journal.proofs.committing.commit.Goals as goal

pub returns-in_err-open_gate-clause-others : goal.returns-in_err-open_gate-clause-others
returns-in_err-open_gate-clause-others g c = unnamed_stay c.args.prepared.groups _ _ c.open_gate.ensures.others

pub returns-in_err-carry_out-clause-moments : goal.returns-in_err-carry_out-clause-moments
returns-in_err-carry_out-clause-moments g c =
    keeps_third c.args.prepared.groups (filled_all (part_bytes (g.D.Disk.trace c.args.disk.now)) c.args.prepared.groups) _ _ _ c.open_gate.ensures.moments c.in_ok-open_gate.ensures.over c.carry_out.ensures.moves.moments

pub returns-in_err-carry_out-clause-turns : goal.returns-in_err-carry_out-clause-turns
returns-in_err-carry_out-clause-turns g c =
    turns_third c.args.prepared.groups (filled_all (part_bytes (g.D.Disk.trace c.args.disk.now)) c.args.prepared.groups) _ _ _ c.open_gate.ensures.turns c.in_ok-open_gate.ensures.over c.carry_out.ensures.moves.moments

pub returns-in_err-carry_out-clause-synced : goal.returns-in_err-carry_out-clause-synced
returns-in_err-carry_out-clause-synced g c = λ settled. settled_on _ _ _ c.open_gate.ensures.synced c.carry_out.ensures.moves.moments settled

pub returns-in_err-carry_out-clause-others : goal.returns-in_err-carry_out-clause-others
returns-in_err-carry_out-clause-others g c = unnamed_stay c.args.prepared.groups _ _ (others_on _ _ _ _ c.open_gate.ensures.others c.carry_out.ensures.moves.others)

pub returns-clause-moments : goal.returns-clause-moments
returns-clause-moments g c =
    keeps_third c.args.prepared.groups (filled_all (part_bytes (g.D.Disk.trace c.args.disk.now)) c.args.prepared.groups) _ _ _ c.open_gate.ensures.moments c.in_ok-open_gate.ensures.over c.carry_out.ensures.moves.moments

pub returns-clause-turns : goal.returns-clause-turns
returns-clause-turns g c =
    turns_third c.args.prepared.groups (filled_all (part_bytes (g.D.Disk.trace c.args.disk.now)) c.args.prepared.groups) _ _ _ c.open_gate.ensures.turns c.in_ok-open_gate.ensures.over c.carry_out.ensures.moves.moments

pub returns-clause-rests : goal.returns-clause-rests
returns-clause-rests g c =
    rests_after c.args.prepared.groups (filled_all (part_bytes (g.D.Disk.trace c.args.disk.now)) c.args.prepared.groups) _ _ _ (g.met.D.Disk.sound c.carry_out.new.disk) c.in_ok-carry_out.ensures.moves.done
    (λ settled. settled_on _ _ _ c.open_gate.ensures.synced c.carry_out.ensures.moves.moments settled) c.in_ok-open_gate.ensures.over c.carry_out.ensures.moves.moments

pub returns-clause-synced : goal.returns-clause-synced
returns-clause-synced g c = λ settled. settled_on _ _ _ c.open_gate.ensures.synced c.carry_out.ensures.moves.moments settled

pub returns-clause-others : goal.returns-clause-others
returns-clause-others g c = unnamed_stay c.args.prepared.groups _ _ (others_on _ _ _ _ c.open_gate.ensures.others c.carry_out.ensures.moves.others)
